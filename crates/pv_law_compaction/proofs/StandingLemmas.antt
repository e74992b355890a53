-- Compacted lists stand for what they were made of, and standing is kept.
use Rattle.std.proofs.Common.{◌≡◌, ℕ, Bool, Some, None, Option, List, refl, sym, ◌∙◌}
use Rattle.std.specs.Prelude.{IsTrue}
use Rattle.std.proofs.lemmas.Option.{none-some}
use Rattle.pv_base.specs.Catalog.{Declared}
use Rattle.pv_base.specs.declared.txn.TxnId.{TxnId}
use Rattle.pv_format.specs.Record.{Record}
use Rattle.pv_law_acts.proofs.RecordLemmas.{known-listed}
use Rattle.pv_law_compaction.proofs.CompactLemmas.{compacted-epoch, compacted-promised, compacted-promises, compacted-was-known, compacted-commit}
use Rattle.pv_law_compaction.proofs.ValueLemmas.{compacted-value, compacted-narrow, compacted-depends}
use Rattle.pv_law_compaction.specs.Compact.{compact}
use Rattle.pv_law_compaction.specs.Given.{is_given, HeedsGiven, DependOnGiven, AreConsistent}
use Rattle.pv_law_compaction.specs.StandsFor.{StandsFor}
use Rattle.pv_protocol.specs.Records.{known}
use Rattle.pv_protocol.specs.Width.{IsNarrow}

module _ (limit : ℕ) (catalog : Declared) (site : ℕ) where
  pub compact-stands : (records : List Record) → IsNarrow limit catalog site records → DependOnGiven catalog site records
      → StandsFor limit catalog site (compact catalog site records) records
  compact-stands records narrow depends = record {
    epoch = compacted-epoch records site catalog;
    values = λ item home a heeds. compacted-value catalog site records depends item home a;
    promised = compacted-promised records site catalog;
    promises = λ t given is unknown. compacted-promises records site catalog t is unknown;
    outcomes = λ t b given h. compacted-was-known records site catalog t b given h;
    commits = compacted-commit records site catalog;
    narrow = compacted-narrow catalog site records limit narrow depends;
    given = compacted-depends catalog site records depends;
  }

  -- Records stand for themselves.
  pub itself-stands : (records : List Record) → IsNarrow limit catalog site records → DependOnGiven catalog site records → AreConsistent records
      → StandsFor limit catalog site records records
  itself-stands records narrow depends consistent = record {
    epoch = refl;
    values = λ item home a heeds. refl;
    promised = λ t given is. is;
    promises = λ t given is unknown. is;
    outcomes = λ t b given h. consistent t b h;
    commits = λ t given own is. is;
    narrow = narrow;
    given = depends;
  }

  module _ (kept all : List Record) (stands : StandsFor limit catalog site kept all) where
    -- What is known by the kept list was.
    pub known-was : (t : TxnId) (b : Bool) → IsTrue (is_given t) → known kept t ≡ Some b → known all t ≡ Some b
    known-was t b given is = stands.outcomes t b given (known-listed kept t b is)

    pub unknown-is : (t : TxnId) → IsTrue (is_given t) → known all t ≡ None → known kept t ≡ None
    unknown-is t given unknown = by (known kept t) refl where
      by : (outcome : Option Bool) → known kept t ≡ outcome → known kept t ≡ None
      by None is = is
      by (Some b) is = absurd (none-some b (sym unknown ∙ known-was t b given is))

    pub heeds-kept : (a : List TxnId) → HeedsGiven all a → HeedsGiven kept a
    heeds-kept a heeds = λ t b given is. heeds t b given (known-was t b given is)

  pub stands-trans : (kept middle all : List Record) → StandsFor limit catalog site kept middle → StandsFor limit catalog site middle all
      → StandsFor limit catalog site kept all
  stands-trans kept middle all first second = record {
    epoch = first.epoch ∙ second.epoch;
    values = λ item home a heeds. first.values item home a (heeds-kept middle all second a heeds) ∙ second.values item home a heeds;
    promised = λ t given is. second.promised t given (first.promised t given is);
    promises = λ t given is unknown. first.promises t given (second.promises t given is unknown) (unknown-is middle all second t given unknown);
    outcomes = λ t b given h. known-was middle all second t b given (first.outcomes t b given h);
    commits = λ t given own is. first.commits t given own (second.commits t given own is);
    narrow = first.narrow;
    given = first.given;
  }
