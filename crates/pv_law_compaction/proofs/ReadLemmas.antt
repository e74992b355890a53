-- What is read of a list that stands for another is what is read of that.
use Rattle.std.proofs.Common.{◌≡◌, ℕ, Bool, true, false, Some, None, List, refl, sym, ap, ◌∙◌}
use Rattle.std.specs.Prelude.{IsTrue}
use Rattle.std.specs.List.{list_any}
use Rattle.pv_base.specs.Catalog.{Declared}
use Rattle.pv_base.specs.Polyvalue.{value_at}
use Rattle.pv_base.specs.declared.txn.TxnId.{TxnId}
use Rattle.pv_format.specs.Record.{Record}
use Rattle.pv_law_acts.proofs.RecordLemmas.{known-listed, yes-listed, listed-yes}
use Rattle.pv_law_compaction.specs.Given.{is_given, HeedsGiven, AreConsistent}
use Rattle.pv_law_compaction.specs.StandsFor.{StandsFor}
use Rattle.pv_law_step.proofs.ShownLemmas.{shown-value}
use Rattle.pv_protocol.specs.Committed.{home_of, says_yes}
use Rattle.pv_protocol.specs.Lock.{is_home}
use Rattle.pv_protocol.specs.Records.{known, is_prepared}
use Rattle.pv_protocol.specs.Shown.{shown}

-- Two tests that pass together are one.
pub same-tests : (b c : Bool) → (b ≡ true → c ≡ true) → (c ≡ true → b ≡ true) → b ≡ c
same-tests true c there back = sym (there refl)
same-tests false true there back = back refl
same-tests false false there back = refl

module _ (limit : ℕ) (catalog : Declared) (site : ℕ) (kept all : List Record) (stands : StandsFor limit catalog site kept all) where
  pub shown-same : (item : ℕ) → IsTrue (is_home catalog site item) → (a : List TxnId) → HeedsGiven all a
      → value_at (shown catalog kept item) a ≡ value_at (shown catalog all item) a
  shown-same item home a heeds =
      shown-value catalog kept kept item a ∙ ap Some (stands.values item home a heeds) ∙ sym (shown-value catalog all all item a)

  pub prepared-same : (t : TxnId) → IsTrue (is_given t) → known all t ≡ None → is_prepared kept t ≡ is_prepared all t
  prepared-same t given unknown =
      same-tests (is_prepared kept t) (is_prepared all t) (stands.promised t given) (λ is. stands.promises t given is unknown)

  pub yes-same : AreConsistent all → (t : TxnId) → IsTrue (is_given t) → home_of t ≡ site → list_any (says_yes t) kept ≡ list_any (says_yes t) all
  yes-same consistent t given own =
      same-tests (list_any (says_yes t) kept) (list_any (says_yes t) all)
      (λ is. listed-yes all t (known-listed all t true (stands.outcomes t true given (yes-listed kept t is))))
      (λ is. listed-yes kept t (known-listed kept t true (stands.commits t given own (consistent t true (yes-listed all t is)))))
