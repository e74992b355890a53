-- Standing is kept by a record more in both lists, and by an outcome more in the kept one.
use Rattle.std.proofs.Common.{◌≡◌, ⊎_elim, ℕ, Bool, true, false, Some, None, Option, List, [], ◌∷◌, ◌++◌, refl, sym, ap, subst, ◌∙◌, arith}
use Rattle.std.specs.Prelude.{IsTrue, All, max, is_none, if◌then◌else◌}
use Rattle.std.specs.List.{Contains}
use Rattle.std.specs.Option.{option_or}
use Rattle.std.proofs.lemmas.Bool.{or_cases, or_left, or_right, false≢true}
use Rattle.std.proofs.lemmas.List.Elements.{All-cons, All-nil}
use Rattle.std.proofs.lemmas.Option.{none-some}
use Rattle.pv_base.proofs.AssignmentLemmas.{same-refl, same-eq, commits-with}
use Rattle.pv_base.proofs.Basics.{Some_inj}
use Rattle.pv_base.proofs.ContainsLemmas.{Contains-nil}
use Rattle.pv_base.specs.Assignment.{is_same_txn, commits, with_outcome, AgreeOn}
use Rattle.pv_base.specs.Catalog.{Declared}
use Rattle.pv_base.specs.declared.txn.TxnId.{TxnId}
use Rattle.pv_format.specs.Contents.{greatest_epoch}
use Rattle.pv_format.specs.Record.{Record, epoch_begun, prepared, outcome_known}
use Rattle.pv_law_acts.proofs.ListLemmas.{listed-either}
use Rattle.pv_law_compaction.proofs.StandingLemmas.{compact-stands, itself-stands, stands-trans, unknown-is, heeds-kept}
use Rattle.pv_law_compaction.specs.Given.{is_given, HeedsGiven, DependOnGiven}
use Rattle.pv_law_compaction.specs.Kept.{IsNew, MayKeep, nothing, appends, learns_again, compacts}
use Rattle.pv_law_compaction.specs.StandsFor.{StandsFor}
use Rattle.pv_law_step.proofs.EpochLemmas.{epoch-stays}
use Rattle.pv_law_step.proofs.OutcomeLemmas.{or_assigned, with_recorded, choice-is, choice-alike, choice-more, recorded-alike}
use Rattle.pv_law_step.proofs.WidthLemmas.{newest-more, no-empty, other-narrow}
use Rattle.pv_law_values.proofs.ChoiceLemmas.{choice-agree, known-longer}
use Rattle.pv_law_values.proofs.RecordsMore.{known-more, is_prepared-more, is_prepared-outcome}
use Rattle.pv_law_values.proofs.SupportLemmas.{newest-alike, newest-same}
use Rattle.pv_law_values.specs.Fixed.{IsRecordFixedBy}
use Rattle.pv_protocol.specs.Committed.{home_of}
use Rattle.pv_protocol.specs.Lock.{is_home}
use Rattle.pv_protocol.specs.Records.{known, is_undecided, is_prepared, choice}
use Rattle.pv_protocol.specs.Shown.{value_after, newest, declared_value, item_value}
use Rattle.pv_protocol.specs.Width.{IsNarrow}

-- What a list says with one record more.

epoch-more : (records : List Record) (more : Record) → greatest_epoch (records ++ more ∷ []) ≡ max (greatest_epoch records) (greatest_epoch (more ∷ []))
epoch-more [] more = omega arith
epoch-more (epoch_begun epoch ∷ records) more = ap (λ (rest : ℕ). max epoch rest) (epoch-more records more) ∙ omega arith
epoch-more (prepared txn writes ∷ records) more = epoch-more records more
epoch-more (outcome_known txn commits ∷ records) more = epoch-more records more

value-more : (catalog : Declared) (records : List Record) (more : Record) (item : ℕ) (a : List TxnId)
    → item_value catalog (records ++ more ∷ []) item a ≡ value_after item (choice records (with_recorded more a)) (item_value catalog records item (with_recorded more a)) more
value-more catalog records more item a =
    ap (λ b. newest item b (declared_value catalog item) (records ++ more ∷ [])) (choice-more records more a)
    ∙ newest-more item (choice records (with_recorded more a)) records more (declared_value catalog item)

unknown-before : (records more : List Record) (t : TxnId) → known (records ++ more) t ≡ None → known records t ≡ None
unknown-before records more t unknown = by (known records t) refl where
  by : (outcome : Option Bool) → known records t ≡ outcome → known records t ≡ None
  by None is = is
  by (Some b) is = absurd (none-some b (sym unknown ∙ known-longer records more t b is))

-- Assignments that heed.

-- Of a given transaction a heeding assignment says the same with the known outcomes put in.
chosen-given : (records : List Record) (a : List TxnId) → HeedsGiven records a → AgreeOn is_given (choice records a) a
chosen-given records a heeds = λ t given. choice-is records a t ∙ by t given (known records t) refl where
  by : (t : TxnId) → IsTrue (is_given t) → (outcome : Option Bool) → known records t ≡ outcome → or_assigned (known records t) (commits a t) ≡ commits a t
  by t given None is = ap (λ outcome. or_assigned outcome (commits a t)) is
  by t given (Some b) is = ap (λ outcome. or_assigned outcome (commits a t)) is ∙ sym (heeds t b given is)

-- An outcome that isn't known otherwise may be put in.
heeds-with : (records : List Record) (txn : TxnId) (outcome : Bool) → ((b : Bool) → known records txn ≡ Some b → outcome ≡ b) → (a : List TxnId) → HeedsGiven records a
    → HeedsGiven records (with_outcome txn outcome a)
heeds-with records txn outcome alone a heeds = λ t b given is. commits-with txn outcome a t ∙ by t b given is (is_same_txn txn t) refl where
  by : (t : TxnId) (b : Bool) → IsTrue (is_given t) → known records t ≡ Some b → (test : Bool) → is_same_txn txn t ≡ test
      → (if is_same_txn txn t then outcome else commits a t) ≡ b
  by t b given is true same =
      ap (λ (test : Bool). if test then outcome else commits a t) same
      ∙ alone b (subst (λ (u : TxnId). known records u ≡ Some b) (sym (same-eq {t = txn} {u = t} same)) is)
  by t b given is false other = ap (λ (test : Bool). if test then outcome else commits a t) other ∙ heeds t b given is

-- What heeds the records with one more heeds them, with what that one says.
heeds-before : (all : List Record) (more : Record) → IsNew all more → (a : List TxnId) → HeedsGiven (all ++ more ∷ []) a → HeedsGiven all (with_recorded more a)
heeds-before all (epoch_begun epoch) new a heeds = λ t b given is. heeds t b given (known-longer all (epoch_begun epoch ∷ []) t b is)
heeds-before all (prepared txn writes) new a heeds = λ t b given is. heeds t b given (known-longer all (prepared txn writes ∷ []) t b is)
heeds-before all (outcome_known txn outcome) new a heeds =
    heeds-with all txn outcome (λ b is. absurd (none-some b (sym new ∙ is))) a (λ t b given is. heeds t b given (known-longer all (outcome_known txn outcome ∷ []) t b is))

-- With an outcome put in that is known an item has the same value.
value-told : (catalog : Declared) (records : List Record) (item : ℕ) (txn : TxnId) (outcome : Bool) → known records txn ≡ Some outcome → (a : List TxnId)
    → item_value catalog records item (with_outcome txn outcome a) ≡ item_value catalog records item a
value-told catalog records item txn outcome told a =
    newest-same item (choice records (with_outcome txn outcome a)) (choice records a)
    (λ t. choice-alike records (with_outcome txn outcome a) a t (λ unknown. commits-with txn outcome a t ∙ by t unknown (is_same_txn txn t) refl))
    records (declared_value catalog item)
  where
    by : (t : TxnId) → is_undecided records t ≡ true → (test : Bool) → is_same_txn txn t ≡ test → (if is_same_txn txn t then outcome else commits a t) ≡ commits a t
    by t unknown true same =
        let is : known records t ≡ Some outcome = subst (λ (u : TxnId). known records u ≡ Some outcome) (same-eq {t = txn} {u = t} same) told in
        absurd (false≢true (sym (ap is_none is) ∙ unknown))
    by t unknown false other = ap (λ (test : Bool). if test then outcome else commits a t) other

module _ (limit : ℕ) (catalog : Declared) (site : ℕ) where
  one-fixed : (more : Record) → IsRecordFixedBy is_given more → All (IsRecordFixedBy is_given) (more ∷ [])
  one-fixed more fixed = All-cons (IsRecordFixedBy is_given) more [] fixed (All-nil (IsRecordFixedBy is_given))

  depends-more : (records : List Record) (more : Record) → DependOnGiven catalog site records → IsRecordFixedBy is_given more → DependOnGiven catalog site (records ++ more ∷ [])
  depends-more records more depends fixed = λ item home a b agree.
      let alike : AgreeOn is_given (with_recorded more a) (with_recorded more b) = λ t given. recorded-alike more a b t (agree t given) in
      value-more catalog records more item a
      ∙ newest-alike is_given item (choice records (with_recorded more a)) (choice records (with_recorded more b))
      (choice-agree records is_given (with_recorded more a) (with_recorded more b) alike) (more ∷ [])
      (item_value catalog records item (with_recorded more a)) (item_value catalog records item (with_recorded more b)) (one-fixed more fixed)
      (depends item home (with_recorded more a) (with_recorded more b) alike)
      ∙ sym (value-more catalog records more item b)

  module _ (kept all : List Record) (stands : StandsFor limit catalog site kept all) where
    module _ (more : Record) (fixed : IsRecordFixedBy is_given more) (new : IsNew all more) where
      values-more : (item : ℕ) → IsTrue (is_home catalog site item) → (a : List TxnId) → HeedsGiven (all ++ more ∷ []) a
          → item_value catalog (kept ++ more ∷ []) item a ≡ item_value catalog (all ++ more ∷ []) item a
      values-more item home a heeds =
          let b = with_recorded more a in
          let before : HeedsGiven all b = heeds-before all more new a heeds in
          let ours = chosen-given kept b (heeds-kept limit catalog site kept all stands b before) in
          let theirs = chosen-given all b before in
          value-more catalog kept more item a
          ∙ newest-alike is_given item (choice kept b) (choice all b) (λ t given. ours t given ∙ sym (theirs t given)) (more ∷ [])
          (item_value catalog kept item b) (item_value catalog all item b) (one-fixed more fixed) (stands.values item home b before)
          ∙ sym (value-more catalog all more item a)

      promised-more : (t : TxnId) → IsTrue (is_given t) → is_prepared (kept ++ more ∷ []) t ≡ true → is_prepared (all ++ more ∷ []) t ≡ true
      promised-more t given is =
          is_prepared-more all more t
          ∙ ⊎_elim
          (λ old. or_left (is_prepared all t) (is_prepared (more ∷ []) t) (stands.promised t given old))
          (λ last. or_right (is_prepared all t) (is_prepared (more ∷ []) t) last)
          (or_cases (is_prepared kept t) (is_prepared (more ∷ []) t) (sym (is_prepared-more kept more t) ∙ is))

      promises-more : (t : TxnId) → IsTrue (is_given t) → is_prepared (all ++ more ∷ []) t ≡ true → known (all ++ more ∷ []) t ≡ None → is_prepared (kept ++ more ∷ []) t ≡ true
      promises-more t given is unknown =
          is_prepared-more kept more t
          ∙ ⊎_elim
          (λ old. or_left (is_prepared kept t) (is_prepared (more ∷ []) t) (stands.promises t given old (unknown-before all (more ∷ []) t unknown)))
          (λ last. or_right (is_prepared kept t) (is_prepared (more ∷ []) t) last)
          (or_cases (is_prepared all t) (is_prepared (more ∷ []) t) (sym (is_prepared-more all more t) ∙ is))

      told-new : (t : TxnId) (b : Bool) → more ≡ outcome_known t b → known (all ++ more ∷ []) t ≡ Some b
      told-new t b same =
          let unknown : known all t ≡ None = subst (IsNew all) same new in
          known-more all more t
          ∙ ap (λ outcome. option_or outcome (known (more ∷ []) t)) unknown
          ∙ ap (λ (last : Record). known (last ∷ []) t) same
          ∙ ap (λ (own : Bool). if own then Some b else None) (same-refl t)

      outcomes-more : (t : TxnId) (b : Bool) → IsTrue (is_given t) → Contains (kept ++ more ∷ []) (outcome_known t b) → known (all ++ more ∷ []) t ≡ Some b
      outcomes-more t b given h =
          ⊎_elim (λ old. known-longer all (more ∷ []) t b (stands.outcomes t b given old)) (λ same. told-new t b same) (listed-either kept more (outcome_known t b) h)

      commits-more : (t : TxnId) → IsTrue (is_given t) → home_of t ≡ site → known (all ++ more ∷ []) t ≡ Some true → known (kept ++ more ∷ []) t ≡ Some true
      commits-more t given own is = by (known all t) refl where
        by : (outcome : Option Bool) → known all t ≡ outcome → known (kept ++ more ∷ []) t ≡ Some true
        by (Some b) was =
            let said : b ≡ true = Some_inj (sym (known-longer all (more ∷ []) t b was) ∙ is) in
            known-longer kept (more ∷ []) t true (stands.commits t given own (was ∙ ap Some said))
        by None unknown =
            known-more kept more t
            ∙ ap (λ outcome. option_or outcome (known (more ∷ []) t)) (unknown-is limit catalog site kept all stands t given unknown ∙ sym unknown)
            ∙ sym (known-more all more t)
            ∙ is

      pub more-stands : IsNarrow limit catalog site (kept ++ more ∷ []) → StandsFor limit catalog site (kept ++ more ∷ []) (all ++ more ∷ [])
      more-stands narrow = record {
        epoch = epoch-more kept more ∙ ap (λ (epoch : ℕ). max epoch (greatest_epoch (more ∷ []))) stands.epoch ∙ sym (epoch-more all more);
        values = values-more;
        promised = promised-more;
        promises = promises-more;
        outcomes = outcomes-more;
        commits = commits-more;
        narrow = narrow;
        given = depends-more kept more stands.given fixed;
      }

    module _ (txn : TxnId) (outcome : Bool) (told : known all txn ≡ Some outcome) where
      abbrev again : Record
      again = outcome_known txn outcome

      values-again : (item : ℕ) → IsTrue (is_home catalog site item) → (a : List TxnId) → HeedsGiven all a
          → item_value catalog (kept ++ again ∷ []) item a ≡ item_value catalog all item a
      values-again item home a heeds =
          value-more catalog kept again item a
          ∙ stands.values item home (with_outcome txn outcome a) (heeds-with all txn outcome (λ b is. Some_inj (sym told ∙ is)) a heeds)
          ∙ value-told catalog all item txn outcome told a

      outcomes-again : (t : TxnId) (b : Bool) → IsTrue (is_given t) → Contains (kept ++ again ∷ []) (outcome_known t b) → known all t ≡ Some b
      outcomes-again t b given h =
          ⊎_elim
          (λ old. stands.outcomes t b given old)
          (λ same. let of : txn ≡ t = cc in let said : outcome ≡ b = cc in subst (λ (u : TxnId). known all u ≡ Some b) of (told ∙ ap Some said))
          (listed-either kept again (outcome_known t b) h)

      -- An outcome that was known may be learned again.
      pub again-stands : StandsFor limit catalog site (kept ++ again ∷ []) all
      again-stands = record {
        epoch = epoch-stays kept again refl ∙ stands.epoch;
        values = values-again;
        promised = λ t given is. stands.promised t given (sym (is_prepared-outcome kept txn outcome t) ∙ is);
        promises = λ t given is unknown. is_prepared-outcome kept txn outcome t ∙ stands.promises t given is unknown;
        outcomes = outcomes-again;
        commits = λ t given own is. known-longer kept (again ∷ []) t true (stands.commits t given own is);
        narrow = other-narrow catalog limit site kept stands.narrow again (λ t writes same. cc);
        given = depends-more kept again stands.given tt;
      }

  -- Whatever is appended, learned again and compacted, what is kept stands for all.
  pub kept-stands : (kept all : List Record) → MayKeep limit catalog site kept all → StandsFor limit catalog site kept all
  kept-stands _ _ nothing =
      itself-stands limit catalog site [] (record { few = λ before after txn writes item home split. absurd (no-empty before (prepared txn writes) after split) })
      (λ item home a b agree. refl) (λ t b h. absurd (Contains-nil _ h))
  kept-stands _ _ (appends kept all more before fixed new narrow) = more-stands kept all (kept-stands kept all before) more fixed new narrow
  kept-stands _ _ (learns_again kept all txn outcome before told) = again-stands kept all (kept-stands kept all before) txn outcome told
  kept-stands _ _ (compacts kept all before) =
      let stands = kept-stands kept all before in
      stands-trans limit catalog site _ kept all (compact-stands limit catalog site kept stands.narrow stands.given) stands
