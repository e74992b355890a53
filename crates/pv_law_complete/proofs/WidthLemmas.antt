-- A promise is no wider than what was read for it, and its own transaction.
use Rattle.std.proofs.Common.{◌≡◌, ℕ, ℤ, pos, ◌+◌, ◌≤◌, Bool, true, Some, List, [], ◌∷◌, ◌++◌, length, sym, ap, subst, ◌∙◌, arith}
use Rattle.std.specs.Prelude.{IsTrue, if◌then◌else◌}
use Rattle.std.specs.List.{Contains}
use Rattle.std.specs.Option.{unwrap_or}
use Rattle.pv_base.proofs.AssignmentLemmas.{same-eq, same-refl}
use Rattle.pv_base.proofs.ContainsLemmas.{Contains-first, Contains-behind}
use Rattle.pv_base.specs.Assignment.{is_same_txn, commits, AgreeOn}
use Rattle.pv_base.specs.Catalog.{Declared}
use Rattle.pv_base.specs.Named.{names_of}
use Rattle.pv_base.specs.Polyvalue.{Case, DependsOnlyOn, names}
use Rattle.pv_base.specs.declared.txn.TxnId.{TxnId}
use Rattle.pv_format.specs.Record.{Record, prepared}
use Rattle.pv_law_acts.proofs.ListLemmas.{any-listed, listed-any}
use Rattle.pv_law_polyvalues.proofs.AscendingLemmas.{fewer-ascending}
use Rattle.pv_law_polyvalues.proofs.PolyvalueLemmas.{value_at-agree, depends-named}
use Rattle.pv_law_step.proofs.NameLists.{listed-names, names-ascend}
use Rattle.pv_law_step.proofs.OutcomeLemmas.{choice-known, choice-more}
use Rattle.pv_law_step.proofs.ShownLemmas.{shown-canonical, shown-value}
use Rattle.pv_law_step.proofs.WidthLemmas.{newest-more}
use Rattle.pv_law_values.proofs.ChoiceLemmas.{choice-agree, choice-heeding}
use Rattle.pv_law_values.proofs.SupportLemmas.{newest-same}
use Rattle.pv_law_values.specs.Heeds.{Heeds}
use Rattle.pv_model.specs.Alternatives.{Read, number_at}
use Rattle.pv_protocol.specs.Records.{choice}
use Rattle.pv_protocol.specs.Shown.{written, written_or, newest, declared_value, item_value, shown}

-- With the known outcomes put in, an assignment heeds the records.
pub choice-heeds : (records : List Record) (a : List TxnId) → Heeds records (choice records a)
choice-heeds records a t outcome is = choice-known records a t outcome is

item-choice : (catalog : Declared) (records : List Record) (item : ℕ) (a : List TxnId) → item_value catalog records item (choice records a) ≡ item_value catalog records item a
item-choice catalog records item a =
    newest-same item (choice records (choice records a)) (choice records a) (choice-heeding records (choice records a) (choice-heeds records a)) records (declared_value catalog item)

module _ (catalog : Declared) (records : List Record) (txn : TxnId) (writes values : List Read) (txns : List TxnId) (item : ℕ) (cases held : List (Case ℤ)) (wrote : written item writes ≡ Some cases)
    (reported : written item values ≡ Some held) (few_new : (t : TxnId) → IsTrue (names cases t) → Contains txns t) (few_old : (t : TxnId) → IsTrue (names held t) → Contains txns t)
    (current : (b : List TxnId) → Heeds records b → number_at held b ≡ item_value catalog records item b) where
  abbrev all : List Record
  all = records ++ prepared txn writes ∷ []

  -- its own transaction, and those that were read
  abbrev set : TxnId → Bool
  set t = commits (txn ∷ txns) t

  own : set txn ≡ true
  own = listed-any (λ u. is_same_txn u txn) (txn ∷ txns) txn (Contains-first txn txns) (same-refl txn)

  read : (t : TxnId) → Contains txns t → set t ≡ true
  read t h = listed-any (λ u. is_same_txn u t) (txn ∷ txns) t (Contains-behind txn txns t h) (same-refl t)

  value-then : (a : List TxnId) → item_value catalog all item a ≡ (if commits (choice records a) txn then number_at cases (choice records a) else item_value catalog records item a)
  value-then a =
      ap (λ b. newest item b (declared_value catalog item) all) (choice-more records (prepared txn writes) a)
      ∙ newest-more item (choice records a) records (prepared txn writes) (declared_value catalog item)
      ∙ ap (λ o. if commits (choice records a) txn then written_or (item_value catalog records item a) o (choice records a) else item_value catalog records item a) wrote

  old-alike : (a b : List TxnId) → AgreeOn set (choice records a) (choice records b) → item_value catalog records item a ≡ item_value catalog records item b
  old-alike a b agree =
      sym (item-choice catalog records item a)
      ∙ sym (current (choice records a) (choice-heeds records a))
      ∙ ap (λ v. unwrap_or v (pos 0)) (value_at-agree held (choice records a) (choice records b) (λ t named. agree t (read t (few_old t named))))
      ∙ current (choice records b) (choice-heeds records b)
      ∙ item-choice catalog records item b

  value-alike : (a b : List TxnId) → AgreeOn set a b → item_value catalog all item a ≡ item_value catalog all item b
  value-alike a b agree =
      let chosen : AgreeOn set (choice records a) (choice records b) = choice-agree records set a b agree in
      let new : number_at cases (choice records a) ≡ number_at cases (choice records b) =
      ap (λ v. unwrap_or v (pos 0)) (value_at-agree cases (choice records a) (choice records b) (λ t named. chosen t (read t (few_new t named)))) in
      let old = old-alike a b chosen in
      value-then a ∙ (λ i. if chosen txn own i then new i else old i) ∙ sym (value-then b)

  depends : DependsOnlyOn set (shown catalog all item)
  depends a b agree = shown-value catalog all all item a ∙ ap (λ (v : ℤ). Some v) (value-alike a b agree) ∙ sym (shown-value catalog all all item b)

  listed-own : (t : TxnId) → set t ≡ true → Contains (txn ∷ txns) t
  listed-own t is = let found = any-listed (λ u. is_same_txn u t) (txn ∷ txns) is in subst (Contains (txn ∷ txns)) (same-eq {t = found.0} {u = t} found.1.1) found.1.0

  -- With the promise the item names no more than what was read for it and its transaction.
  pub promise-few : length (names_of (shown catalog all item)) ≤ length txns + 1
  promise-few =
      let few = fewer-ascending (names_of (shown catalog all item)) (txn ∷ txns) (names-ascend (shown catalog all item))
      (λ t h. listed-own t (depends-named (shown catalog all item) set (shown-canonical catalog all all item) depends t (listed-names (shown catalog all item) t h))) in
      omega (arith, few)
