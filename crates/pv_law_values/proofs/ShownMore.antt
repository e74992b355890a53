-- What shown values are with one more record.
use Rattle.std.proofs.Common.{◌≡◌, ℕ, ℤ, Bool, false, Some, None, List, [], ◌∷◌, ◌++◌, sym, ap, ◌∙◌}
use Rattle.std.specs.Prelude.{if◌then◌else◌}
use Rattle.pv_base.specs.declared.txn.TxnId.{TxnId}
use Rattle.pv_base.specs.Assignment.{commits, with_outcome}
use Rattle.pv_base.specs.Catalog.{Declared}
use Rattle.pv_base.specs.Polyvalue.{Case, IsCanonical, names, value_at}
use Rattle.pv_format.specs.Record.{Record, epoch_begun, prepared, outcome_known}
use Rattle.pv_law_polyvalues.proofs.PolyvalueLemmas.{one-canonical, unnamed-free}
use Rattle.pv_law_step.proofs.OutcomeLemmas.{choice-more}
use Rattle.pv_law_step.proofs.ShownLemmas.{if-same, shown-canonical, shown-value}
use Rattle.pv_law_step.proofs.WidthLemmas.{newest-more}
use Rattle.pv_model.specs.Alternatives.{Read, number_at}
use Rattle.pv_protocol.specs.Records.{choice}
use Rattle.pv_protocol.specs.Shown.{written, written_or, value_after, newest, declared_value, item_within, item_value, shown_within, shown}

module _ (catalog : Declared) where
  -- The value after a front of the records is the only canonical one that has the item's value.
  pub shown-only : (records front : List Record) (item : ℕ) (cases : List (Case ℤ)) → IsCanonical cases
      → ((a : List TxnId) → value_at cases a ≡ Some (item_within catalog records front item a)) → cases ≡ shown_within catalog records front item
  shown-only records front item cases canonical values =
      one-canonical cases (shown_within catalog records front item) canonical (shown-canonical catalog records front item)
      (λ a. values a ∙ sym (shown-value catalog records front item a))

  -- Where an item has the same value at every assignment, it is shown the same.
  pub shown-alike : (records front others back : List Record) (item : ℕ)
      → ((a : List TxnId) → item_within catalog records front item a ≡ item_within catalog others back item a)
      → shown_within catalog records front item ≡ shown_within catalog others back item
  shown-alike records front others back item same =
      shown-only others back item (shown_within catalog records front item) (shown-canonical catalog records front item)
      (λ a. shown-value catalog records front item a ∙ ap Some (same a))

  -- A value after a front with one more record.
  pub within-more : (records front : List Record) (more : Record) (item : ℕ) (a : List TxnId)
      → item_within catalog records (front ++ more ∷ []) item a ≡ value_after item (choice records a) (item_within catalog records front item a) more
  within-more records front more item a = newest-more item (choice records a) front more (declared_value catalog item)

  -- An outcome in the front writes nothing.
  pub within-outcome : (records front : List Record) (txn : TxnId) (outcome : Bool) (item : ℕ)
      → shown_within catalog records (front ++ outcome_known txn outcome ∷ []) item ≡ shown_within catalog records front item
  within-outcome records front txn outcome item =
      shown-alike records (front ++ outcome_known txn outcome ∷ []) records front item (within-more records front (outcome_known txn outcome) item)

  -- Nor does an epoch.
  pub within-epoch : (records front : List Record) (epoch : ℕ) (item : ℕ)
      → shown_within catalog records (front ++ epoch_begun epoch ∷ []) item ≡ shown_within catalog records front item
  within-epoch records front epoch item =
      shown-alike records (front ++ epoch_begun epoch ∷ []) records front item (within-more records front (epoch_begun epoch) item)

  -- Nor does a promise write an item that it doesn't name.
  pub within-unwritten : (records front : List Record) (txn : TxnId) (writes : List Read) (item : ℕ) → written item writes ≡ None
      → shown_within catalog records (front ++ prepared txn writes ∷ []) item ≡ shown_within catalog records front item
  within-unwritten records front txn writes item none =
      shown-alike records (front ++ prepared txn writes ∷ []) records front item
      (λ a. let old : ℤ = item_within catalog records front item a in
      within-more records front (prepared txn writes) item a
      ∙ ap (λ cases. if commits (choice records a) txn then written_or old cases (choice records a) else old) none
      ∙ if-same (commits (choice records a) txn) old)

  -- A promise that is written: the new value where the transaction commits, else the old one.
  pub within-written : (records front : List Record) (txn : TxnId) (writes : List Read) (item : ℕ) (new : List (Case ℤ)) → written item writes ≡ Some new
      → (a : List TxnId) → item_within catalog records (front ++ prepared txn writes ∷ []) item a
      ≡ (if commits (choice records a) txn then number_at new (choice records a) else item_within catalog records front item a)
  within-written records front txn writes item new is a =
      let old : ℤ = item_within catalog records front item a in
      within-more records front (prepared txn writes) item a
      ∙ ap (λ cases. if commits (choice records a) txn then written_or old cases (choice records a) else old) is

  -- A promise says no outcome, so the records before it are enough to see what is shown with it.
  pub shown-promise : (records : List Record) (txn : TxnId) (writes : List Read) (item : ℕ)
      → shown catalog (records ++ prepared txn writes ∷ []) item ≡ shown_within catalog records (records ++ prepared txn writes ∷ []) item
  shown-promise records txn writes item =
      let all : List Record = records ++ prepared txn writes ∷ [] in
      shown-alike all all records all item (λ a. ap (λ b. newest item b (declared_value catalog item) all) (choice-more records (prepared txn writes) a))

  -- A start changes nothing that is shown.
  pub shown-epoch : (records : List Record) (epoch : ℕ) (item : ℕ) → shown catalog (records ++ epoch_begun epoch ∷ []) item ≡ shown catalog records item
  shown-epoch records epoch item =
      let all : List Record = records ++ epoch_begun epoch ∷ [] in
      shown-alike all all records all item (λ a. ap (λ b. newest item b (declared_value catalog item) all) (choice-more records (epoch_begun epoch) a))
      ∙ within-epoch records records epoch item

  -- With one more outcome an item has the value that it had with that outcome put in.
  pub value-outcome : (records : List Record) (txn : TxnId) (outcome : Bool) (item : ℕ) (a : List TxnId)
      → item_value catalog (records ++ outcome_known txn outcome ∷ []) item a ≡ item_value catalog records item (with_outcome txn outcome a)
  value-outcome records txn outcome item a =
      within-more (records ++ outcome_known txn outcome ∷ []) records (outcome_known txn outcome) item a
      ∙ ap (λ b. newest item b (declared_value catalog item) records) (choice-more records (outcome_known txn outcome) a)

  -- What is shown with one more outcome is what was shown, settled.
  pub shown-settled : (records : List Record) (txn : TxnId) (outcome : Bool) (item : ℕ) (cases : List (Case ℤ)) → IsCanonical cases
      → ((a : List TxnId) → value_at cases a ≡ value_at (shown catalog records item) (with_outcome txn outcome a))
      → cases ≡ shown catalog (records ++ outcome_known txn outcome ∷ []) item
  shown-settled records txn outcome item cases canonical values =
      let all : List Record = records ++ outcome_known txn outcome ∷ [] in
      shown-only all all item cases canonical
      (λ a. values a ∙ shown-value catalog records records item (with_outcome txn outcome a) ∙ ap Some (sym (value-outcome records txn outcome item a)))

  -- A value that doesn't name a transaction is shown the same with its outcome.
  pub shown-unnamed : (records : List Record) (txn : TxnId) (outcome : Bool) (item : ℕ) → names (shown catalog records item) txn ≡ false
      → shown catalog (records ++ outcome_known txn outcome ∷ []) item ≡ shown catalog records item
  shown-unnamed records txn outcome item unnamed =
      sym (shown-settled records txn outcome item (shown catalog records item) (shown-canonical catalog records records item)
      (λ a. sym (unnamed-free txn (shown catalog records item) unnamed outcome a)))
