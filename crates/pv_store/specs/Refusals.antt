-- Why records aren't taken: a shown value would name too many outcomes.
use Rattle.std.specs.Prelude.{◌≡◌, true, false, ℕ, ℤ, nat_lt, List, [], ◌∷◌, ◌++◌, length, Option, Some, None, Result, IfErr, IfSome, OnOk, if◌then◌else◌}
use Rattle.pv_base.specs.Answer.{Answers}
use Rattle.std.specs.List.{list_any}
use Rattle.std.specs.Option.{option_or}
use Rattle.pv_base.specs.Catalog.{Declared}
use Rattle.pv_base.specs.Named.{names_of}
use Rattle.pv_base.specs.Polyvalue.{Case}
use Rattle.pv_base.specs.declared.txn.TxnId.{TxnId}
use Rattle.pv_base.specs.declared.limits.TheConstants.{HELD_NAMES}
use Rattle.pv_format.specs.Record.{Record, prepared}
use Rattle.pv_model.specs.Alternatives.{Read}
use Rattle.pv_protocol.specs.Here.{Here}
use Rattle.pv_protocol.specs.Outcome.{items_from}
use Rattle.pv_protocol.specs.Shown.{shown_within}
use Rattle.pv_protocol.specs.Vote.{would_be_wide}
use Rattle.pv_store.specs.Kept.{Kept}
use Rattle.pv_store.specs.declared.error.StoreError.{StoreError}
use Rattle.pv_store.specs.declared.error.StoreError.TheVariants.{TooManyOutcomes, NoMemory}

-- how many outcomes the value names
abbrev pub names_count : List (Case ℤ) → ℕ
names_count cases = length (names_of cases)

-- how many outcomes the item's value names after a front of the records, with the outcomes that all of them have
abbrev pub width : Declared → List Record → List Record → ℕ → ℕ
width catalog records front item = names_count (shown_within catalog records front item)

-- the count of outcomes, if it is more than a value may name
abbrev pub if_too_many : ℕ → Option ℕ
if_too_many count = if nat_lt HELD_NAMES count then Some count else None

-- the first count among these items that is too large
abbrev pub first_too_many : Declared → List Record → List Record → List ℕ → Option ℕ
first_too_many catalog records front [] = None
first_too_many catalog records front (item ∷ items) =
    option_or (if_too_many (width catalog records front item)) (first_too_many catalog records front items)

-- the site's items, ascending
abbrev pub site_items : Declared → ℕ → List ℕ
site_items catalog site = items_from site 0 catalog.items

-- the first count that is too large after a prepared record, where these items are looked at in turn and these records come before
abbrev pub first_too_many_after : Declared → List Record → List ℕ → List Record → List Record → Option ℕ
first_too_many_after catalog records items before [] = None
first_too_many_after catalog records items before (prepared txn writes ∷ after) =
    option_or (first_too_many catalog records (before ++ prepared txn writes ∷ []) items)
    (first_too_many_after catalog records items (before ++ prepared txn writes ∷ []) after)
first_too_many_after catalog records items before (other ∷ after) =
    first_too_many_after catalog records items (before ++ other ∷ []) after

-- the first count that is too large after a record, if it is a prepared one, where these records come before
abbrev pub too_many_at : Declared → ℕ → List Record → List Record → Record → Option ℕ
too_many_at catalog site records front (prepared txn writes) =
    first_too_many catalog records (front ++ prepared txn writes ∷ []) (site_items catalog site)
too_many_at catalog site records front other = None

-- Why a store doesn't take one more record: so many outcomes the least item of the site would name whose value would name too many.
unfoldable pub too_many_with : Kept → Record → Option ℕ
too_many_with kept more =
    let records = kept.records ++ more ∷ [] in
    first_too_many kept.catalog records records (site_items kept.catalog kept.site)

-- Why a store isn't loaded with these records: so many outcomes the least item names whose value names too many after the first prepared
-- record after which there is one, all outcomes being known that any record has.
unfoldable pub too_many_in : Declared → ℕ → List Record → Option ℕ
too_many_in catalog site records = first_too_many_after catalog records (site_items catalog site) [] records

-- the count that the error reports, unless it is want of memory
abbrev pub count_of : StoreError → Option ℕ
count_of (TooManyOutcomes count) = Some count
count_of NoMemory = None

-- A call is refused for the count that is too large, if there is one, and for no other. Want of memory may come in place of it.
pub record IsRefusedFor {X : Type 0} (cause : Option ℕ) (result : Result X StoreError) : Type 0 where
  pub accepted : OnOk result (cause ≡ None)
  pub refused : IfErr result (λ e. IfSome (count_of e) (λ count. cause ≡ Some count))

-- The same, in the shape in which each call answers that may be refused.
abbrev pub AnswersFor : {X : Type 0} → Option ℕ → Result X StoreError → Type 0
AnswersFor cause result = Answers (λ (_ : Unit {0}). cause ≡ None) (λ count. cause ≡ Some count) (λ _. tt) count_of result

-- The same of a promise, as the running site asks it: whether a write would make its item's value too wide.
pub record ReportsWide {X : Type 0} (here : Here) (txn : TxnId) (writes : List Read) (result : Result X StoreError) : Type 0 where
  pub accepted : OnOk result (list_any (λ write. would_be_wide here (prepared txn writes) write.item) writes ≡ false)
  pub refused : IfErr result (λ e. IfSome (count_of e) (λ _. list_any (λ write. would_be_wide here (prepared txn writes) write.item) writes ≡ true))
