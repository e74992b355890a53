-- Which of some writes count at a site.
use Rattle.std.specs.Prelude.{◌≡◌, ◌≤◌, length, ℕ, ℤ, ◌==◌, nat_lt, Bool, true, false, List, [], ◌∷◌, map, slice_get, Option, Some, None, if◌then◌else◌, All, IsTrue}
use Rattle.std.specs.List.{list_any}
use Rattle.pv_base.specs.declared.limits.TheConstants.{HELD_NAMES}
use Rattle.pv_base.specs.Named.{names_of}
use Rattle.pv_base.specs.Catalog.{Declared}
use Rattle.pv_base.specs.declared.txn.TxnId.{TxnId}
use Rattle.pv_base.specs.Polyvalue.{Case}
use Rattle.pv_format.specs.Record.{Record}
use Rattle.pv_model.specs.Alternatives.{Read}
use Rattle.pv_protocol.specs.Lock.{is_home}
use Rattle.pv_protocol.specs.Shown.{written}
use Rattle.pv_store.specs.Held.{AreKnown, AreShown, Values}
use Rattle.pv_store.specs.Promise.{after_promise}

-- There is a value.
abbrev pub is_held : Option (Option (List (Case ℤ))) → Bool
is_held (Some (Some cases)) = true
is_held other = false

-- the writes, which ascend by item, with one more, unless they have its item
abbrev pub with_write : Read → List Read → List Read
with_write write [] = write ∷ []
with_write write (first ∷ rest) =
    if write.item == first.item then first ∷ rest else
    (if nat_lt write.item first.item then write ∷ (first ∷ rest) else first ∷ with_write write rest)

-- the writes with one more, if its item has a value
abbrev pub with_held : Values → Read → List Read → List Read
with_held values write found = if is_held (slice_get values write.item) then with_write write found else found

-- the writes that were found, and with them, of these writes, the first of each item that has a value
abbrev pub held_writes : Values → List Read → List Read → List Read
held_writes values found [] = found
held_writes values found (write ∷ writes) = held_writes values (with_held values write found) writes

-- The values are those of a site after a front of its records, and the outcomes are those that all records have.
pub record IsPromising (catalog : Declared) (site : ℕ) (records front : List Record)
    (outcomes : List (TxnId × Bool)) (values : Values) : Type 0 where
  pub known : AreKnown outcomes records
  pub shown : AreShown catalog site records front values

-- Each of them is the first write of its item, which is the site's.
abbrev pub AreFirst : Declared → ℕ → List Read → List Read → Type 0
AreFirst catalog site writes found =
    All (λ write. IsTrue (is_home catalog site write.item) × (written write.item writes ≡ Some write.cases)) found

-- what the record makes of the item
abbrev pub after_write : Declared → List Record → List Record → TxnId → List Read → Read → Read
after_write catalog records front txn writes write =
    record { item = write.item; cases = after_promise catalog records front txn writes write.item }

-- the items of the writes
abbrev pub items_of : List Read → List ℕ
items_of writes = map (λ write. write.item) writes

-- Some items' values after the transaction's record of these writes, with which no value of the site names too many outcomes. What the record
-- writes of the site's items is among them.
pub record AreAfter (catalog : Declared) (site : ℕ) (records front : List Record) (txn : TxnId) (writes new : List Read) : Type 0 where
  pub here : All (λ read. IsTrue (is_home catalog site read.item)) new
  pub then_shown : All (λ read. read.cases ≡ after_promise catalog records front txn writes read.item) new
  pub every : (item : ℕ) → IsTrue (is_home catalog site item) → list_any (λ read. read.item == item) new ≡ false → written item writes ≡ None
  pub narrow : (item : ℕ) → IsTrue (is_home catalog site item) → length (names_of (after_promise catalog records front txn writes item)) ≤ HELD_NAMES
