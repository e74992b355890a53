-- The values of all items while a serial run is computed, and what a program makes of them.
use Rattle.std.specs.Prelude.{◌≡◌, ℕ, ◌≤◌, ℤ, List, [], ◌∷◌, Some, All, map, length, slice_get, get_or, slice_set}
use Rattle.std.specs.List.{AllZip}
use Rattle.pv_audit.specs.Limits.{IsValueAfter, IsPassedAt}
use Rattle.pv_audit.specs.Reports.{Report, with_programs}
use Rattle.pv_base.specs.Catalog.{Declared}
use Rattle.pv_base.specs.Polyvalue.{Case, NamesAtMost}
use Rattle.pv_base.specs.declared.limits.TheConstants.{HELD_NAMES, READ_NAMES}
use Rattle.pv_base.specs.declared.reply.Reply.{Reply}
use Rattle.pv_base.specs.declared.txn.TxnId.{TxnId}
use Rattle.pv_cases.specs.NameLimits.{NameTooMany, IsChosen}
use Rattle.pv_model.specs.Alternatives.{Read, all_cases}
use Rattle.pv_model.specs.Check.{AreItems}
use Rattle.pv_model.specs.Serial.{Ordered}
use Rattle.pv_model.specs.Syntax.{Program}
use Rattle.pv_split.specs.Splitting.{IsJoinedSplit}

-- These are the values of all items, in the order of the catalog, after these transactions.
pub record AreAllValuesAfter (catalog : Declared) (told : Report) (done : List Ordered) (values : List (List (Case ℤ))) : Type 0 where
  pub count : length values ≡ length catalog.items
  pub each : (n : ℕ) (cases : List (Case ℤ)) → slice_get values n ≡ Some cases → IsValueAfter catalog told done n cases
  pub few : (n : ℕ) (cases : List (Case ℤ)) → slice_get values n ≡ Some cases → NamesAtMost HELD_NAMES cases

-- The values are those after these transactions of a report's order, with the programs of their requests, and no limit is passed at one of them.
pub record IsRunTo (catalog : Declared) (told : Report) (front : List TxnId) (values : List (List (Case ℤ))) : Type 0 where
  pub after : AreAllValuesAfter catalog told (with_programs told.begun front) values
  pub within : (other : List Ordered) (count : ℕ) → IsPassedAt catalog told other count → length (with_programs told.begun front) ≤ length other

-- These are the values of the program's items, ascending by item.
pub record AreReads (program : Program) (values : List (List (Case ℤ))) (reads : List Read) : Type 0 where
  pub items : AreItems program (map (λ read. read.item) reads)
  pub each : All (λ read. slice_get values read.item ≡ Some read.cases) reads

-- This is what the program writes over the values.
pub record AreWritten (program : Program) (values : List (List (Case ℤ))) (writes : List Read) : Type 0 where
  pub reads : List Read
  pub are : AreReads program values reads
  pub reply : List (Case Reply)
  pub split : IsJoinedSplit READ_NAMES program reads (writes, reply)

-- What the program reads of the values names so many outcomes together, which is more than it may.
pub record ReadsTooMuch (program : Program) (values : List (List (Case ℤ))) (count : ℕ) : Type 0 where
  pub reads : List Read
  pub are : AreReads program values reads
  pub over : NameTooMany READ_NAMES (all_cases reads) count

-- the values with the written ones in their places
abbrev pub put_all : List (List (Case ℤ)) → List Read → List (List (Case ℤ))
put_all values [] = values
put_all values (write ∷ writes) = put_all (slice_set values write.item write.cases) writes

-- The value is what is written where the transaction commits, and else the one that there is.
abbrev pub IsChoiceOf : TxnId → List (List (Case ℤ)) → Read → Read → Type 0
IsChoiceOf txn values write chosen = (chosen.item ≡ write.item) × IsChosen HELD_NAMES txn (get_or values write.item []) write.cases chosen.cases

-- These are the choices of an open transaction between what there is and what it writes.
abbrev pub AreChoices : TxnId → List (List (Case ℤ)) → List Read → List Read → Type 0
AreChoices txn values writes choices = AllZip (IsChoiceOf txn values) writes choices
