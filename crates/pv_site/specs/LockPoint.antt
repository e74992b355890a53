-- What a program wrote and replied over the values that were taken, at its lock point.
use Rattle.std.specs.Prelude.{◌≡◌, ℕ, ◌==◌, ◌<◌, ◌≤◌, false, List, length, find, Some, IsTrue}
use Rattle.std.specs.List.{AllPairs, Contains}
use Rattle.pv_base.specs.declared.limits.TheConstants.{HELD_NAMES, READ_NAMES}
use Rattle.pv_base.specs.declared.reply.Reply.{Reply}
use Rattle.pv_base.specs.declared.txn.TxnId.{TxnId}
use Rattle.pv_base.specs.Named.{names_of}
use Rattle.pv_base.specs.Polyvalue.{Case, IsPolyvalue, value_at}
use Rattle.pv_format.specs.Record.{Record}
use Rattle.pv_model.specs.Alternatives.{Read, all_cases}
use Rattle.pv_model.specs.Check.{names_item}
use Rattle.pv_model.specs.ProgramLaws.{assigns}
use Rattle.pv_model.specs.Syntax.{Program}
use Rattle.pv_protocol.specs.Coordinate.{names_taken, new_value}
use Rattle.pv_protocol.specs.Records.{choice}
use Rattle.pv_protocol.specs.State.{Entry}
use Rattle.pv_site.specs.SiteParts.{IsReplyOf}

-- The reads are of different items.
abbrev pub ReadApart : List Read → Type 0
ReadApart reads = AllPairs (λ (read later : Read). (read.item == later.item) ≡ false) reads

-- The item is read.
pub record IsRead (reads : List Read) (item : ℕ) : Type 0 where
  pub read : Read
  pub listed : Contains reads read
  pub same : read.item ≡ item

-- Each item that the program names is read.
abbrev pub HasItsReads : Program → List Read → Type 0
HasItsReads program reads = (item : ℕ) → IsTrue (names_item program item) → IsRead reads item

-- The reads name so many outcomes together, which is more than they may.
pub record IsTooMany (reads : List Read) (count : ℕ) : Type 0 where
  pub counted : length (names_of (all_cases reads)) ≡ count
  pub over : READ_NAMES < count

-- The polyvalue has the value before, with the outcomes put in that the records have.
pub record IsPutIn {V : Type 0} (records : List Record) (before after : List (Case V)) : Type 0 where
  pub value : (assignment : List TxnId) → value_at after assignment ≡ value_at before (choice records assignment)
  pub polyvalue : IsPolyvalue HELD_NAMES after

-- The same of a write.
pub record IsWritePutIn (records : List Record) (before after : Read) : Type 0 where
  pub item : after.item ≡ before.item
  pub cases : IsPutIn records before.cases after.cases

-- What was taken names few outcomes together. Each item that the program assigns is written with its new value, and this is the reply.
pub record IsComputed (records : List Record) (entry : Entry) (writes : List Read) (replied : List (Case Reply)) : Type 0 where
  pub few : length (names_taken entry) ≤ READ_NAMES
  pub written : (item : ℕ) → IsTrue (assigns entry.program item) →
      find (λ (write : Read). write.item == item) writes ≡ Some (record { item = item; cases = new_value records entry item })
  pub reply : IsReplyOf records entry (Some replied)
