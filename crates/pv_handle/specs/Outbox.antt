-- An outbox in bytes, and what its calls do.
use Rattle.std.specs.Prelude.{◌≡◌, ℕ, ◌<◌, Bool, true, false, List, Some, None, Result, Ok, Err, length}
use Rattle.pv_base.specs.declared.limits.TheConstants.{MAX_JOURNAL}
use Rattle.pv_host.specs.HostLog.{HostWrite, least_write, next_write}
use Rattle.pv_embed_outbox.specs.Hosted.{AsksForGroup, HostedState, Writes, log_length, stored_length}
use Rattle.pv_embed_outbox.specs.Opening.{OpensHosted}
use Rattle.pv_embed_outbox.specs.declared.fault.OpeningFault.{OpeningFault}
use Rattle.pv_handle.specs.ByteSite.{IsNextWrite}
use Rattle.pv_handle.specs.Given.{GivesBytes}
use Rattle.pv_handle.specs.declared.given.Given.{Given}
use Rattle.pv_handle.specs.declared.given.Given.TheVariants.{Nothing, Bytes, TooSmall}
use Rattle.pv_handle.specs.declared.journal_info.JournalInfo.{JournalInfo}

-- An outbox with a host; and whether the host was given the bytes of what it is to write next.
pub record BoxState : Type 0 where
  pub hosted : HostedState
  pub taken : Bool

-- A call that does so with the outbox. What the host was given to write, it still has.
abbrev pub OnBox : {R : Type 0} → (HostedState → HostedState → R → Type 0) → BoxState → BoxState → R → Type 0
OnBox Does old new result = Does old.hosted new.hosted result × (new.taken ≡ old.taken)

-- An opening, by its answer. The host was given nothing yet.
abbrev pub OpensBox : List ℕ → Result BoxState OpeningFault → Type 0
OpensBox file (Ok outbox) = OpensHosted file (Ok outbox.hosted) × (outbox.taken ≡ false)
OpensBox file (Err fault) = OpensHosted file (Err fault)

-- The host is asked to write what has room, and given it: the records of the group, or the gate before them.
pub record GivesBoxWrite (room out : List ℕ) (old new : HostedState) (count to : ℕ) : Type 0 where
  pub asks : AsksForGroup (length room) old new
  pub write : HostWrite
  pub next : next_write new.outbox.log ≡ Some write
  pub gives : GivesBytes write.bytes write.place room out (Bytes count to)

-- What is to be written next is given, and the outbox is as it was, but that the host was asked to write that and has its bytes; or nothing waits; or there is no
-- room for the least that can be written next, and then the host isn't asked to write.
abbrev pub TakesBoxWrite : List ℕ → List ℕ → BoxState → BoxState → Given → Type 0
TakesBoxWrite room out old new Nothing = (least_write old.hosted.outbox.log ≡ None) × (new ≡ old) × (out ≡ room)
TakesBoxWrite room out old new (Bytes count to) = GivesBoxWrite room out old.hosted new.hosted count to × (new.taken ≡ true)
TakesBoxWrite room out old new (TooSmall needed) = (least_write old.hosted.outbox.log ≡ Some needed) × (length room < needed) × (new ≡ old) × (out ≡ room)

-- The host tells that it has written so many bytes at this place. That is taken exactly of what is to be written next, where the host was given its bytes; of
-- what comes after it the host was given nothing yet.
abbrev pub AcceptsBoxWrite : {X E : Type 0} → ℕ → ℕ → BoxState → BoxState → Result X E → Type 0
AcceptsBoxWrite place count old new (Ok _) =
    (old.taken ≡ true) × IsNextWrite place count (next_write old.hosted.outbox.log) × Writes old.hosted new.hosted × (new.taken ≡ false)
AcceptsBoxWrite place count old new (Err _) = (old.taken ≡ true → IsNextWrite place count (next_write old.hosted.outbox.log) → ⊥) × (new ≡ old)

-- How long the journal is in the host's file, how long it is once all is written, and how long it may become.
pub record InformsBox (hosted : HostedState) (info : JournalInfo) : Type 0 where
  pub stored : info.stored ≡ stored_length hosted
  pub asked : info.asked ≡ log_length hosted
  pub limit : info.limit ≡ MAX_JOURNAL
