-- The life of outboxes, one after another on what one log holds: calls, stops at any moment, and openings on what a stop left.
use Rattle.std.specs.Prelude.{◌≡◌, ◌≢◌, ◌⊎◌, ℕ, ℤ, Bool, true, false, List, [], ◌∷◌, ◌++◌, Option, Some, None, Result, Ok, Err, All, ⊤}
use Rattle.pv_base.specs.Polyvalue.{Case}
use Rattle.pv_base.specs.declared.txn.TxnId.{TxnId}
use Rattle.pv_disk_model.specs.LogModel.{LogModel}
use Rattle.pv_disk_model.specs.Size.{Contents}
use Rattle.pv_law_outbox.specs.Ready.{IsNext}
use Rattle.pv_law_outbox.specs.Runs.{Event, holds, holds_already, learns, knows_already, releases, has_none, breaks, passes}
use Rattle.pv_law_outbox.specs.State.{Record, held, learnt, taken, state_of}
use Rattle.pv_outbox.specs.Calls.{Holds, Learns, Takes}
use Rattle.pv_outbox.specs.Opens.{Opens, log_in}
use Rattle.pv_outbox.specs.OutboxState.{OutboxState, IsUsable, StandsFor}
use Rattle.pv_outbox.specs.Spelling.{SpellRecords}
use Rattle.pv_outbox.specs.declared.error.BoxError.{BoxError}
use Rattle.pv_outbox.specs.declared.error.BoxError.TheVariants.{Again, Known, Failed, Down}
use Rattle.pv_outbox.specs.declared.error.OpenOutbox.{OpenOutbox}

-- A call of an outbox, with its answer.
pub data Call : Type 0 where
  hold : (output : ℕ) (when : List (Case ℤ)) (answer : Result ⊤ BoxError) → Call
  learn : (txn : TxnId) (commits : Bool) (answer : Result ⊤ BoxError) → Call
  take : (answer : Result (Option ℕ) BoxError) → Call

-- What comes to pass with outboxes.
pub data Act : Type 0 where
  -- a call is answered
  answers : (call : Call) → Act
  -- the process stops at some moment of a call that would have been answered so
  cuts : (call : Call) → Act
  -- the process stops between two calls, or the outbox is closed
  stops : Act
  -- an outbox is opened on what is left
  opens : Act
  -- an opening is refused, or the process stops at some moment of it
  stays_closed : Act

-- Where a life has come to: an outbox that runs, or what a stop left of the log, which is `None` where that can't be opened.
pub data Place (W : Type 0) : Type 0 where
  running : (outbox : OutboxState W) → Place W
  closed : (left : Option Contents) → Place W

-- The outbox is down, by the call's answer.
abbrev pub IsDown : Call → Type 0
IsDown (hold output when answer) = answer ≡ Err Down
IsDown (learn txn commits answer) = answer ≡ Err Down
IsDown (take answer) = answer ≡ Err Down

-- the log after an opening
abbrev pub log_after : {W : Type 0} → Result (OutboxState W) (OpenOutbox W) → W
log_after (Ok outbox) = outbox.log
log_after (Err refused) = log_in refused

module _ {W : Type 0} (M : LogModel W) where
  -- What a call of an outbox that is up does, by its answer.
  abbrev pub Does : OutboxState W → OutboxState W → Call → Type 0
  Does old new (hold output when answer) = Holds M old new output when answer
  Does old new (learn txn commits answer) = Learns M old new txn commits answer
  Does old new (take answer) = Takes M old new answer

  -- What a call does, by its answer: this is what the outbox's calls promise.
  pub record IsCalled (old new : OutboxState W) (call : Call) : Type 0 where
    pub usable : IsUsable M old
    pub does : old.is_down ≡ false → Does old new call
    pub down : old.is_down ≡ true → IsDown call × (new ≡ old)

  -- The log holds what was left, and can be opened.
  pub record IsThere (log : W) (left : Option Contents) : Type 0 where
    pub intact : M.is_intact log
    pub up : M.is_down log ≡ false
    pub contents : M.contents log ≡ left

  -- An act takes a running outbox to a place.
  abbrev pub Goes : OutboxState W → Act → Place W → Type 0
  Goes old (answers call) (running new) = IsCalled old new call
  Goes old (cuts call) (closed left) = (new : OutboxState W) × IsCalled old new call × M.left_since new.log (M.moment old.log) left
  Goes old stops (closed left) = IsUsable M old × M.may_leave old.log left
  Goes old _ _ = ⊥

  -- An act takes what a stop left to a place.
  abbrev pub Returns : Option Contents → Act → Place W → Type 0
  Returns left opens (running outbox) = (log : W) × IsThere log left × Opens M log (Ok outbox)
  Returns left stays_closed (closed next) =
      (log : W) × (answer : Result (OutboxState W) (OpenOutbox W)) × IsThere log left × Opens M log answer × M.left_since (log_after answer) (M.moment log) next
  Returns left _ _ = ⊥

  abbrev pub Moves : Place W → Act → Place W → Type 0
  Moves (running outbox) act next = Goes outbox act next
  Moves (closed left) act next = Returns left act next

  -- The acts come to pass, one after another, from the one place to the other.
  abbrev pub Life : Place W → List Act → Place W → Type 0
  Life old [] new = new ≡ old
  Life old (act ∷ acts) new = (mid : Place W) × Moves old act mid × Life mid acts new

  -- What is left at this place spells these records, and so does the log of an outbox that is up there, which knows what they say.
  abbrev pub IsAt : Place W → List Record → Type 0
  IsAt (running outbox) entries = outbox.is_down ≡ false → (contents : Contents) × StandsFor M outbox entries contents × (M.contents outbox.log ≡ Some contents)
  IsAt (closed left) entries = (contents : Contents) × SpellRecords entries contents × (left ≡ Some contents)

-- The call writes this record, if it writes one.
abbrev pub IsOf : Call → Record → Type 0
IsOf (hold output when answer) entry = entry ≡ held output when
IsOf (learn txn commits answer) entry = entry ≡ learnt txn commits
IsOf (take answer) entry = (output : ℕ) × (entry ≡ taken output)

-- The log failed at the call's record, which is written or isn't.
abbrev pub IsBreak : Call → Event → Type 0
IsBreak call event = (entry : Record) × (written : Bool) × IsOf call entry × (event ≡ breaks entry written)

-- Of the law's events, a call that is answered is this one.
abbrev pub IsAnswer : Call → Event → Type 0
IsAnswer (hold output when (Ok _)) event = event ≡ holds output when
IsAnswer (hold output when (Err Again)) event = event ≡ holds_already output
IsAnswer (hold output when (Err Failed)) event = IsBreak (hold output when (Err Failed)) event
IsAnswer (hold output when (Err _)) event = event ≡ passes
IsAnswer (learn txn commits (Ok _)) event = event ≡ learns txn commits
IsAnswer (learn txn commits (Err (Known outcome))) event = event ≡ knows_already txn outcome
IsAnswer (learn txn commits (Err Failed)) event = IsBreak (learn txn commits (Err Failed)) event
IsAnswer (learn txn commits (Err _)) event = event ≡ passes
IsAnswer (take (Ok (Some output))) event = event ≡ releases output
IsAnswer (take (Ok None)) event = event ≡ has_none
IsAnswer (take (Err Failed)) event = IsBreak (take (Err Failed)) event
IsAnswer (take (Err _)) event = event ≡ passes

-- An act is this event: a stop in a call has let its record be written or not, or came when none was to be written.
abbrev pub IsEvent : Act → Event → Type 0
IsEvent (answers call) event = IsAnswer call event
IsEvent (cuts call) event = (event ≡ passes) ⊎ IsBreak call event
IsEvent _ event = event ≡ passes

-- There are as many acts as events, and each act is its event.
abbrev pub AreEvents : List Act → List Event → Type 0
AreEvents [] [] = ⊤
AreEvents [] (event ∷ events) = ⊥
AreEvents (act ∷ acts) [] = ⊥
AreEvents (act ∷ acts) (event ∷ events) = IsEvent act event × AreEvents acts events

-- the outputs that are answered, in their order
abbrev pub answered_by : Act → List ℕ
answered_by (answers (take (Ok (Some output)))) = output ∷ []
answered_by _ = []

abbrev pub answered : List Act → List ℕ
answered [] = []
answered (act ∷ acts) = answered_by act ++ answered acts

-- A `take` stops at some moment, or its log fails.
abbrev pub IsStoppedTake : Act → Type 0
IsStoppedTake (cuts (take answer)) = ⊤
IsStoppedTake (answers (take (Err Failed))) = ⊤
IsStoppedTake _ = ⊥

-- Of a `take` that stopped, between these acts: nothing is written, or the record of the ready output that was held first. Then that output is answered neither before nor since.
abbrev pub IsTakenOrNot : List Record → List Record → List Act → List Act → Type 0
IsTakenOrNot old new before since =
    (new ≡ old)
    ⊎ ((output : ℕ) × IsNext (state_of old) output × (new ≡ old ++ taken output ∷ []) × All (λ other. output ≢ other) (answered before) × All (λ other. output ≢ other) (answered since))
