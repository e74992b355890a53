-- Where a line on a transaction comes from: a note of a site's step that was made whole.
use Rattle.std.specs.Prelude.{◌≡◌, ℕ, Bool, Option, Some, List, [], ◌∷◌, slice_get, Contains, ⊤}
use Rattle.pv_format.specs.Message.{Envelope}
use Rattle.pv_model.specs.Events.{Event}
use Rattle.pv_model.specs.Syntax.{Program}
use Rattle.pv_protocol.specs.Arms.{completed, broken_line}
use Rattle.pv_protocol.specs.Attempt.{Attempt, Begun, at_once, attempts, of_step}
use Rattle.pv_protocol.specs.Lines.{Line, line_of}
use Rattle.pv_protocol.specs.State.{Setup, Arm, Running, Input, submit, receive, tick, Note}
use Rattle.pv_protocol.specs.Step.{site_step}
use Rattle.pv_protocol.specs.World.{World, site_at, with_done}

-- The line says what becomes of a transaction: it has begun, has committed, or is refused.
abbrev pub IsTxnLine : Line → Type 0
IsTxnLine (Line.txn txn) = ⊤
IsTxnLine (Line.commit txn replies) = ⊤
IsTxnLine (Line.refuse txn cause) = ⊤
IsTxnLine line = ⊥

-- In this world the event gives the site this to do; and the world as the site finds it.
pub data Gives (world : World) : Event → ℕ → Input → World → Type 0 where
  request : (n : ℕ) (query : Bool) (text : List ℕ) (program : Program) → Gives world (Event.submit n query text program) n (submit program) world
  delivery : (number : ℕ) (envelope : Envelope) → slice_get world.sent number ≡ Some envelope
      → Gives world (Event.deliver number) envelope.to (receive envelope.from envelope.message) (with_done world number)
  time : (n : ℕ) → Gives world (Event.tick n) n tick world

-- What an event has begun ends so: with its lines at once, or an attempt ends whole, or it is broken and one line says so.
pub data Ends : Begun → List Line → World → Type 0 where
  at_once_done : (lines : List Line) (world : World) → Ends (at_once lines world) lines world
  whole : (world : World) (n : ℕ) (attempt : Attempt) (arm : Option Arm) → Ends (attempts world n attempt) attempt.lines (completed world n attempt arm)
  broken : (world after : World) (n : ℕ) (attempt : Attempt) (stops : Bool) → Ends (attempts world n attempt) (broken_line n stops ∷ []) after

-- The line is of a note of the step that a site made in this transition, to its end.
pub record IsNoted (setup : Setup) (world : World) (event : Event) (line : Line) (after : World) : Type 0 where
  pub n : ℕ
  pub input : Input
  pub found : World
  pub gives : Gives world event n input found
  pub running : Running
  pub up : (site_at world n).running ≡ Some running
  pub note : Note
  pub noted : Contains (site_step setup n (site_at world n).records running input).notes note
  pub printed : line_of n note ≡ line
  pub arm : Option Arm
  pub whole : after ≡ completed found n (of_step n (site_step setup n (site_at world n).records running input)) arm
