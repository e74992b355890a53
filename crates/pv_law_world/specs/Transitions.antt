-- Which site an event is of, which transitions follow one another, and which transition a message was sent in.
use Rattle.std.specs.Prelude.{◌≡◌, ℕ, Option, Some, None, List, [], ◌∷◌, slice_get, IsSome}
use Rattle.pv_format.specs.Message.{Envelope}
use Rattle.pv_model.specs.Events.{Event, submit, deliver, tick, stop, start, arm, mend, checkpoint}
use Rattle.pv_protocol.specs.Places.{Place, world_before}
use Rattle.pv_protocol.specs.State.{Setup}
use Rattle.pv_protocol.specs.World.{World, site_at}
use Rattle.pv_protocol.specs.WorldStep.{Transition, transition_of}

-- the site that a message goes to
abbrev pub receiver_of : Option Envelope → Option ℕ
receiver_of None = None
receiver_of (Some envelope) = Some envelope.to

-- the site that an event is given to or done to, if there is one
abbrev pub site_of : World → Event → Option ℕ
site_of world (submit n query text program) = Some n
site_of world (deliver number) = receiver_of (slice_get world.sent number)
site_of world (tick n) = Some n
site_of world (stop n) = Some n
site_of world (start n) = Some n
site_of world (arm n call mode stops) = Some n
site_of world (mend n) = Some n
site_of world (checkpoint n) = Some n
site_of world other = None

-- Each transition is what its event does in the world before it, the first of them in this world.
pub data AreTransitions (setup : Setup) : World → List Transition → Type 0 where
  none : (world : World) → AreTransitions setup world []
  one_more : (world : World) (transition : Transition) (transitions : List Transition) → transition ≡ transition_of setup world transition.event → AreTransitions setup transition.world transitions
      → AreTransitions setup world (transition ∷ transitions)

-- The message of this number was sent in one of these transitions, by the site that its event is of, which was up.
pub record WasSent (first : World) (transitions : List Transition) (number : ℕ) (envelope : Envelope) : Type 0 where
  pub sender : Place transitions
  pub new : slice_get (world_before first sender).sent number ≡ None
  pub there : slice_get sender.transition.world.sent number ≡ Some envelope
  pub stepped : site_of (world_before first sender) sender.transition.event ≡ Some envelope.from
  pub up : IsSome (site_at (world_before first sender) envelope.from).running
