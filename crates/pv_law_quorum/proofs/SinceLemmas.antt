-- What is reported before makes no difference to a run: it stands before what is reported since.
use Rattle.std.proofs.Common.{◌≡◌, ℕ, Some, None, Option, List, [], ◌∷◌, ◌++◌, refl, sym, ap, ◌∙◌}
use Rattle.std.specs.Prelude.{slice_get}
use Rattle.std.proofs.lemmas.List.{append-nil, append_assoc}
use Rattle.pv_law_quorum.specs.Decider.{Setup, Entry, Input, propose, receive, Line, Answer, step}
use Rattle.pv_law_quorum.specs.World.{Envelope, World, Ending, whole, broken, Event, proposal, delivery, stop, start, decider_at, records_at, ended, given, delivered, after_event, after}
use Rattle.pv_law_quorum.specs.Undisturbed.{unreported}

module _ (setup : Setup) (before : List Line) where
  -- the world, with these lines before its own
  abbrev behind : World → World
  behind w = record w { lines = before ++ w.lines }

  ended-behind : (w : World) (n : ℕ) (answer : Answer) (ending : Ending) → ended (behind w) n answer ending ≡ behind (ended w n answer ending)
  ended-behind w n answer whole = ap (λ (lines : List Line). record (ended w n answer whole) { lines = lines }) (append_assoc before w.lines answer.lines)
  ended-behind w n answer (broken recorded) = refl

  given-behind : (w : World) (n : ℕ) (input : Input) (ending : Ending) (memory : Option (List Entry))
      → given setup (behind w) n input ending memory ≡ behind (given setup w n input ending memory)
  given-behind w n input ending None = refl
  given-behind w n input ending (Some memory) =
      ended-behind w n (step setup (record { me = n; records = records_at w n; entries = memory }) input) ending

  delivered-behind : (w : World) (ending : Ending) (found : Option Envelope) → delivered setup (behind w) ending found ≡ behind (delivered setup w ending found)
  delivered-behind w ending None = refl
  delivered-behind w ending (Some envelope) =
      given-behind w envelope.to (receive envelope.from envelope.message) ending (decider_at w envelope.to).memory

  event-behind : (w : World) (event : Event) → after_event setup (behind w) event ≡ behind (after_event setup w event)
  event-behind w (proposal n txn commits ending) = given-behind w n (propose txn commits) ending (decider_at w n).memory
  event-behind w (delivery number ending) = delivered-behind w ending (slice_get w.sent number)
  event-behind w (stop n) = refl
  event-behind w (start n) = refl

  after-behind : (events : List Event) (w : World) → after setup (behind w) events ≡ behind (after setup w events)
  after-behind [] w = refl
  after-behind (event ∷ events) w =
      ap (λ (v : World). after setup v events) (event-behind w event) ∙ after-behind events (after_event setup w event)

pub lines-since : (setup : Setup) (world : World) (events : List Event) → after setup world events
    ≡ record (after setup (unreported world) events) { lines = world.lines ++ (after setup (unreported world) events).lines }
lines-since setup world events =
    ap (λ (lines : List Line). after setup (record world { lines = lines }) events) (sym (append-nil world.lines))
    ∙ after-behind setup world.lines events (unreported world)
