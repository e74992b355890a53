-- What a site sends and prints in a run, and when what a station has let out is within that.
use Rattle.std.specs.Prelude.{◌≡◌, ℕ, ◌==◌, Bool, false, if◌then◌else◌, Option, Some, None, List, [], ◌∷◌, ◌++◌, drop, length, map}
use Rattle.pv_format.specs.Message.{Envelope}
use Rattle.pv_law_world.specs.Transitions.{site_of}
use Rattle.pv_model.specs.Events.{Event}
use Rattle.pv_protocol.specs.Lines.{Line, line_of}
use Rattle.pv_protocol.specs.Run.{run}
use Rattle.pv_protocol.specs.State.{Setup}
use Rattle.pv_protocol.specs.World.{World, opening}
use Rattle.pv_protocol.specs.WorldStep.{Transition}
use Rattle.pv_embed.specs.Held.{Out, message, note}

-- a message that was sent, or a line that was printed
pub data Made : Type 0 where
  sends : Envelope → Made
  prints : Line → Made

-- what it is in a run that a site of this number has let out
abbrev pub made_as : ℕ → Out → Made
made_as n (message envelope) = sends envelope
made_as n (note reported) = prints (line_of n reported)

-- ## In a run
abbrev pub is_of : ℕ → Option ℕ → Bool
is_of n None = false
is_of n (Some site) = site == n

-- what the site of this number makes in a transition from this world: first the messages, then the lines
abbrev pub made_in : ℕ → World → Transition → List Made
made_in n world transition =
    if is_of n (site_of world transition.event)
    then map sends (drop (length world.sent) transition.world.sent) ++ map prints transition.lines else []

-- what it makes in transitions, one after another
abbrev pub made_from : ℕ → World → List Transition → List Made
made_from n world [] = []
made_from n world (transition ∷ transitions) = made_in n world transition ++ made_from n transition.world transitions

-- what it makes in the run of these events
abbrev pub made_by : Setup → ℕ → List Event → List Made
made_by setup n events = made_from n (opening setup) (run setup (opening setup) events)

-- ## Within it
-- What was let out is what was made, in its order, but for lines of starts and stops; and what stands before a stop may be missing at its end. So of each process
-- a beginning was let out.
pub data IsWithin (n : ℕ) : List Made → List Made → Type 0 where
  none : IsWithin n [] []
  same : (one : Made) (out made : List Made) → IsWithin n out made → IsWithin n (one ∷ out) (one ∷ made)
  starts : (epoch : ℕ) (out made : List Made) → IsWithin n out made → IsWithin n out (prints (Line.started n epoch) ∷ made)
  stops : (out all lost made : List Made) → all ≡ lost ++ prints (Line.stopped n) ∷ made → IsWithin n out made → IsWithin n out all

-- A beginning of what was made is what was let out, in this way: the rest is still to come.
pub record IsLetOutOf (n : ℕ) (out made : List Made) : Type 0 where
  pub done : List Made
  pub rest : List Made
  pub is : made ≡ done ++ rest
  pub within : IsWithin n out done
