-- The limit on the bytes that a run may send.
use Rattle.std.specs.Prelude.{ℕ, ◌+◌, nat_lt, Option, Some, None, List, [], ◌∷◌, ◌++◌, if◌then◌else◌}
use Rattle.pv_format.specs.Length.{envelope_length}
use Rattle.pv_format.specs.Message.{Envelope}
use Rattle.pv_model.specs.Events.{Event}
use Rattle.pv_protocol.specs.Lines.{Line}
use Rattle.pv_protocol.specs.Run.{transitions_of, world_after, lines_of_transitions}
use Rattle.pv_protocol.specs.State.{Setup}
use Rattle.pv_protocol.specs.World.{World}

-- The total with the first of these messages that passes the limit, if one does, where so many bytes were sent before them.
abbrev pub over : (limit total : ℕ) → List Envelope → Option ℕ
over limit total [] = None
over limit total (envelope ∷ sent) =
    if nat_lt limit (total + envelope_length envelope)
    then Some (total + envelope_length envelope)
    else over limit (total + envelope_length envelope) sent

-- The total of the bytes that were sent in a world, with the message that passes the limit, if one does.
unfoldable pub over_limit : ℕ → World → Option ℕ
over_limit limit world = over limit 0 world.sent

-- What is printed under the limit, and the total that passes it, if it is passed.
pub record Output : Type 0 where
  pub lines : List Line
  pub over : Option ℕ

-- An event in which the limit is passed prints nothing and is the last. Else its lines come before those of the rest.
abbrev pub unless_over : Option ℕ → List Line → Output → Output
unless_over (Some total) lines rest = record { lines = []; over = Some total }
unless_over None lines rest = record { lines = lines ++ rest.lines; over = rest.over }

-- what events print under the limit, from this world on
abbrev pub run_within : ℕ → Setup → World → List Event → Output
run_within limit setup world [] = record { lines = []; over = None }
run_within limit setup world (event ∷ events) =
    let now = transitions_of setup world event in
    let after = world_after world now in
    unless_over (over_limit limit after) (lines_of_transitions now) (run_within limit setup after events)
