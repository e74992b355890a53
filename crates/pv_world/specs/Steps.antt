-- What an event of a schedule makes of a world in memory, by the answer.
use Rattle.std.specs.Prelude.{◌≡◌, ◌<◌, ℕ, List, ◌++◌, map, option_to_list, Option, Some, Result, Ok, Err, ⊤}
use Rattle.std.specs.Global.{Vec}
use Rattle.pv_law_events.specs.Replays.{AreReplayable}
use Rattle.pv_model.specs.Events.{Event}
use Rattle.pv_protocol.specs.Attempt.{Begun, given}
use Rattle.pv_protocol.specs.Limit.{over_limit}
use Rattle.pv_protocol.specs.Lines as lines
use Rattle.pv_protocol.specs.Run.{transitions_of, world_after, lines_of_transitions}
use Rattle.pv_protocol.specs.State.{Placed}
use Rattle.pv_protocol.specs.World as model
use Rattle.pv_protocol.specs.World.{site_at}
use Rattle.pv_protocol.specs.WorldStep.{Transition, ended}
use Rattle.pv_script.specs.LineView.{line_of}
use Rattle.pv_script.specs.declared.line.Line.{Line}
use Rattle.pv_site.specs.Given.{IsGivenFor, input_in}
use Rattle.pv_site.specs.SiteState.{setup_of}
use Rattle.pv_site.specs.declared.input.Given.{Given}
use Rattle.pv_world.specs.Stands.{Stands, StandsFor}
use Rattle.pv_world.specs.declared.error.WorldError.{WorldError}
use Rattle.pv_world.specs.declared.error.WorldError.TheVariants.{SentLimit, NoMemory}
use Rattle.pv_world.specs.declared.world.World.{World}

-- the lines as plain data
abbrev pub lines_of : List Line → List lines.Line
lines_of lines = map line_of lines

-- The world stands for some world, and the input can be given to this site of it. Each site can read its records anew, now and after that.
pub record CanGive (world : World) (n : ℕ) (input : Given) : Type 0 where
  pub is : model.World
  pub stands : Stands world is
  pub site : n < world.catalog.sites
  pub fits : IsGivenFor n world.catalog input
  pub replayable : AreReplayable (setup_of world.catalog) is
  pub after : AreReplayable (setup_of world.catalog) (ended (given (setup_of world.catalog) is n (input_in input) (site_at is n).running)).1

-- the world with this transaction at the end of its order, if there is one
abbrev pub with_placed : model.World → Option Placed → model.World
with_placed is placed = record is { order = is.order ++ option_to_list placed }

-- The declarations and the limit on bytes are as they were.
pub record IsSameBeside (old new : World) : Type 0 where
  pub catalog : new.catalog ≡ old.catalog
  pub limit : new.mail.limit ≡ old.mail.limit

-- The transaction that has reached its lock point, if one has, was added to the order.
pub record IsPlaced (old new : World) (is : model.World) (placed : Option Placed) : Type 0 where
  pub stands : Stands new (with_placed is placed)
  pub same : IsSameBeside old new

-- The world has become this one and these lines were added, or the limit on bytes is passed in it, or there was no memory.
abbrev pub Becomes : {X : Type 0} → (old new : World) → (before after : List Line) → model.World → List lines.Line → Result X WorldError → Type 0
Becomes old new before after is lines (Ok _) = Stands new is × IsSameBeside old new × (lines_of after ≡ lines_of before ++ lines)
Becomes old new before after is lines (Err (SentLimit total)) = over_limit old.mail.limit is ≡ Some total
Becomes old new before after is lines (Err NoMemory) = ⊤

-- What an event comes to has happened, by the answer.
abbrev pub Comes : {X : Type 0} → (old new : World) → (before after : List Line) → Begun → Result X WorldError → Type 0
Comes old new before after begun result = Becomes old new before after (ended begun).1 (ended begun).0 result

-- These transitions have been made, by the answer: exactly their lines were added, and the world is the one after them; or the total with
-- the message that passes the limit.
abbrev pub MakesTransitions : {X : Type 0} → (old new : World) → (before after : List Line) → model.World → List Transition → Result X WorldError → Type 0
MakesTransitions old new before after is transitions (Ok _) =
    StandsFor new (world_after is transitions) × IsSameBeside old new × (lines_of after ≡ lines_of before ++ lines_of_transitions transitions)
MakesTransitions old new before after is transitions (Err (SentLimit total)) = over_limit old.mail.limit (world_after is transitions) ≡ Some total
MakesTransitions old new before after is transitions (Err NoMemory) = ⊤

-- The event's step, by the answer: exactly its lines, and the world after it; or the total with the message that passes the limit.
abbrev pub Steps : (old new : World) → Event → model.World → Result (Vec Line) WorldError → Type 0
Steps old new event is (Ok lines) =
    let transitions = transitions_of (setup_of old.catalog) is event in
    StandsFor new (world_after is transitions) × IsSameBeside old new × (lines_of lines.items ≡ lines_of_transitions transitions)
Steps old new event is (Err (SentLimit total)) =
    over_limit old.mail.limit (world_after is (transitions_of (setup_of old.catalog) is event)) ≡ Some total
Steps old new event is (Err NoMemory) = ⊤
