-- An item that is in doubt is read by a second transaction, which asks for its vote on what it makes of it.
use Rattle.std.specs.Prelude.{true, List, [], ◌∷◌, ◌++◌}
use Rattle.pv_base.specs.declared.grant.GrantId.{GrantId}
use Rattle.pv_law_refusals.specs.Refused.{raise_b}
use Rattle.pv_law_events.specs.Eventful.{small, doubtful}
use Rattle.pv_law_world.specs.ExampleLines.{u, either}
use Rattle.pv_law_world.specs.Schedules.{changed}
use Rattle.pv_model.specs.Alternatives.{Read}
use Rattle.pv_model.specs.Events.{Event, deliver}
use Rattle.pv_model.specs.Syntax.{Op, Program}
use Rattle.pv_protocol.specs.Run.{run, world_after}
use Rattle.pv_protocol.specs.State.{voting, Taken, Entry, Grant}
use Rattle.pv_protocol.specs.World.{World, opening}

-- While `b` is in doubt at site 1, site 0 is asked to raise it, and takes the grant with both values.
abbrev pub until_raised : List Event
until_raised = doubtful ++ raise_b ∷ deliver 9 ∷ deliver 10 ∷ []

abbrev pub raised : World
raised = world_after (opening small) (run small (opening small) until_raised)

-- the grant's number, what was taken, the entry, and what is to be written
abbrev pub second : GrantId
second = record { epoch = 1; number = 1 }

abbrev pub read : Taken
read = record { site = 1; grant = second; values = record { item = 1; cases = either 50 60 } ∷ [] }

abbrev pub raising : Entry
raising = record { txn = u; program = changed Op.plus 1 1 Program.end; stage = voting; age = 0; taken = read ∷ []; votes = [] }

abbrev pub held : Grant
held = record { txn = u; id = second; wants = record { item = 1; exclusive = true } ∷ []; age = 0 }

abbrev pub writes : List Read
writes = record { item = 1; cases = either 51 61 } ∷ []
