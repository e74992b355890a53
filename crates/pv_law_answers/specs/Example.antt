-- On from the doubt of the eventful run, one message at a time: an outcome is made, reported and recorded, and outlasts a restart; or the doubtful
-- item is read.
use Rattle.std.specs.Prelude.{true, List, [], ◌∷◌, ◌++◌, codes}
use Rattle.pv_base.specs.declared.txn.TxnId.{TxnId}
use Rattle.pv_law_events.specs.Eventful.{small, doubtful}
use Rattle.pv_model.specs.Events.{Event, submit, deliver, stop, start}
use Rattle.pv_model.specs.Syntax.{Expr, Program}
use Rattle.pv_protocol.specs.Run.{run, world_after}
use Rattle.pv_protocol.specs.State.{Setup}
use Rattle.pv_protocol.specs.World.{World, opening}

-- The votes come, and the transfer commits ..
abbrev pub until_commit : List Event
until_commit = doubtful ++ deliver 6 ∷ deliver 7 ∷ []

-- .. and site 1 hears of it.
abbrev pub until_settled : List Event
until_settled = until_commit ++ deliver 9 ∷ []

-- It stops and starts.
abbrev pub until_restarted : List Event
until_restarted = until_settled ++ stop 1 ∷ start 1 ∷ []

-- While both sites are in doubt, site 1 is asked for its item, and reads it.
abbrev pub until_read : List Event
until_read = doubtful ++ submit 1 true (codes "return b") (Program.return (Expr.item 1) Program.end) ∷ deliver 9 ∷ deliver 10 ∷ []

-- Then it votes, and commits.
abbrev pub until_asked : List Event
until_asked = until_read ++ deliver 11 ∷ deliver 12 ∷ []

-- the transaction that asks
abbrev pub asker : TxnId
asker = record { site = record { 0 = 1 }; epoch = 1; number = 0 }

-- the same, where what one transaction reads may name nothing that is open
abbrev pub strict : Setup
strict = record small { read_names = 0 }

-- the world after these events
abbrev pub after : List Event → World
after events = world_after (opening small) (run small (opening small) events)
