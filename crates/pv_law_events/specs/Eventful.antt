-- A short run in which each law on runs says something.
use Rattle.std.specs.Prelude.{List, [], ◌∷◌, ◌++◌}
use Rattle.pv_law_world.specs.ExampleLines.{t, u, txn_in, sure, either, values, report_lines}
use Rattle.pv_law_step.specs.Examples.{bank}
use Rattle.pv_law_world.specs.Schedules.{transfer, pump_all, pumped, three_ticks, stop_in_commit, outcome_asked}
use Rattle.pv_model.specs.Events.{Event, stop, start, report}
use Rattle.pv_base.specs.declared.mode.Mode.TheVariants.{Kept}
use Rattle.pv_base.specs.declared.reply.Reply.TheVariants.{Nothing}
use Rattle.pv_protocol.specs.Lines.{Line}
use Rattle.pv_protocol.specs.Run.{run, world_after}
use Rattle.pv_protocol.specs.State as state
use Rattle.pv_protocol.specs.State.{Setup}
use Rattle.pv_protocol.specs.World.{World, opening}

-- two items, `a` of 100 and `b` of 50, at two sites, where few outcomes may be named
abbrev pub small : Setup
small = record bank { read_names = 1; held_names = 2 }

-- A transfer is prepared at both sites, and the grant of site 1 ends before the votes are taken.
abbrev pub doubtful : List Event
doubtful = transfer ∷ pumped 6 ∷ three_ticks 1

-- Then the votes are taken, it commits, and both sites hear of it.
abbrev pub settled : List Event
settled = doubtful ++ report ∷ pump_all ∷ []

-- Then site 1 restarts, and of two more transfers the second is refused.
abbrev pub eventful : List Event
eventful = settled ++ report ∷ stop 1 ∷ start 1 ∷ transfer ∷ transfer ∷ pump_all ∷ report ∷ []

-- the world in which the outcome is open, and the one in which both sites know it
abbrev pub in_doubt : World
in_doubt = world_after (opening small) (run small (opening small) doubtful)

abbrev pub after_outcome : World
after_outcome = world_after (opening small) (run small (opening small) settled)

-- the world in which both sites know that a transaction doesn't commit, since site 0 stopped in the first write of its commit record
abbrev pub after_abort : World
after_abort = world_after (opening small) (run small (opening small) (stop_in_commit 1 Kept ++ outcome_asked))

-- what it prints
abbrev pub eventful_lines : List Line
eventful_lines =
    Line.txn t ∷ report_lines (t ∷ []) [] (t ∷ []) (Line.item_locked 0 t ∷ Line.item 1 (either 50 60) ∷ [])
    ++ Line.commit t (Nothing ∷ []) ∷ report_lines (t ∷ []) (t ∷ []) [] (values (sure 90) (sure 60))
    ++ Line.stopped 1 ∷ Line.started 1 2 ∷ Line.txn u ∷ Line.txn (txn_in 1 2) ∷ Line.refuse (txn_in 1 2) (state.conflict 0 0 u)
    ∷ Line.commit u (Nothing ∷ []) ∷ report_lines (t ∷ (u ∷ [])) (t ∷ (u ∷ [])) [] (values (sure 80) (sure 70))
