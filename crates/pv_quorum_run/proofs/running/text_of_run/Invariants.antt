-- The events so far have happened.
use Rattle.std.proofs.Common.{take}
use Rattle.pv_quorum_run.proofs.RunLemmas.{HasRun}
use Rattle.pv_quorum_run.proofs.running.text_of_run.Given as goal

abbrev pub invariant-loop-event : goal.invariant-loop-event
invariant-loop-event l = HasRun l.script.deciders (take l.event-index l.script.events.items) l.table l.text.items
