-- The world in memory is the one after the events so far, which have printed the lines so far.
use Rattle.pv_live.proofs.PrintLemmas.{HasPrinted}
use Rattle.pv_live.proofs.printing.lines_of_run.Given as goal

abbrev pub invariant-loop-event : goal.invariant-loop-event
invariant-loop-event l = HasPrinted l.catalog l.events l.world l.event-index l.lines.items
