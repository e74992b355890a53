-- The requests so far have their lines.
use Rattle.pv_history.specs.Entries.{stamps_of}
use Rattle.pv_told.proofs.lines.lines_of_client.Given as goal
use Rattle.pv_told.specs.Lines.{AreLinesOf}

abbrev pub invariant-loop-request : goal.invariant-loop-request
invariant-loop-request l = AreLinesOf l.site.0 l.worn (stamps_of l.history) l.client l.request l.lines.items
