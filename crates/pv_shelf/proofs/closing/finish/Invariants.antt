-- What the reader's last look found begins with what it had seen.
use mathlib.Core.List.{IsPrefix}
use Rattle.left_right.specs.Sides.{view}
use Rattle.pv_shelf.proofs.closing.finish.Given as goal

abbrev pub invariant-loop : goal.invariant-loop
invariant-loop g l =
    IsPrefix (view l.initial.reader.place).seen (view l.reader.place).seen
    × (goal.iterator-loop g).can_next l.iterator' × (goal.iterator-loop g).is_finite l.iterator'
