-- The looks so far stand in the lines, and whether anything was asked for so far is known.
use Rattle.std.proofs.Common.{◌≡◌, take}
use Rattle.pv_closing.proofs.lines.put_looks.Given as goal
use Rattle.pv_closing.specs.Lines.{HaveLooked, has_request}

abbrev pub invariant-loop-at : goal.invariant-loop-at
invariant-loop-at g l = record {
  looked : HaveLooked l.of l.wishes l.fn.lines.items l.at l.lines.items;
  asked : l.asked ≡ has_request (take l.at l.wishes);
}
