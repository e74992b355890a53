use Rattle.std.proofs.Common.{◌≡◌, drop}
use Rattle.pv_base.specs.Polyvalue.{value_at}
use Rattle.pv_poly.proofs.poly.Poly.at.Given as goal

abbrev pub invariant-loop-case : goal.invariant-loop-case
invariant-loop-case g l = value_at l.self l.yes ≡ value_at (drop l.case-index l.case-items) l.yes
