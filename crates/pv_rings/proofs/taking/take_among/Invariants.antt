use Rattle.std.specs.Prelude.{◌≤◌}
use Rattle.pv_rings.specs.Rings.{AreFoundEmpty}
use Rattle.pv_rings.proofs.taking.take_among.Given as goal

-- The rings so far held nothing.
abbrev pub invariant-loop-ring : goal.invariant-loop-ring
invariant-loop-ring g l = (l.ring ≤ l.fn.to) × AreFoundEmpty l.fn.from l.ring l.fn.rings.items l.rings.items
