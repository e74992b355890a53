-- What is written to the items so far, and then to those of the rest.
use Rattle.std.proofs.Common.{◌≡◌, ◌++◌, drop}
use Rattle.pv_protocol.specs.Coordinate.{exclusive_items}
use Rattle.pv_site.specs.Shares.{writes_in}
use Rattle.pv_site.proofs.granting.writes_for.Given as goal

abbrev pub invariant-loop-want : goal.invariant-loop-want
invariant-loop-want l =
    l.own.items ++ writes_in l.writes (exclusive_items (drop l.want-index l.wants)) ≡ writes_in l.fn.writes (exclusive_items l.fn.wants)
