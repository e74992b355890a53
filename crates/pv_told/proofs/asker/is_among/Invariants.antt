-- The request is one of those that are left where it is one of all.
use Rattle.std.proofs.Common.{◌≡◌, drop}
use Rattle.pv_told.proofs.asker.is_among.Given as goal
use Rattle.pv_told.specs.Words.{has_asker}

abbrev pub invariant-loop-other : goal.invariant-loop-other
invariant-loop-other l = has_asker l.asker (drop l.other-index l.askers) ≡ has_asker l.asker l.askers
