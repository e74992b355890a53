use Rattle.std.proofs.Common.{◌≡◌, ◌++◌, take, drop}
use Rattle.pv_locks.proofs.held.age.Given as goal
use Rattle.pv_protocol.specs.Tick.{older_grants}

abbrev pub invariant-loop-grant : goal.invariant-loop-grant
invariant-loop-grant l = l.grant-items ≡ older_grants (take l.grant-index l.fn.grants) ++ drop l.grant-index l.fn.grants
