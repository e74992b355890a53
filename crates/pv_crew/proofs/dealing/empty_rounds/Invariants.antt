use Rattle.std.proofs.Common.{◌≤◌}
use Rattle.pv_crew.specs.Dealing.{AreEmpty}
use Rattle.pv_crew.proofs.dealing.empty_rounds.Given as goal

abbrev pub invariant-loop-worker : goal.invariant-loop-worker
invariant-loop-worker g l = (l.worker ≤ l.workers) × AreEmpty l.sites l.worker l.rounds.items
