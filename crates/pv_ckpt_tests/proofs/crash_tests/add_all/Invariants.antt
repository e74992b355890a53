use Rattle.std.proofs.Common.{◌≡◌}
use Rattle.pv_ckpt_tests.proofs.crash_tests.add_all.Given as goal

abbrev pub invariant-loop : goal.invariant-loop
invariant-loop g l = g.L.Log.model.is_intact l.log × (g.L.Log.model.limit l.log ≡ g.L.Log.model.limit l.fn.log)
