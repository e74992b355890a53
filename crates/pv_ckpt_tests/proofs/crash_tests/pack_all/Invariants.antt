use Rattle.std.proofs.Common.{◌≡◌}
use Rattle.pv_disk.specs.MemLaws.{mem_model}
use Rattle.pv_ckpt.specs.CkptLog.{IsIntact}
use Rattle.pv_ckpt_tests.proofs.crash_tests.pack_all.Given as goal

abbrev pub invariant-loop : goal.invariant-loop
invariant-loop l = IsIntact mem_model l.log × (l.log.limit ≡ 4000000)
