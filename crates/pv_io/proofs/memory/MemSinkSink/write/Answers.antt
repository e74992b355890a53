-- Where the call was planned to fail, its number is in the list.
use Rattle.std.proofs.Common.{refl}
use Rattle.std.proofs.lemmas.Result.{err_from_is_err_and}
use Rattle.pv_io.proofs.memory.MemSinkSink.write.Goals as goal

pub returns-in_err-begin_call-clause-fails_only : goal.returns-in_err-begin_call-clause-fails_only
returns-in_err-begin_call-clause-fails_only c = λ _.
    let failed = err_from_is_err_and c.from_residual.result c.from_residual.ensures.1 in
    rw (failed.1, ← c.self.view_is) (c.in_err-begin_call.ensures.fails.0 refl)
