-- A fault of the number is one of the count.
use Rattle.std.proofs.lemmas.Result.{err_from_is_err_and}
use Rattle.pv_script.proofs.arguments.count_in.Goals as goal

pub returns-in_err-count-clause-fault : goal.returns-in_err-count-clause-fault
returns-in_err-count-clause-fault c = λ sites.
    let p = err_from_is_err_and c.from_residual.result c.from_residual.ensures.1 in
    rw (p.1, p.2) (rw c.from.ensures at (c.in_err-count.ensures.fault sites))
