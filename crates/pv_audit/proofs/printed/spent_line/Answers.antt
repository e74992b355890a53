-- The word behind the first is a site.
use Rattle.std.proofs.Common.{refl}
use Rattle.pv_audit.proofs.printed.spent_line.Goals as goal

pub returns-in_err-site : goal.returns-in_err-site
returns-in_err-site c = rw c.from_residual.ensures (λ catalog x has. c.in_err-site.ensures.none x has.within has.are)

pub returns : goal.returns
returns c = λ catalog. (c.in_ok-site.site.0, record { are = c.in_ok-site.ensures.site; items = tt; within = c.in_ok-site.ensures.within }, refl)
