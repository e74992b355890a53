-- The one word is a site.
use Rattle.std.specs.Fmt.{decimal}
use Rattle.pv_audit.proofs.printed.one_site.Goals as goal

pub returns-in_err-word-clause-none : goal.returns-in_err-word-clause-none
returns-in_err-word-clause-none c = rw c.from_residual.ensures (λ n fits are. c.in_err-word.ensures.none (decimal n) are)
