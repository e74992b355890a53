-- The words behind the first are `message` and a number.
use Rattle.std.proofs.Common.{sym, ◌∙◌, arith}
use Rattle.std.specs.Prelude.{codes}
use Rattle.std.specs.Fmt.{decimal}
use Rattle.pv_audit.proofs.CutLemmas.{same-head}
use Rattle.pv_audit.proofs.PartsLemmas.{behind}
use Rattle.pv_audit.proofs.printed.no_message_line.Goals as goal

pub returns-in_err-first : goal.returns-in_err-first
returns-in_err-first c = rw c.from_residual.ensures (λ catalog x has. c.in_err-first.ensures.none (codes "message") (decimal x) has.are)

pub returns-in_err-number : goal.returns-in_err-number
returns-in_err-number c = rw c.from_residual-in_err-number.ensures (λ catalog x has.
    c.in_err-number.ensures.none x (omega (arith, has.within)) (same-head (behind (sym c.in_ok-first.ensures.some ∙ has.are))))
