-- The total of values by their sums, or by how many outcomes they name.
use Rattle.std.proofs.Common.{ap, sym, ◌∙◌, arith}
use Rattle.pv_base.specs.declared.limits.TheConstants.{HELD_NAMES}
use Rattle.pv_protocol.specs.Lines as lines
use Rattle.pv_world.proofs.TotalLemmas.{total-sums, total-limit}
use Rattle.pv_world.proofs.total.total_of.Goals as goal

pub returns-in-Ok : goal.returns-in-Ok
returns-in-Ok c =
    let all = c.in-Ok.ensures.answer.given in
    ap lines.Line.total all.sums ∙ sym (total-sums HELD_NAMES c.args.values.now all.txns all.named all.few)

pub returns-in-Err-OutcomeLimit : goal.returns-in-Err-OutcomeLimit
returns-in-Err-OutcomeLimit c =
    let many = rw c.in-Err-OutcomeLimit.field-0-is at c.in-Err-OutcomeLimit.ensures.answer.refused in
    ap lines.Line.total_limit (sym many.counted) ∙ sym (total-limit HELD_NAMES c.args.values.now many.txns many.named (omega (arith, many.counted, many.over)))
