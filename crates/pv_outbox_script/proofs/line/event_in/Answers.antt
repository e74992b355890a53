-- The first word decides.
use Rattle.std.proofs.Common.{sym, ◌∙◌}
use Rattle.pv_lines.specs.Words.{texts}
use Rattle.pv_outbox_script.proofs.LineLemmas.{hold-words, plain-words}
use Rattle.pv_outbox_script.proofs.line.event_in.Goals as goal

pub returns-then-is_hold-clause-said : goal.returns-then-is_hold-clause-said
returns-then-is_hold-clause-said c =
    rw c.in-Some.ensures.some (hold-words c.in-Some.word.now (texts c.in-Some.args.now) (sym c.is_hold.ensures ∙ c.if-is_hold.true) c.hold_in.result c.hold_in.ensures.said)

pub returns-clause-said : goal.returns-clause-said
returns-clause-said c =
    rw c.in-Some.ensures.some (plain-words c.in-Some.word.now (texts c.in-Some.args.now) (sym c.is_hold.ensures ∙ c.if-is_hold.false) c.plain_in.result c.plain_in.ensures.said)
