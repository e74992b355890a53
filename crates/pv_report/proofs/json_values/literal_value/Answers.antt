-- A literal is a sign and a transaction.
use Rattle.std.proofs.Common.{◌++◌, ◌∙◌, ap}
use Rattle.pv_protocol.specs.LineText.{literal_text}
use Rattle.pv_report.proofs.PlainLemmas.{literal-plain}
use Rattle.pv_report.specs.Shown.{is_plain}
use Rattle.pv_report.proofs.json_values.literal_value.Goals as goal

pub plain_text-requires : goal.plain_text-requires
plain_text-requires c =
    ap is_plain
    (c.deref.ensures.value ∙ c.in_ok-push_literal.ensures.text ∙ ap (λ l. l ++ literal_text c.args.literal) c.new-text.ensures.items)
    ∙ literal-plain c.args.literal
