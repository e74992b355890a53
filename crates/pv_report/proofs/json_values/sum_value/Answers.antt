-- A sum is digits, and a sign at most.
use Rattle.std.proofs.Common.{◌++◌, ◌∙◌, ap, to_z, of_z}
use Rattle.std.specs.Fmt.{signed_decimal}
use Rattle.std.specs.Int.{w128}
use Rattle.pv_report.proofs.PlainLemmas.{signed-plain}
use Rattle.pv_report.specs.Shown.{is_plain}
use Rattle.pv_report.proofs.json_values.sum_value.Goals as goal

pub plain_text-requires : goal.plain_text-requires
plain_text-requires c =
    let sum = to_z w128 (of_z w128 c.args.sum) in
    ap is_plain (c.deref.ensures.value ∙ c.in_ok-push_signed.ensures.text ∙ ap (λ l. l ++ signed_decimal sum) c.new-text.ensures.items)
    ∙ signed-plain sum
