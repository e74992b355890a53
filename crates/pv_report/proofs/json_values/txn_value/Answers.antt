-- A transaction is digits and dots.
use Rattle.std.proofs.Common.{◌∙◌, ap}
use Rattle.pv_report.proofs.PlainLemmas.{txn-plain}
use Rattle.pv_report.specs.Shown.{is_plain}
use Rattle.pv_report.proofs.json_values.txn_value.Goals as goal

pub plain_text-requires : goal.plain_text-requires
plain_text-requires c = ap is_plain (c.deref.ensures.value ∙ c.in_ok-text.ensures) ∙ txn-plain c.args.txn
