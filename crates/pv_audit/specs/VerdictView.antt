-- Verdicts as the plain data of the definitions.
use Rattle.pv_audit.specs.Findings as model
use Rattle.pv_audit.specs.declared.verdict.Verdict.{Verdict}
use Rattle.pv_audit.specs.declared.verdict.Verdict.TheVariants.{Yes, NoOrder, NoItem, Limit}

abbrev pub verdict_of : Verdict → model.Verdict
verdict_of (Yes count) = model.all_agree count
verdict_of (NoOrder number txn) = model.at_report number (model.no_order txn)
verdict_of (NoItem number item txns) = model.at_report number (model.no_item item.0 txns.items)
verdict_of (Limit number names) = model.at_report number (model.limit names)
