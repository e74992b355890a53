-- A catalog's names are names.
use Rattle.pv_report.proofs.PlainLemmas.{name-plain}
use Rattle.pv_report.proofs.json_values.plain_name.Goals as goal

pub returns-clause-plain : goal.returns-clause-plain
returns-clause-plain c = name-plain c.name.result.now c.name.ensures.named
