-- What needs no escape is ASCII.
use Rattle.pv_report.proofs.PlainLemmas.{refused-plain}
use Rattle.pv_report.proofs.json_values.plain_text.Goals as goal

pub unreachable-requires : goal.unreachable-requires
unreachable-requires c = refused-plain c.args.text.now c.requires c.in-Err.ensures.cases.0
