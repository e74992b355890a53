use Rattle.pv_report.proofs.TextLemmas.{text-line}
use Rattle.pv_report.proofs.laws.printed_lines_are_text.Goals as goal

pub returns : goal.returns
returns c = text-line
