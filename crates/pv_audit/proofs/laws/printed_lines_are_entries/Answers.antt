use Rattle.pv_audit.proofs.PromptLemmas.{line-entry}
use Rattle.pv_audit.proofs.laws.printed_lines_are_entries.Goals as goal

pub returns : goal.returns
returns c = line-entry
