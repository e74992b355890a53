-- The transaction is that of what stands between the dots.
use Rattle.std.proofs.Common.{ap, ◌∙◌}
use Rattle.pv_lines.specs.Spelled.{txn_of_parts, txn_said}
use Rattle.pv_lines.specs.Words.{texts}
use Rattle.pv_lines.proofs.spelled.txn_in.Goals as goal

pub returns-clause-said : goal.returns-clause-said
unfolding txn_said
returns-clause-said c = c.txn_of_parts.ensures.said ∙ ap txn_of_parts (ap texts c.deref.ensures.value ∙ c.in_ok-parts.ensures)
