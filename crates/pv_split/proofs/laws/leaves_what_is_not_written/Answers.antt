-- No row of the item is written, and it keeps its value.
use Rattle.std.proofs.Common.{List, ap, ◌∙◌}
use Rattle.pv_model.specs.Alternatives.{rows_at}
use Rattle.pv_model.specs.Items.{lacks}
use Rattle.pv_model.specs.Meaning.{Row, exec}
use Rattle.pv_law_programs.proofs.ProgramLemmas.{unassigned_keeps_value}
use Rattle.pv_split.proofs.LawLemmas.{lacks-unassigned}
use Rattle.pv_split.proofs.laws.leaves_what_is_not_written.Goals as goal

pub returns : goal.returns
returns c = λ program reads writes reply assignment item split doesnt. (
  ap (λ (rows : List Row). lacks rows item) (split.written assignment)
      ∙ lacks-unassigned program item (exec program (rows_at reads assignment)).rows doesnt,
  unassigned_keeps_value program (rows_at reads assignment) item doesnt,
)
