-- The lemmas, as the law of an empty function.
use Rattle.std.proofs.Common.{[], ◌∷◌, refl}
use Rattle.pv_disk_model.specs.Disk.{overlaid}
use Rattle.pv_law_checkpoints.specs.TwoAreas.{end_at}
use Rattle.pv_law_checkpoints.proofs.AppendLemmas.{gate_decides, gate_opened}
use Rattle.pv_law_checkpoints.proofs.appends.gates_add_the_content.Goals as goal

pub returns-clause-cut : goal.returns-clause-cut
returns-clause-cut c = λ at packed later content staged left is torn. gate_decides at packed later content staged is left torn

pub returns-clause-made : goal.returns-clause-made
returns-clause-made c = λ at packed later content staged is.
    gate_opened at packed later content staged is (overlaid staged (end_at staged at later) (1 ∷ [])) refl
