-- The lemmas, as the law of an empty function.
use Rattle.std.proofs.Common.{◌+◌, refl}
use Rattle.pv_disk_model.specs.Disk.{overlaid}
use Rattle.pv_law_checkpoints.specs.Appending.{frame_of}
use Rattle.pv_law_checkpoints.specs.TwoAreas.{end_at}
use Rattle.pv_law_checkpoints.proofs.AppendLemmas.{behind_gate_kept, frame_staged}
use Rattle.pv_law_checkpoints.proofs.appends.frames_keep_the_contents.Goals as goal

pub returns-clause-cut : goal.returns-clause-cut
returns-clause-cut c = λ at packed later bytes left count log torn. behind_gate_kept at packed later bytes log count left torn

pub returns-clause-made : goal.returns-clause-made
returns-clause-made c = λ at packed later bytes content log short.
    frame_staged at packed later bytes log content (overlaid bytes (end_at bytes at later + 1) (frame_of content)) short refl
