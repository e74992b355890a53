-- Notes are refusals, or name no item.
use Rattle.pv_law_lines.proofs.NoteItems.{note-fine}
use Rattle.pv_law_lines.proofs.reports_name_only_items.Goals as goal

pub returns : goal.returns
returns c = note-fine
