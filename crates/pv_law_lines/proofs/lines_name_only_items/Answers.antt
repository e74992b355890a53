-- Event by event.
use Rattle.pv_law_lines.proofs.LineItems.{lines-name-items}
use Rattle.pv_law_lines.proofs.lines_name_only_items.Goals as goal

pub returns : goal.returns
returns c = lines-name-items
