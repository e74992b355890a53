use Rattle.pv_audit.proofs.NamedLemmas.{schedule-named}
use Rattle.pv_audit.proofs.laws.schedules_name_items_apart.Goals as goal

pub returns : goal.returns
returns c = schedule-named
