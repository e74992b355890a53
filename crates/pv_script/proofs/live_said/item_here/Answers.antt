-- Where there is no client, the item is at no client's site.
use Rattle.std.proofs.Common.{sym}
use Rattle.pv_script.proofs.LiveSaidLemmas.{home-none}
use Rattle.pv_script.proofs.live_said.item_here.Goals as goal

pub returns-in_default-clients-clause-fault : goal.returns-in_default-clients-clause-fault
returns-in_default-clients-clause-fault c = (
  c.in-Some.item.0,
  sym c.in-Some.ensures,
  λ same. home-none c.args.catalog.now.items c.args.name.now c.in-Some.item.0 c.args.clients.now (sym c.in-Some.ensures) c.in_default-clients.len_below same,
)
