use Rattle.pv_host.proofs.LeastLemmas.{least-fits}
use Rattle.pv_host.proofs.hosts.groups_fit_their_room.Goals as goal

pub returns : goal.returns
returns c = λ log room needed is le. least-fits room needed log is le
