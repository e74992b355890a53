use Rattle.std.proofs.Common.{refl}
use Rattle.pv_upgrade.proofs.RenewedLemmas.{none-renewed}
use Rattle.pv_upgrade.proofs.contents.renew_all.Goals as goal

pub loop-content-init : goal.loop-content-init
loop-content-init c = none-renewed _ c.in_ok-with_capacity.ensures.items refl refl
