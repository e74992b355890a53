-- Nothing is read at first.
use Rattle.std.proofs.Common.{[], refl}
use Rattle.pv_audit.specs.Printed.{ArePrinted}
use Rattle.pv_audit.proofs.below.read_below.Goals as goal

pub loop-line-init : goal.loop-line-init
loop-line-init c = (([], refl, (rw c.new.ensures.items ArePrinted.none, refl)), refl)
