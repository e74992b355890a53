-- The words behind the first are transactions.
use Rattle.std.proofs.Common.{refl}
use Rattle.pv_audit.proofs.printed.open_line.Goals as goal

pub returns-in_default : goal.returns-in_default
returns-in_default c = λ catalog x has. (rw c.in_default.is at c.in_ok-txns.ensures) x has.within has.are

pub returns : goal.returns
returns c =
    let found = rw c.in-Some.is at c.in_ok-txns.ensures in
    λ catalog. (c.in-Some.txns.items, record { are = found.0; items = tt; within = found.1 }, refl)
