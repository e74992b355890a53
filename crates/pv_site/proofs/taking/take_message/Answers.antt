use Rattle.std.proofs.Common.{◌<◌, sym, subst}
use Rattle.std.specs.List.{AllPairs}
use Rattle.pv_base.specs.Want.{Want}
use Rattle.pv_site.proofs.TakingLemmas.{lock-ascending}
use Rattle.pv_site.proofs.taking.take_message.Goals as goal

pub on_lock-requires-clause-ascending : goal.on_lock-requires-clause-ascending
on_lock-requires-clause-ascending g c =
    subst (AllPairs (λ (want later : Want). want.item < later.item)) (sym c.deref.ensures.value)
    (lock-ascending c.args.from.0 c.args.parts.now.me.0 c.args.message.now c.requires.range c.in-Lock.txn c.in-Lock.wants c.in-Lock.is)
