-- One more write.
use Rattle.std.proofs.Common.{◌+◌, List, sym, subst, take}
use Rattle.std.specs.List.{AllZip}
use Rattle.std.proofs.lemmas.List.Elements.{all_zip_more}
use Rattle.pv_model.specs.Alternatives.{Read}
use Rattle.pv_site.specs.LockPoint.{IsWritePutIn}
use Rattle.pv_site.proofs.granting.settled_named.Goals as goal

pub loop-write-preserved : goal.loop-write-preserved
loop-write-preserved c =
    let R = IsWritePutIn c.args.store.now.records in
    subst (λ (written : List Read). AllZip R (take (c.loop-write.write-index + 1) c.deref-write-items.result.now) written) (sym c.in_ok-push.ensures.items)
    (all_zip_more R c.deref-write-items.result.now c.loop-write.writes.items c.loop-write.write-index c.write-item.result c.in_ok-settled_write.field-0
    c.loop-write-test.true c.write-item.is c.loop-write.invariant c.in_ok-settled_write.ensures)
