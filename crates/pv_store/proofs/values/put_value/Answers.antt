-- The old value leaves the transactions that it names, and the new one comes to those that it names.
use Rattle.std.proofs.Common.{◌≡◌, ◌<◌, true, Some, length, ap, sym, subst}
use Rattle.std.specs.Prelude.{IsTrue, set}
use Rattle.pv_base.specs.declared.txn.TxnId.{TxnId}
use Rattle.pv_base.specs.Polyvalue.{names}
use Rattle.pv_model.specs.Alternatives.{Read}
use Rattle.pv_store.specs.Kept.{has_place}
use Rattle.pv_store.proofs.TouchedLemmas.{put-touched}
use Rattle.pv_store.proofs.values.put_value.Goals as goal

pub touch_all-requires : goal.touch_all-requires
touch_all-requires c = λ k d below.
    c.leave_old.ensures.more _ _
    (subst (λ (read : Read). (txn : TxnId) → IsTrue (names read.cases txn) → has_place c.args.dependents.now.places txn read.item ≡ true) (sym c.new.view_is) c.requires.placed
    _ (c.txns.ensures.each k d below))

pub returns-clause-values : goal.returns-clause-values
returns-clause-values c = ap (λ (read : Read). set c.args.values.now read.item (Some read.cases)) c.new.view_is

pub returns-clause-touched : goal.returns-clause-touched
returns-clause-touched c = λ are.
    put-touched c.args.values.now c.new.inside.item.0 c.new.inside.value c.txns.result.now
    (subst (λ (read : Read). read.item < length c.args.values.now) (sym c.new.view_is) c.requires.within) c.txns.ensures
    c.args.dependents.now.touched c.leave_old.new.dependents.touched c.touch_all.new.dependents.touched are (c.leave_old.ensures.touched are) c.touch_all.ensures.touched
