-- One more column is there.
use Rattle.std.proofs.Common.{ap, subst}
use Rattle.pv_base.specs.Polyvalue.{AreValues}
use Rattle.pv_model.specs.Alternatives.{Read}
use Rattle.pv_split.proofs.EffectLemmas.{columns-next}
use Rattle.pv_split.proofs.columns.columns_of.Goals as goal

pub loop-read-preserved : goal.loop-read-preserved
loop-read-preserved c =
    columns-next c.args.reads.now c.args.txns.now c.loop-read.read-index c.read-item.result
    (record { item = c.read.inside.item.0; values = c.in_ok-values.values.items }) c.loop-read.columns.items c.push.new.self.items
    c.loop-read-test.true c.read-item.is (ap (λ (read : Read). read.item) c.read.view_is)
    (subst (λ (read : Read). AreValues read.cases c.args.txns.now c.in_ok-values.values.items) c.read.view_is c.in_ok-values.ensures.values)
    c.loop-read.invariant c.in_ok-push.ensures.items
