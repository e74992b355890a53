-- One choice more.
use Rattle.std.proofs.Common.{◌+◌, List, take, sym, subst}
use Rattle.std.proofs.lemmas.List.Elements.{all_zip_more}
use Rattle.pv_audit.specs.Values.{AreChoices, IsChoiceOf}
use Rattle.pv_model.specs.Alternatives.{Read}
use Rattle.pv_audit.proofs.values.choices_of.Goals as goal

pub loop-write-preserved : goal.loop-write-preserved
loop-write-preserved c =
    subst (λ (choices : List Read). AreChoices c.args.txn c.args.values.now (take (c.loop-write.write-index + 1) c.args.writes.now) choices) (sym c.in_ok-push.ensures.items)
    (all_zip_more (IsChoiceOf c.args.txn c.args.values.now) c.args.writes.now c.loop-write.choices.items c.loop-write.write-index c.write-item.result c.in_ok-choice_of.field-0
    c.loop-write-test.true c.write-item.is c.loop-write.invariant c.in_ok-choice_of.ensures.choice)
