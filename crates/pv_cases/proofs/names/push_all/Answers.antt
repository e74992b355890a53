-- One case after another, until none is left or the memory runs out.
use Rattle.std.proofs.Common.{List, IsTrue, inr, ap, sym, subst, ◌∙◌}
use Rattle.std.proofs.lemmas.List.{take_all}
use Rattle.pv_base.specs.declared.literal.Literal.{Literal}
use Rattle.pv_base.specs.declared.txn.TxnId.{TxnId}
use Rattle.pv_base.specs.Polyvalue.{Case, names}
use Rattle.pv_cases.specs.Names.{mentions, Adds}
use Rattle.pv_cases.proofs.AddedNames.{adds-next, kept-further}
use Rattle.pv_cases.proofs.names.push_all.Goals as goal

pub loop-case-preserved : goal.loop-case-preserved
loop-case-preserved g c = record {
  added = adds-next (λ (txn : TxnId) (case : Case _). mentions case.when txn) c.args.cases.now c.loop-case.case-index c.case-item.result
      c.args.txns.now.items c.loop-case.txns.items c.push_txns.new.txns.items c.loop-case-test.true c.loop-case.invariant.added
      (subst (λ (when : List Literal). Adds (mentions when) c.loop-case.txns.items c.push_txns.new.txns.items)
      (c.deref.ensures.value ∙ ap (λ (case : Case _). case.when) (c.case.view_is ∙ c.case-item.is)) c.in_ok-push_txns.ensures.names);
  last = λ txn mentioned. (c.in_ok-push_txns.ensures.names txn).1
      (inr (subst (λ (when : List Literal). IsTrue (mentions when txn)) (c.deref-before.ensures.value ∙ sym c.deref.ensures.value) mentioned));
  kept = kept-further c.args.txns.now.items c.loop-case.txns.items c.push_txns.new.txns.items c.loop-case.invariant.kept c.push_txns.ensures.kept;
}

pub returns-clause-names : goal.returns-clause-names
returns-clause-names g c =
    subst (λ (cases : List (Case _)). Adds (names cases) c.args.txns.now.items c.loop-case.txns.items)
    (take_all c.loop-case.case-index c.args.cases.now c.loop-case-test.false) c.loop-case.invariant.added
