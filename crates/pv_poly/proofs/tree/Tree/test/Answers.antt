use Rattle.std.proofs.Common.{sym, ◌∙◌}
use Rattle.std.proofs.lemmas.Bool.{false≢true}
use Rattle.pv_poly.proofs.TopOfTree.{reduced-canonical}
use Rattle.pv_cases.proofs.ChoiceLemmas.{new-sides, new-choice, new-names, new-canonical}
use Rattle.pv_poly.proofs.tree.Tree.test.Goals as goal

pub returns-then-same-clause-canonical : goal.returns-then-same-clause-canonical
returns-then-same-clause-canonical g c = reduced-canonical c.aborted.inside.node c.aborted.view_is c.aborted.invariant

pub invariant_of-result : goal.invariant_of-result
invariant_of-result g c =
    new-sides c.args.txn c.in_ok-aborted.ensures.ok c.in_ok-committed.ensures.ok
    (reduced-canonical c.aborted.inside.node c.aborted.view_is c.aborted.invariant)
    (reduced-canonical c.committed.inside.node c.committed.view_is c.committed.invariant)
    c.requires.aborted_after c.requires.committed_after
    (λ equal. false≢true (sym c.if-same.false ∙ c.same.ensures.unequal equal))

pub returns-clause-choice : goal.returns-clause-choice
returns-clause-choice g c = new-choice c.args.txn c.in_ok-aborted.ensures.ok c.in_ok-committed.ensures.ok

pub returns-clause-names : goal.returns-clause-names
returns-clause-names g c = new-names c.args.txn c.in_ok-aborted.ensures.ok c.in_ok-committed.ensures.ok

pub returns-clause-canonical : goal.returns-clause-canonical
returns-clause-canonical g c = new-canonical c.args.txn c.in_ok-aborted.aborted.value c.in_ok-committed.committed.value (invariant_of-result g c)
