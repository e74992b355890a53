-- Equal sides are their choice, and different ones are tested.
use Rattle.std.proofs.Common.{sym, ◌∙◌}
use Rattle.std.proofs.lemmas.Bool.{false≢true}
use Rattle.std.proofs.lemmas.Result.{IfOk-weaker}
use Rattle.pv_tree.specs.Meanings.{cases_at, Chooses}
use Rattle.pv_tree.proofs.ChosenLemmas.{same-chooses, test-chooses}
use Rattle.pv_tree.proofs.MeaningLemmas.{canonical-in}
use Rattle.pv_tree.proofs.nodes.Nodes.test.Goals as goal

pub returns-then-same-clause-test : goal.returns-then-same-clause-test
returns-then-same-clause-test g c =
    same-chooses c.args.txn c.args.self.now c.args.aborted c.args.committed c.requires.aborted_there
    (canonical-in c.self.inside.list.items c.args.self.now c.args.aborted c.self.view_is c.self.invariant c.requires.aborted_there)
    (c.same.ensures.equal c.if-same.true)

pub tested-requires : goal.tested-requires
tested-requires g c = record {
  aborted_below = c.requires.aborted_there;
  committed_below = c.requires.committed_there;
  sides = record {
    aborted_canonical = canonical-in c.self.inside.list.items c.args.self.now c.args.aborted c.self.view_is c.self.invariant c.requires.aborted_there;
    committed_canonical = canonical-in c.self.inside.list.items c.args.self.now c.args.committed c.self.view_is c.self.invariant c.requires.committed_there;
    aborted_after = c.requires.aborted_after;
    committed_after = c.requires.committed_after;
    differ = λ same. false≢true (sym c.if-same.false ∙ c.same.ensures.unequal same);
  };
}

pub returns-clause-test : goal.returns-clause-test
returns-clause-test g c =
    let aborted = cases_at c.args.self.now c.args.aborted in
    let committed = cases_at c.args.self.now c.args.committed in
    IfOk-weaker c.tested.result _ (Chooses c.args.txn aborted committed c.tested.new.self)
    (λ number at. test-chooses c.args.txn aborted committed c.tested.new.self number
    (record {
      aborted_canonical = canonical-in c.self.inside.list.items c.args.self.now c.args.aborted c.self.view_is c.self.invariant c.requires.aborted_there;
      committed_canonical = canonical-in c.self.inside.list.items c.args.self.now c.args.committed c.self.view_is c.self.invariant c.requires.committed_there;
      aborted_after = c.requires.aborted_after;
      committed_after = c.requires.committed_after;
      differ = λ same. false≢true (sym c.if-same.false ∙ c.same.ensures.unequal same);
    })
    at)
    c.tested.ensures.test
