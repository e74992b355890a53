-- Both sides are canonical, name only later transactions, and differ.
use Rattle.std.specs.Prelude.{not}
use Rattle.std.proofs.Common.{◌≡◌, Bool, true, subst}
use Rattle.std.proofs.lemmas.Bool.{false≢true}
use Rattle.pv_tree.proofs.MeaningLemmas.{canonical-in}
use Rattle.pv_tree.proofs.nodes.Nodes.are_sides.Goals as goal

pub returns : goal.returns
returns g c = λ differ. record {
  aborted_below = c.requires.aborted_there;
  committed_below = c.requires.committed_there;
  sides = record {
    aborted_canonical = canonical-in c.self.inside.list.items c.args.self.now c.args.aborted c.self.view_is c.self.invariant c.requires.aborted_there;
    committed_canonical = canonical-in c.self.inside.list.items c.args.self.now c.args.committed c.self.view_is c.self.invariant c.requires.committed_there;
    aborted_after = c.is_after.ensures c.if-not-is_after.false;
    committed_after = c.is_after-2.ensures c.if-not-is_after-2.false;
    differ = λ same. false≢true (subst (λ (b : Bool). not b ≡ true) (c.same.ensures.unequal same) differ);
  };
}
