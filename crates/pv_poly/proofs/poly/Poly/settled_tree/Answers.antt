-- What is settled names no more than before.
use Rattle.std.proofs.Common.{◌≡◌, sym, subst, List, IsTrue}
use Rattle.std.proofs.lemmas.Result.{IfOk-weaker}
use Rattle.pv_base.specs.Polyvalue.{Case, names, NamesAtMost}
use Rattle.pv_base.specs.declared.limits.TheConstants.{HELD_NAMES}
use Rattle.pv_base.specs.declared.txn.TxnId.{TxnId}
use Rattle.pv_law_polyvalues.proofs.NameLemmas.{NamesAtMost-fewer}
use Rattle.pv_poly.specs.HeldCases.{held_cases}
use Rattle.pv_poly.proofs.poly.Poly.settled_tree.Goals as goal

pub returns-clause-few : goal.returns-clause-few
returns-clause-few g c =
    let e : c.in_ok-tree.tree ≡ held_cases c.self.inside.cases = cc (c.in_ok-tree.ensures, c.as_slice.ensures) in
    let few : NamesAtMost HELD_NAMES c.in_ok-tree.tree = subst (λ (l : List (Case _)). NamesAtMost HELD_NAMES l) (sym e) c.self.invariant.few in
    IfOk-weaker c.settle.result (λ (tree : List (Case _)). (u : TxnId) → IsTrue (names tree u) → IsTrue (names c.in_ok-tree.tree u)) (NamesAtMost HELD_NAMES)
    (λ tree kept. NamesAtMost-fewer HELD_NAMES tree c.in_ok-tree.tree kept few) c.settle.ensures.names
