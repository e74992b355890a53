-- A tree is no deeper than it has cases. It stands in specs because the `size_decreases` of `Tree` needs it.
use Rattle.std.specs.Prelude.{◌≤◌, max, length}
use Rattle.std.proofs.Common.{arith}
use Rattle.pv_cases.proofs.CaseCounts.{length-tested, some_case}
use Rattle.pv_poly.specs.declared.tree.Node.{Node}
use Rattle.pv_poly.specs.declared.tree.Node.TheVariants.{Sure, Test}
use Rattle.pv_poly.specs.declared.tree.Tree.TheDeep.{deep-Node}
use Rattle.pv_poly.specs.TreeView.{cases_of, IsReduced}

-- no side is deeper than the node has cases
pub depth_le-length-cases : {V : Type 0} (node : Node V) → IsReduced node → max (deep-Node V node) 0 ≤ length (cases_of node)
depth_le-length-cases (Sure value) r = omega arith
depth_le-length-cases (Test txn aborted committed) r =
    omega (arith, some_case r.aborted_canonical, some_case r.committed_canonical, length-tested txn aborted.value committed.value)
