-- What is known of a tree's cases once its top is a test, or a value.
use Rattle.std.proofs.Common.{◌≡◌, false, List, [], ◌∷◌, Box, sym, ap, ◌∙◌, subst}
use Rattle.std.specs.declared.alloc.Global.{Global}
use Rattle.pv_base.specs.declared.txn.TxnId.{TxnId}
use Rattle.pv_base.specs.Polyvalue.{Case, names, IsCanonical}
use Rattle.pv_base.specs.Polyvalue.IsCanonical.{sure, tested}
use Rattle.pv_cases.proofs.TestedCases.{IsTested}
use Rattle.pv_poly.specs.declared.tree.Node.{Node}
use Rattle.pv_poly.specs.declared.tree.Node.TheVariants.{Sure, Test}
use Rattle.pv_poly.specs.declared.tree.Tree.{Tree}
use Rattle.pv_poly.specs.TreeView.{cases_of, IsReduced}

pub at_Test : {V : Type 0} {node : Node V} {cases : List (Case V)} {txn : TxnId} {aborted committed : Box (Tree V) Global} →
    cases_of node ≡ cases → IsReduced node → node ≡ Test txn aborted committed → IsTested txn aborted.value committed.value cases
at_Test view reduced is = record { is = sym view ∙ ap cases_of is; sides = subst IsReduced is reduced }

pub at_Sure : {V : Type 0} {node : Node V} {cases : List (Case V)} {value : V} →
    cases_of node ≡ cases → node ≡ Sure value → cases ≡ record { when = []; value = value } ∷ []
at_Sure view is = sym view ∙ ap cases_of is

-- The cases of a reduced tree are canonical.
reduced-node : {V : Type 0} (node : Node V) → IsReduced node → IsCanonical (cases_of node)
reduced-node (Sure value) r = sure value
reduced-node (Test t aborted committed) r =
    tested t aborted.value committed.value r.aborted_canonical r.committed_canonical r.aborted_after r.committed_after r.differ

pub reduced-canonical : {V : Type 0} (node : Node V) {cases : List (Case V)} → cases_of node ≡ cases → IsReduced node → IsCanonical cases
reduced-canonical node view reduced = subst IsCanonical view (reduced-node node reduced)

-- A sure value names nothing.
pub at-sure : {V : Type 0} {node : Node V} {cases : List (Case V)} {value : V} → cases_of node ≡ cases → node ≡ Sure value → (u : TxnId) → names cases u ≡ false
at-sure {V} view is u = ap (λ (c : List (Case V)). names c u) (at_Sure view is)
