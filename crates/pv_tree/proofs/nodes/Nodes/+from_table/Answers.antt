-- One value is a leaf, and the halves of more are the sides of a test.
use Rattle.std.proofs.Common.{◌≡◌, ◌^◌, suc, length, ap, arith}
use Rattle.std.proofs.Math.Nat.{pow-suc}
use Rattle.std.proofs.lemmas.Result.{IfOk-weaker}
use Rattle.pv_cases.proofs.CaseSplitLemmas.{ascending-rest}
use Rattle.pv_cases.proofs.TableSteps.{half}
use Rattle.pv_tree.specs.Meanings.{Tabulates}
use Rattle.pv_tree.proofs.ChosenLemmas.{leaf-table, tabulates-kept, tabulates-behind, test-tabulates}
use Rattle.pv_tree.proofs.nodes.Nodes.+from_table.Goals as goal

pub returns-in_default-clause-table : goal.returns-in_default-clause-table
returns-in_default-clause-table g t c =
    IfOk-weaker c.leaf.result _ (Tabulates c.args.txns.now c.args.values.now c.leaf.new.self)
    (λ number at. leaf-table c.args.txns.now c.args.values.now c.index-values-0.result c.leaf.new.self number c.in_default.ensures.cases c.requires.whole c.index-values-0.is at)
    c.leaf.ensures.leaf

pub from_table-requires : goal.from_table-requires
from_table-requires g t c κs within =
    let few = half _ _ _ c.requires.whole c.in-Some.ensures.cases.1 in (
      omega (arith, c.in-Some.ensures.cases.1, c.decreases),
      (within, (ascending-rest c.in-Some.ensures.cases.0 c.requires.ascending, omega (arith, few, c.split_at.ensures.front_len))),
    )

pub from_table-requires-2 : goal.from_table-requires-2
from_table-requires-2 g t c κs within =
    let few = half _ _ _ c.requires.whole c.in-Some.ensures.cases.1 in
    let twice = pow-suc 2 (length c.in-Some.rest.now) in
    let next : length c.args.txns.now ≡ suc (length c.in-Some.rest.now) = omega (arith, c.in-Some.ensures.cases.1) in (
      omega (arith, c.in-Some.ensures.cases.1, c.decreases),
      (
        within,
        (
          ascending-rest c.in-Some.ensures.cases.0 c.requires.ascending,
          omega (arith, few, c.split_at.ensures.back_len, c.requires.whole, ap (λ n. 2 ^ n) next, twice),
        ),
      ),
    )

pub test-requires-clause-aborted_after : goal.test-requires-clause-aborted_after
test-requires-clause-aborted_after g t c =
    tabulates-behind c.in-Some.first.now c.args.txns.now c.in-Some.rest.now c.split_at.result.0.now c.from_table-2.new.self c.in_ok-aborted.aborted
    c.in-Some.ensures.cases.0 c.requires.ascending
    (tabulates-kept c.from_table.new.self c.from_table-2.new.self c.in_ok-aborted.aborted c.in_ok-committed.ensures.kept c.in_ok-aborted.ensures.table)

pub test-requires-clause-committed_after : goal.test-requires-clause-committed_after
test-requires-clause-committed_after g t c =
    tabulates-behind c.in-Some.first.now c.args.txns.now c.in-Some.rest.now c.split_at.result.1.now c.from_table-2.new.self c.in_ok-committed.committed
    c.in-Some.ensures.cases.0 c.requires.ascending c.in_ok-committed.ensures.table

pub returns-clause-table : goal.returns-clause-table
returns-clause-table g t c =
    IfOk-weaker c.test.result _ (Tabulates c.args.txns.now c.args.values.now c.test.new.self)
    (λ made chosen. test-tabulates c.in-Some.first.now c.args.txns.now c.in-Some.rest.now c.split_at.result.0.now c.split_at.result.1.now c.args.values.now c.from_table-2.new.self
    c.test.new.self c.in_ok-aborted.aborted c.in_ok-committed.committed made c.in-Some.ensures.cases.0 c.requires.ascending c.split_at.ensures.by_index.0
    (tabulates-kept c.from_table.new.self c.from_table-2.new.self c.in_ok-aborted.aborted c.in_ok-committed.ensures.kept c.in_ok-aborted.ensures.table)
    c.in_ok-committed.ensures.table chosen)
    c.test.ensures.test
