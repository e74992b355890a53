use Rattle.std.proofs.Common.{◌≡◌, ◌^◌, suc, length, IsTrue, ap, sym, subst, arith}
use Rattle.std.proofs.Math.Nat.{pow-suc}
use Rattle.std.specs.List.{Contains}
use Rattle.std.proofs.lemmas.Result.{IfOk-weaker}
use Rattle.pv_base.specs.declared.txn.TxnId.{TxnId}
use Rattle.pv_base.specs.Polyvalue.{names, IsCanonical, sure, IsChoice, AreValues}
use Rattle.pv_cases.proofs.CaseSplitLemmas.{ascending-rest}
use Rattle.pv_cases.proofs.TableSteps.{values-choice, rest-behind, table-names, half}
use Rattle.pv_poly.proofs.tree.Tree.+from_table.Goals as goal

pub returns-in_default-clause-canonical : goal.returns-in_default-clause-canonical
returns-in_default-clause-canonical g t c = subst IsCanonical (sym c.sure.ensures) (sure c.index-values-0.result)

pub from_table-requires : goal.from_table-requires
from_table-requires g t c κs within =
    let few = half _ _ _ c.requires.whole c.in-Some.ensures.cases.1 in (
      omega (arith, c.in-Some.ensures.cases.1, c.decreases),
      (within, (ascending-rest c.in-Some.ensures.cases.0 c.requires.ascending, omega (arith, few, c.split_at.ensures.front_len))),
    )

pub from_table-requires-2 : goal.from_table-requires-2
from_table-requires-2 g t c κs within =
    let few = half _ _ _ c.requires.whole c.in-Some.ensures.cases.1 in
    let twice = pow-suc 2 (length c.in-Some.rest.now) in
    let next : length c.args.txns.now ≡ suc (length c.in-Some.rest.now) = omega (arith, c.in-Some.ensures.cases.1) in (
      omega (arith, c.in-Some.ensures.cases.1, c.decreases),
      (
        within,
        (
          ascending-rest c.in-Some.ensures.cases.0 c.requires.ascending,
          omega (arith, few, c.split_at.ensures.back_len, c.requires.whole, ap (λ n. 2 ^ n) next, twice),
        ),
      ),
    )

pub test-requires-clause-aborted_after : goal.test-requires-clause-aborted_after
test-requires-clause-aborted_after g t c =
    rest-behind c.in_ok-aborted.aborted c.in-Some.first.now c.args.txns.now c.in-Some.rest.now c.in-Some.ensures.cases.0 c.requires.ascending
    c.in_ok-aborted.ensures.names

pub test-requires-clause-committed_after : goal.test-requires-clause-committed_after
test-requires-clause-committed_after g t c =
    rest-behind c.in_ok-committed.committed c.in-Some.first.now c.args.txns.now c.in-Some.rest.now c.in-Some.ensures.cases.0 c.requires.ascending
    c.in_ok-committed.ensures.names

pub returns-clause-values : goal.returns-clause-values
returns-clause-values g t c =
    let first = c.in-Some.first.now in
    let txns = c.args.txns.now in
    let rest = c.in-Some.rest.now in
    let aborted = c.in_ok-aborted.aborted in
    let committed = c.in_ok-committed.committed in
    let is = c.in-Some.ensures.cases.0 in
    let up = c.requires.ascending in
    IfOk-weaker c.test.result (IsChoice first aborted committed) (λ tree. AreValues tree txns c.args.values.now)
    (λ tree choice. subst (λ values. AreValues tree txns values) (sym c.split_at.ensures.by_index.0)
    (values-choice tree aborted committed first txns rest c.split_at.result.0.now c.split_at.result.1.now choice
    (rest-behind aborted first txns rest is up c.in_ok-aborted.ensures.names) (rest-behind committed first txns rest is up c.in_ok-committed.ensures.names)
    is up c.in_ok-aborted.ensures.values c.in_ok-committed.ensures.values))
    c.test.ensures.choice

pub returns-clause-names : goal.returns-clause-names
returns-clause-names g t c =
    let first = c.in-Some.first.now in
    let txns = c.args.txns.now in
    let aborted = c.in_ok-aborted.aborted in
    let committed = c.in_ok-committed.committed in
    IfOk-weaker c.test.result _ (λ tree. (txn : TxnId) → IsTrue (names tree txn) → Contains txns txn)
    (λ tree all. table-names tree aborted committed first txns c.in-Some.rest.now c.in-Some.ensures.cases.0 c.in_ok-aborted.ensures.names c.in_ok-committed.ensures.names all)
    c.test.ensures.names
