-- A test adds its transaction, and what its sides add; then it was seen.
use Rattle.std.proofs.Common.{inl, inr, arith}
use Rattle.pv_cases.specs.Names.{Adds}
use Rattle.pv_base.specs.Polyvalue.{names}
use Rattle.pv_tree.specs.Meanings.{cases_at}
use Rattle.pv_tree.proofs.AddedNames.{adds-tested, seen-kept, seen-more}
use Rattle.pv_tree.proofs.SettleLemmas.{tested-at}
use Rattle.pv_tree.proofs.nodes.Nodes.+push_names.Goals as goal

pub push_names-requires : goal.push_names-requires
push_names-requires g t c κs within =
    let below = c.in-Test.ensures.node.below.aborted_below in (
      omega (arith, below, c.decreases),
      (
        within,
        (
          omega (arith, below, c.requires.there),
          seen-kept c.args.self.now c.args.seen.now c.args.txns.now.items c.push_once.new.txns.items (λ u here. (c.in_ok-push_once.ensures u).1 (inl here)) c.requires.seen,
        ),
      ),
    )

pub returns-in_ok-push_names-2-clause-names : goal.returns-in_ok-push_names-2-clause-names
returns-in_ok-push_names-2-clause-names g t c =
    adds-tested c.in-Test.txn (cases_at c.args.self.now c.in-Test.aborted) (cases_at c.args.self.now c.in-Test.committed) (cases_at c.args.self.now c.args.number)
    c.args.txns.now.items c.push_once.new.txns.items c.push_names.new.txns.items c.push_names-in-Test.new.txns.items (tested-at c.in-Test.ensures.node)
    c.in_ok-push_once.ensures c.in_ok-push_names.ensures.names c.in_ok-push_names-2.ensures.names

pub returns-in_ok-push_names-2-clause-seen : goal.returns-in_ok-push_names-2-clause-seen
returns-in_ok-push_names-2-clause-seen g t c =
    let added : Adds (names (cases_at c.args.self.now c.args.number)) c.args.txns.now.items c.push_names-in-Test.new.txns.items =
    adds-tested c.in-Test.txn (cases_at c.args.self.now c.in-Test.aborted) (cases_at c.args.self.now c.in-Test.committed) (cases_at c.args.self.now c.args.number)
    c.args.txns.now.items c.push_once.new.txns.items c.push_names.new.txns.items c.push_names-in-Test.new.txns.items (tested-at c.in-Test.ensures.node)
    c.in_ok-push_once.ensures c.in_ok-push_names.ensures.names c.in_ok-push_names-2.ensures.names in
    seen-more c.args.self.now c.push_names-in-Test.new.seen c.see.new.seen c.push_names-in-Test.new.txns.items c.args.number c.in_ok-push_names-2.ensures.seen c.see.ensures
    (λ u named. (added u).1 (inr named))
