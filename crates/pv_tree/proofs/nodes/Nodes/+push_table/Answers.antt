-- The values of a test are those of its sides, and those of a transaction that isn't named come twice.
use Rattle.std.proofs.Common.{◌≡◌, List, false, ap, arith}
use Rattle.std.proofs.lemmas.Result.{IfOk-weaker}
use Rattle.pv_base.specs.Polyvalue.{Case, names}
use Rattle.pv_cases.proofs.TxnTests.{less-precedes, greater-precedes, equal-same}
use Rattle.pv_cases.proofs.CaseSplitLemmas.{ascending-rest}
use Rattle.pv_cases.proofs.TableSteps.{AreAdded, added-tested, added-skip, added-before, later-unnamed}
use Rattle.pv_tree.specs.Meanings.{cases_at}
use Rattle.pv_tree.proofs.SettleLemmas.{tested-at, first-same}
use Rattle.pv_tree.proofs.nodes.Nodes.+push_table.Goals as goal
use Rattle.pv_tree.proofs.nodes.Nodes.+push_table.Goals.{in-Test+in-Greater, in_default-node}

pub returns-in-Less : goal.returns-in-Less
returns-in-Less g t c =
    let meanings = c.args.self.now in
    let old = c.args.values.now.items in
    let new = c.push_table.new.values.items in
    let txns = c.args.txns.now in
    IfOk-weaker c.push_table.result (λ _. AreAdded (cases_at meanings c.in-Test.aborted) txns old new) (λ _. AreAdded (cases_at meanings c.args.number) txns old new)
    (λ _ added. added-before (cases_at meanings c.args.number) (cases_at meanings c.in-Test.aborted) (cases_at meanings c.in-Test.committed) c.in-Test.txn c.in-Some.first.now txns
    c.in-Some.rest.now old new (tested-at c.in-Test.ensures.node) c.in-Some.ensures.cases.0 c.requires.ascending
    (less-precedes c.in-Test.txn c.in-Some.first.now c.in-Less.ensures) added)
    c.push_table.ensures

pub push_table-requires-in-Equal : goal.push_table-requires-in-Equal
push_table-requires-in-Equal g t c κs within =
    let below = c.in-Test.ensures.node.below.aborted_below in (
      omega (arith, below, c.in-Some.ensures.cases.1, c.decreases),
      (within, (omega (arith, below, c.requires.there), ascending-rest c.in-Some.ensures.cases.0 c.requires.ascending)),
    )

pub push_table-requires-in-Equal-2 : goal.push_table-requires-in-Equal-2
push_table-requires-in-Equal-2 g t c κs within =
    let below = c.in-Test.ensures.node.below.committed_below in (
      omega (arith, below, c.in-Some.ensures.cases.1, c.decreases),
      (within, (omega (arith, below, c.requires.there), ascending-rest c.in-Some.ensures.cases.0 c.requires.ascending)),
    )

pub returns-in-Equal : goal.returns-in-Equal
returns-in-Equal g t c =
    let meanings = c.args.self.now in
    let old = c.args.values.now.items in
    let middle = c.push_table-in-Equal.new.values.items in
    let new = c.push_table-in-Equal-2.new.values.items in
    let txns = c.args.txns.now in
    let rest = c.in-Some.rest.now in
    let same = equal-same c.in-Test.txn c.in-Some.first.now c.in-Equal.ensures in
    IfOk-weaker c.push_table-in-Equal-2.result (λ _. AreAdded (cases_at meanings c.in-Test.committed) rest middle new) (λ _. AreAdded (cases_at meanings c.args.number) txns old new)
    (λ _ added. added-tested (cases_at meanings c.args.number) (cases_at meanings c.in-Test.aborted) (cases_at meanings c.in-Test.committed) c.in-Test.txn txns rest old middle new
    (tested-at c.in-Test.ensures.node) (first-same same c.in-Some.ensures.cases.0) c.requires.ascending c.in_ok-push_table-in-Equal.ensures added)
    c.push_table-in-Equal-2.ensures

pub push_table-requires-2 : goal.push_table-requires-2
push_table-requires-2 g t c κs within =
    (omega (arith, c.in-Some.ensures.cases.1, c.decreases), (within, (c.requires.there, ascending-rest c.in-Some.ensures.cases.0 c.requires.ascending)))

pub push_table-requires-3 : goal.push_table-requires-3
push_table-requires-3 g t c κs within =
    (omega (arith, c.in-Some.ensures.cases.1, c.decreases), (within, (c.requires.there, ascending-rest c.in-Some.ensures.cases.0 c.requires.ascending)))

pub returns : goal.returns
returns g t c =
    let cases = cases_at c.args.self.now c.args.number in
    let old = c.args.values.now.items in
    let middle = c.push_table-2.new.values.items in
    let new = c.push_table-3.new.values.items in
    let txns = c.args.txns.now in
    let rest = c.in-Some.rest.now in
    let first = c.in-Some.first.now in
    let unnamed : names cases first ≡ false =
    elim c.match-node.branch [
      | in-Test+in-Greater w ↦
          later-unnamed cases (cases_at c.args.self.now w.in-Test.aborted) (cases_at c.args.self.now w.in-Test.committed) w.in-Test.txn first
          (tested-at w.in-Test.ensures.node) (greater-precedes w.in-Test.txn first w.in-Greater.ensures)
      | in_default-node w ↦ ap (λ (all : List (Case g.row.V.Denot)). names all first) w.in_default-node.ensures.node
    ] in
    IfOk-weaker c.push_table-3.result (λ _. AreAdded cases rest middle new) (λ _. AreAdded cases txns old new)
    (λ _ added. added-skip cases first txns rest old middle new unnamed c.in-Some.ensures.cases.0 c.in_ok-push_table.ensures added)
    c.push_table-3.ensures
