use Rattle.std.proofs.Common.{◌≡◌, List, ◌∷◌, length, false, ap, sym, subst, arith}
use Rattle.std.proofs.lemmas.Result.{IfOk-weaker}
use Rattle.pv_base.specs.Polyvalue.{Case, names}
use Rattle.pv_poly.proofs.TopOfTree.{at_Test, at_Sure}
use Rattle.pv_cases.proofs.TestedCases.{aborted-shorter, committed-shorter}
use Rattle.pv_cases.proofs.TxnTests.{less-precedes, greater-precedes, equal-same}
use Rattle.pv_cases.proofs.CaseSplitLemmas.{ascending-rest}
use Rattle.pv_cases.proofs.TableSteps.{AreAdded, added-tested, added-skip, added-before, later-unnamed}
use Rattle.pv_poly.proofs.tree.Tree.+push_table.Goals as goal
use Rattle.pv_poly.proofs.tree.Tree.+push_table.Goals.{in-Test+in-Greater, in_default-node}

pub returns-in-Less : goal.returns-in-Less
returns-in-Less g t c =
    let old = c.args.values.now.items in
    let new = c.push_table.new.values.items in
    let txns = c.args.txns.now in
    IfOk-weaker c.push_table.result (λ _. AreAdded c.deref.result.now txns old new) (λ _. AreAdded c.args.self.now txns old new)
    (λ _ added. added-before c.args.self.now c.in-Test.aborted.value c.in-Test.committed.value c.in-Test.txn c.in-Some.first.now txns c.in-Some.rest.now old new
    (at_Test c.self.view_is c.self.invariant c.in-Test.is) c.in-Some.ensures.cases.0 c.requires.ascending
    (less-precedes c.in-Test.txn c.in-Some.first.now c.in-Less.ensures) (subst (λ side. AreAdded side txns old new) c.deref.ensures added))
    c.push_table.ensures

pub push_table-requires-in-Equal : goal.push_table-requires-in-Equal
push_table-requires-in-Equal g t c κs within =
    let shorter = aborted-shorter (at_Test c.self.view_is c.self.invariant c.in-Test.is) in (
      omega (arith, shorter, ap length c.deref-in-Equal.ensures, c.in-Some.ensures.cases.1, c.decreases),
      (within, ascending-rest c.in-Some.ensures.cases.0 c.requires.ascending),
    )

pub push_table-requires-in-Equal-2 : goal.push_table-requires-in-Equal-2
push_table-requires-in-Equal-2 g t c κs within =
    let shorter = committed-shorter (at_Test c.self.view_is c.self.invariant c.in-Test.is) in (
      omega (arith, shorter, ap length c.deref-in-Equal-2.ensures, c.in-Some.ensures.cases.1, c.decreases),
      (within, ascending-rest c.in-Some.ensures.cases.0 c.requires.ascending),
    )

pub returns-in-Equal : goal.returns-in-Equal
returns-in-Equal g t c =
    let old = c.args.values.now.items in
    let middle = c.push_table-in-Equal.new.values.items in
    let new = c.push_table-in-Equal-2.new.values.items in
    let txns = c.args.txns.now in
    let rest = c.in-Some.rest.now in
    let same = equal-same c.in-Test.txn c.in-Some.first.now c.in-Equal.ensures in
    IfOk-weaker c.push_table-in-Equal-2.result (λ _. AreAdded c.deref-in-Equal-2.result.now rest middle new) (λ _. AreAdded c.args.self.now txns old new)
    (λ _ added. added-tested c.args.self.now c.in-Test.aborted.value c.in-Test.committed.value c.in-Test.txn txns rest old middle new
    (at_Test c.self.view_is c.self.invariant c.in-Test.is) (subst (λ first. txns ≡ first ∷ rest) (sym same) c.in-Some.ensures.cases.0) c.requires.ascending
    (subst (λ side. AreAdded side rest old middle) c.deref-in-Equal.ensures c.in_ok-push_table-in-Equal.ensures)
    (subst (λ side. AreAdded side rest middle new) c.deref-in-Equal-2.ensures added))
    c.push_table-in-Equal-2.ensures

pub push_table-requires-2 : goal.push_table-requires-2
push_table-requires-2 g t c κs within =
    (omega (arith, c.in-Some.ensures.cases.1, c.decreases), (within, ascending-rest c.in-Some.ensures.cases.0 c.requires.ascending))

pub push_table-requires-3 : goal.push_table-requires-3
push_table-requires-3 g t c κs within =
    (omega (arith, c.in-Some.ensures.cases.1, c.decreases), (within, ascending-rest c.in-Some.ensures.cases.0 c.requires.ascending))

pub returns : goal.returns
returns g t c =
    let old = c.args.values.now.items in
    let middle = c.push_table-2.new.values.items in
    let new = c.push_table-3.new.values.items in
    let txns = c.args.txns.now in
    let rest = c.in-Some.rest.now in
    let first = c.in-Some.first.now in
    let unnamed : names c.args.self.now first ≡ false =
    elim c.match-self.branch [
      | in-Test+in-Greater w ↦
          later-unnamed c.args.self.now w.in-Test.aborted.value w.in-Test.committed.value w.in-Test.txn first
          (at_Test c.self.view_is c.self.invariant w.in-Test.is) (greater-precedes w.in-Test.txn first w.in-Greater.ensures)
      | in_default-node w ↦ ap (λ (cases : List (Case g.row.V.Denot)). names cases first) (at_Sure c.self.view_is w.in_default-node.is)
    ] in
    IfOk-weaker c.push_table-3.result (λ _. AreAdded c.args.self.now rest middle new) (λ _. AreAdded c.args.self.now txns old new)
    (λ _ added. added-skip c.args.self.now first txns rest old middle new unnamed c.in-Some.ensures.cases.0 c.in_ok-push_table.ensures added)
    c.push_table-3.ensures
