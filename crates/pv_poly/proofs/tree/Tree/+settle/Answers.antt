use Rattle.std.specs.List.{All}
use Rattle.pv_base.specs.Assignment.{precedes}
use Rattle.std.proofs.Common.{◌≡◌, IsTrue, List, length, ap, sym, subst, arith}
use Rattle.std.proofs.lemmas.Result.{IfOk-weaker}
use Rattle.pv_base.proofs.ResultLemmas.{both-ok}
use Rattle.pv_base.specs.declared.literal.Literal.{Literal}
use Rattle.pv_base.specs.Polyvalue.{Case, AreOutcomes, IsCanonical, IsChoice, IsSettled}
use Rattle.pv_cases.proofs.SettledLemmas.{NamesKept, before-outcomes, outcomes-rest}
use Rattle.pv_cases.proofs.TxnTests.{less-precedes, greater-precedes, equal-same}
use Rattle.pv_cases.proofs.ChoiceLemmas.{NamesOfBoth, earlier-settled, aborted-settled, committed-settled, later-settled, test-settled-names}
use Rattle.pv_poly.proofs.TopOfTree.{reduced-canonical, at_Test}
use Rattle.pv_cases.proofs.TestLemmas.{test-aborted, test-committed}
use Rattle.pv_cases.proofs.TestedCases.{aborted-shorter, committed-shorter}
use Rattle.pv_poly.proofs.tree.Tree.+settle.Goals as goal

pub returns-in_default-clause-canonical : goal.returns-in_default-clause-canonical
returns-in_default-clause-canonical g t c =
    IfOk-weaker c.copy.result (λ copy. copy ≡ c.args.self.now) IsCanonical
    (λ copy same. subst IsCanonical (sym same) (reduced-canonical c.self.inside.node c.self.view_is c.self.invariant)) c.copy.ensures

pub returns-in_default-split_first-clause-canonical : goal.returns-in_default-split_first-clause-canonical
returns-in_default-split_first-clause-canonical g t c =
    IfOk-weaker c.copy-in_default-split_first.result (λ copy. copy ≡ c.args.self.now) IsCanonical
    (λ copy same. subst IsCanonical (sym same) (reduced-canonical c.self.inside.node c.self.view_is c.self.invariant)) c.copy-in_default-split_first.ensures

pub settle-requires : goal.settle-requires
settle-requires g t c κs within = (
  omega (arith, ap length c.in-Some.ensures.cases.0, c.decreases),
  (within, outcomes-rest c.in-Some.literal.now c.in-Some.rest.now (subst AreOutcomes c.in-Some.ensures.cases.0 c.requires.outcomes)),
)

pub settle-requires-in-Equal : goal.settle-requires-in-Equal
settle-requires-in-Equal g t c κs within =
    let shorter = committed-shorter (at_Test c.self.view_is c.self.invariant c.in-Test.is) in (
      omega (arith, shorter, ap length c.deref.ensures, ap length c.in-Some.ensures.cases.0, c.decreases),
      (within, outcomes-rest c.in-Some.literal.now c.in-Some.rest.now (subst AreOutcomes c.in-Some.ensures.cases.0 c.requires.outcomes)),
    )

pub settle-requires-in-Equal-2 : goal.settle-requires-in-Equal-2
settle-requires-in-Equal-2 g t c κs within =
    let shorter = aborted-shorter (at_Test c.self.view_is c.self.invariant c.in-Test.is) in (
      omega (arith, shorter, ap length c.deref-in-Equal-2.ensures, ap length c.in-Some.ensures.cases.0, c.decreases),
      (within, outcomes-rest c.in-Some.literal.now c.in-Some.rest.now (subst AreOutcomes c.in-Some.ensures.cases.0 c.requires.outcomes)),
    )

pub returns-in-Less-clause-settled : goal.returns-in-Less-clause-settled
returns-in-Less-clause-settled g t c =
    let literal = c.in-Some.literal.now in
    let rest = c.in-Some.rest.now in
    let cases = c.args.self.now in
    both-ok (λ tree. NamesKept tree cases) (IsSettled rest cases) (IsSettled c.args.literals.now cases) c.settle.result c.settle.ensures.names c.settle.ensures.settled
    (λ tree kept is. subst (λ literals. IsSettled literals cases tree) (sym c.in-Some.ensures.cases.0)
    (earlier-settled literal rest tree (at_Test c.self.view_is c.self.invariant c.in-Test.is) (less-precedes literal.txn c.in-Test.txn c.in-Less.ensures) kept is))

pub returns-in-Equal-clause-settled : goal.returns-in-Equal-clause-settled
returns-in-Equal-clause-settled g t c =
    let literal = c.in-Some.literal.now in
    let rest = c.in-Some.rest.now in
    both-ok (λ tree. NamesKept tree c.deref.result.now) (IsSettled rest c.deref.result.now) (IsSettled c.args.literals.now c.args.self.now)
    c.settle-in-Equal.result c.settle-in-Equal.ensures.names c.settle-in-Equal.ensures.settled
    (λ tree kept is. subst (λ literals. IsSettled literals c.args.self.now tree) (sym c.in-Some.ensures.cases.0)
    (committed-settled literal rest tree (at_Test c.self.view_is c.self.invariant c.in-Test.is) (equal-same literal.txn c.in-Test.txn c.in-Equal.ensures) c.if-literal.true
    (subst (λ (side : List (Case _)). NamesKept tree side) c.deref.ensures kept) (subst (λ side. IsSettled rest side tree) c.deref.ensures is)))

pub returns-in-Equal-clause-names : goal.returns-in-Equal-clause-names
returns-in-Equal-clause-names g t c =
    IfOk-weaker c.settle-in-Equal.result (λ tree. NamesKept tree c.deref.result.now) (λ tree. NamesKept tree c.args.self.now)
    (λ tree kept u named. test-committed (at_Test c.self.view_is c.self.invariant c.in-Test.is) u (subst (λ (s : List (Case _)). NamesKept tree s) c.deref.ensures kept u named))
    c.settle-in-Equal.ensures.names

pub returns-in-Equal-2-clause-settled : goal.returns-in-Equal-2-clause-settled
returns-in-Equal-2-clause-settled g t c =
    let literal = c.in-Some.literal.now in
    let rest = c.in-Some.rest.now in
    both-ok (λ tree. NamesKept tree c.deref-in-Equal-2.result.now) (IsSettled rest c.deref-in-Equal-2.result.now) (IsSettled c.args.literals.now c.args.self.now)
    c.settle-in-Equal-2.result c.settle-in-Equal-2.ensures.names c.settle-in-Equal-2.ensures.settled
    (λ tree kept is. subst (λ literals. IsSettled literals c.args.self.now tree) (sym c.in-Some.ensures.cases.0)
    (aborted-settled literal rest tree (at_Test c.self.view_is c.self.invariant c.in-Test.is) (equal-same literal.txn c.in-Test.txn c.in-Equal-2.ensures) c.if-literal.false
    (subst (λ (side : List (Case _)). NamesKept tree side) c.deref-in-Equal-2.ensures kept) (subst (λ side. IsSettled rest side tree) c.deref-in-Equal-2.ensures is)))

pub returns-in-Equal-2-clause-names : goal.returns-in-Equal-2-clause-names
returns-in-Equal-2-clause-names g t c =
    IfOk-weaker c.settle-in-Equal-2.result (λ tree. NamesKept tree c.deref-in-Equal-2.result.now) (λ tree. NamesKept tree c.args.self.now)
    (λ tree kept u named. test-aborted (at_Test c.self.view_is c.self.invariant c.in-Test.is) u (subst (λ (s : List (Case _)). NamesKept tree s) c.deref-in-Equal-2.ensures kept u named))
    c.settle-in-Equal-2.ensures.names

pub returns-in_ok-committed-in-Greater-clause-settled : goal.returns-in_ok-committed-in-Greater-clause-settled
returns-in_ok-committed-in-Greater-clause-settled g t c =
    let literals = c.args.literals.now in
    let literal = c.in-Some.literal.now in
    let aborted = c.in_ok-aborted-in-Greater.aborted in
    let committed = c.in_ok-committed-in-Greater.committed in
    let first : IsSettled literals c.in-Test.aborted.value aborted = subst (λ side. IsSettled literals side aborted) c.deref-in-Greater.ensures c.in_ok-aborted-in-Greater.ensures.settled in
    let second : IsSettled literals c.in-Test.committed.value committed = subst (λ side. IsSettled literals side committed) c.deref-in-Greater-2.ensures c.in_ok-committed-in-Greater.ensures.settled in
    both-ok (IsChoice c.in-Test.txn aborted committed) (NamesOfBoth c.in-Test.txn aborted committed) (IsSettled literals c.args.self.now)
    c.test.result c.test.ensures.choice c.test.ensures.names
    (λ tree choice all. later-settled literals (at_Test c.self.view_is c.self.invariant c.in-Test.is)
    (subst (λ ls. All (λ (l : Literal). IsTrue (precedes c.in-Test.txn l.txn)) ls) (sym c.in-Some.ensures.cases.0)
    (before-outcomes c.in-Test.txn literal c.in-Some.rest.now (subst AreOutcomes c.in-Some.ensures.cases.0 c.requires.outcomes)
    (greater-precedes literal.txn c.in-Test.txn c.in-Greater.ensures)))
    first second choice all)

pub returns-in_ok-committed-in-Greater-clause-names : goal.returns-in_ok-committed-in-Greater-clause-names
returns-in_ok-committed-in-Greater-clause-names g t c =
    let aborted = c.in_ok-aborted-in-Greater.aborted in
    let committed = c.in_ok-committed-in-Greater.committed in
    let first : NamesKept aborted c.in-Test.aborted.value = subst (λ side. NamesKept aborted side) c.deref-in-Greater.ensures c.in_ok-aborted-in-Greater.ensures.names in
    let second : NamesKept committed c.in-Test.committed.value = subst (λ side. NamesKept committed side) c.deref-in-Greater-2.ensures c.in_ok-committed-in-Greater.ensures.names in
    IfOk-weaker c.test.result (λ tree. NamesOfBoth c.in-Test.txn aborted committed tree) (λ tree. NamesKept tree c.args.self.now)
    (λ tree all. test-settled-names aborted committed tree (at_Test c.self.view_is c.self.invariant c.in-Test.is) first second all)
    c.test.ensures.names
