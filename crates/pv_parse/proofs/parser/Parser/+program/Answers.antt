-- Programs, statements and braces are put together from what is read of them, and what is at fault in them is at fault in all.
use Rattle.std.proofs.lemmas.Result.{err_from_is_err_and}
use Rattle.pv_ast.specs.ExprView.{expr_of}
use Rattle.pv_parse.specs.TokenView.{token_of}
use Rattle.pv_parse.proofs.UnaryLemmas.{begins-deep}
use Rattle.pv_parse.proofs.ProgramLemmas.{skips-next, skips-other, next-deep, other-deep, other-statement, stmt-other, stmt-end}
use Rattle.pv_parse.proofs.BranchLemmas.{body-stops-open, body-stops-program, body-stops-close, reads-body, begins-if, if-stops-test, if-stops-body, if-stops-else, if-stops-other, reads-if, reads-if-else, program-more, program-end, program-stops-stmt, program-stops-next}
use Rattle.pv_parse.proofs.parser.Parser.+program.Goals as goal

pub body-returns-in_err-expect-clause-stops : goal.body-returns-in_err-expect-clause-stops
body-returns-in_err-expect-clause-stops t c =
    let p = err_from_is_err_and c.from_residual.result c.from_residual.ensures.1 in
    rw (p.1, p.2) (body-stops-open c.args.self.now c.args.depth c.args.tokens.now _ c.in_err-expect.ensures.stops)

pub body-returns-in_err-body-clause-stops : goal.body-returns-in_err-body-clause-stops
body-returns-in_err-body-clause-stops t c =
    let p = err_from_is_err_and c.from_residual-in_err-body.result c.from_residual-in_err-body.ensures.1 in
    rw (p.1, p.2) (body-stops-program c.args.self.now c.args.depth c.args.tokens.now _ _ c.in_ok-expect.ensures.passed c.in_err-body.ensures.stops)

pub body-returns-in_err-expect-2-clause-stops : goal.body-returns-in_err-expect-2-clause-stops
body-returns-in_err-expect-2-clause-stops t c =
    let p = err_from_is_err_and c.from_residual-in_err-expect-2.result c.from_residual-in_err-expect-2.ensures.1 in
    rw (p.1, p.2) (body-stops-close c.args.self.now c.args.depth c.args.tokens.now _ _ c.in_ok-body.body _ c.in_ok-expect.ensures.passed c.in_ok-body.ensures.read c.in_err-expect-2.ensures.stops)

pub body-returns-clause-read : goal.body-returns-clause-read
body-returns-clause-read t c =
    reads-body c.args.self.now c.args.depth c.args.tokens.now _ _ _ c.in_ok-body.body c.in_ok-expect.ensures.passed c.in_ok-body.ensures.read c.in_ok-expect-2.ensures.passed

pub if_stmt-returns-in_err-pass-clause-stops : goal.if_stmt-returns-in_err-pass-clause-stops
if_stmt-returns-in_err-pass-clause-stops t c =
    let p = err_from_is_err_and c.from_residual.result c.from_residual.ensures.1 in
    rw (p.1, p.2, c.in_err-pass.ensures.error _ c.requires.next)
    (begins-deep c.args.self.now _ _ _ c.args.tokens.now _ _ (begins-if c.args.self.now c.args.depth _ c.args.tokens.now _ c.requires.next) c.in_err-pass.ensures.deep)

pub if_stmt-returns-in_err-test-clause-stops : goal.if_stmt-returns-in_err-test-clause-stops
if_stmt-returns-in_err-test-clause-stops t c =
    let p = err_from_is_err_and c.from_residual-in_err-test.result c.from_residual-in_err-test.ensures.1 in
    let stops = rw c.in_ok-pass.ensures.passed at c.in_err-test.ensures.stops in
    rw (p.1, p.2) (if-stops-test c.args.self.now c.args.depth _ c.args.tokens.now _ _ c.requires.next c.in_ok-pass.ensures.shallow stops)

pub if_stmt-returns-in_err-body-clause-stops : goal.if_stmt-returns-in_err-body-clause-stops
if_stmt-returns-in_err-body-clause-stops t c =
    let p = err_from_is_err_and c.from_residual-in_err-body.result c.from_residual-in_err-body.ensures.1 in
    let test = rw c.in_ok-pass.ensures.passed at c.in_ok-test.ensures.read in
    rw (p.1, p.2)
    (if-stops-body c.args.self.now c.args.depth _ c.args.tokens.now _ _ (expr_of c.in_ok-test.test) _ c.requires.next c.in_ok-pass.ensures.shallow test c.in_err-body.ensures.stops)

pub if_stmt-returns-in_err-take-clause-stops : goal.if_stmt-returns-in_err-take-clause-stops
if_stmt-returns-in_err-take-clause-stops t c =
    let p = err_from_is_err_and c.from_residual-in_err-take.result c.from_residual-in_err-take.ensures.1 in
    let test = rw c.in_ok-pass.ensures.passed at c.in_ok-test.ensures.read in
    rw (p.1, p.2)
    (if-stops-else c.args.self.now c.args.depth _ c.args.tokens.now _ _ _ (expr_of c.in_ok-test.test) c.in_ok-body.body _ c.requires.next c.in_ok-pass.ensures.shallow test c.in_ok-body.ensures.read
    (other-deep c.args.self.now c.args.depth _ _ c.in_err-take.ensures.deep))

pub if_stmt-returns-then-not-branch-clause-read : goal.if_stmt-returns-then-not-branch-clause-read
if_stmt-returns-then-not-branch-clause-read t c =
    let test = rw c.in_ok-pass.ensures.passed at c.in_ok-test.ensures.read in
    let taken = rw c.if-not-branch.true at c.in_ok-take.ensures.taken in
    rw taken.1
    (reads-if c.args.self.now c.args.depth _ c.args.tokens.now _ _ _ c.in_ok-test.test c.in_ok-body.body c.requires.next c.in_ok-pass.ensures.shallow test c.in_ok-body.ensures.read
    (skips-other c.args.self.now c.args.depth _ taken.0))

pub if_stmt-returns-in_err-other-clause-stops : goal.if_stmt-returns-in_err-other-clause-stops
if_stmt-returns-in_err-other-clause-stops t c =
    let p = err_from_is_err_and c.from_residual-in_err-other.result c.from_residual-in_err-other.ensures.1 in
    let test = rw c.in_ok-pass.ensures.passed at c.in_ok-test.ensures.read in
    let taken = rw c.if-not-branch.false at c.in_ok-take.ensures.taken in
    rw (p.1, p.2)
    (if-stops-other c.args.self.now c.args.depth _ c.args.tokens.now _ _ _ _ (expr_of c.in_ok-test.test) c.in_ok-body.body _ c.requires.next c.in_ok-pass.ensures.shallow test c.in_ok-body.ensures.read taken c.in_err-other.ensures.stops)

pub if_stmt-returns-clause-read : goal.if_stmt-returns-clause-read
if_stmt-returns-clause-read t c =
    let test = rw c.in_ok-pass.ensures.passed at c.in_ok-test.ensures.read in
    let taken = rw c.if-not-branch.false at c.in_ok-take.ensures.taken in
    reads-if-else c.args.self.now c.args.depth _ c.args.tokens.now _ _ _ _ _ c.in_ok-test.test c.in_ok-body.body c.in_ok-other.other c.requires.next c.in_ok-pass.ensures.shallow test c.in_ok-body.ensures.read taken c.in_ok-other.ensures.read

pub program-returns-in_err-stmt-clause-stops : goal.program-returns-in_err-stmt-clause-stops
program-returns-in_err-stmt-clause-stops t c =
    let p = err_from_is_err_and c.from_residual.result c.from_residual.ensures.1 in
    rw (p.1, p.2) (program-stops-stmt c.args.self.now c.args.depth c.args.tokens.now c.loop-stmts.tokens c.loop-stmts.stmts.items _ c.loop-stmts.invariant c.in_err-stmt.ensures.stops)

pub program-returns-in_err-take-clause-stops : goal.program-returns-in_err-take-clause-stops
program-returns-in_err-take-clause-stops t c =
    let p = err_from_is_err_and c.from_residual-in_err-take.result c.from_residual-in_err-take.ensures.1 in
    rw (p.1, p.2)
    (program-stops-next c.args.self.now c.args.depth c.args.tokens.now c.loop-stmts.tokens _ c.loop-stmts.stmts.items c.in_ok-stmt.stmt _ c.loop-stmts.invariant c.in_ok-stmt.ensures.read
    (next-deep c.args.self.now c.args.depth _ _ c.in_err-take.ensures.deep))

pub program-returns-then-not-branch-clause-read : goal.program-returns-then-not-branch-clause-read
program-returns-then-not-branch-clause-read t c =
    let taken = rw c.if-not-branch.true at c.in_ok-take.ensures.taken in
    rw (taken.1, c.in_ok-push.ensures.items)
    (program-end c.args.self.now c.args.depth c.args.tokens.now c.loop-stmts.tokens _ c.loop-stmts.stmts.items c.in_ok-stmt.stmt c.loop-stmts.invariant c.in_ok-stmt.ensures.read
    (skips-next c.args.self.now c.args.depth _ taken.0))

pub program-loop-stmts-preserved : goal.program-loop-stmts-preserved
program-loop-stmts-preserved t c =
    let taken = rw c.if-not-branch.false at c.in_ok-take.ensures.taken in
    rw c.in_ok-push.ensures.items
    (program-more c.args.self.now c.args.depth c.args.tokens.now c.loop-stmts.tokens _ _ c.loop-stmts.stmts.items c.in_ok-stmt.stmt c.loop-stmts.invariant c.in_ok-stmt.ensures.read taken)

pub stmt-returns-in_default-clause-stops : goal.stmt-returns-in_default-clause-stops
stmt-returns-in_default-clause-stops t c =
    rw (c.malformed.ensures, c.in_default.ensures.none) (stmt-end c.args.self.now c.args.depth)

pub stmt-returns-in_default-token : goal.stmt-returns-in_default-token
stmt-returns-in_default-token t c =
    let known = c.in_default-token in
    let other = other-statement c.in-Some.next.token known.not-Name known.not-Require known.not-Return known.not-If in
    let column = rw c.in-Some.ensures.some at c.malformed-in_default-token.ensures in
    record {
      read = tt;
      stops = rw column (stmt-other c.args.self.now c.args.depth c.in-Some.next.column (token_of c.in-Some.next.token) c.args.tokens.now _ c.in-Some.ensures.some other);
    }
