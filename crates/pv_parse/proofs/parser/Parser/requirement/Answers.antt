-- The word `certain` and a name, or a test.
use Rattle.std.proofs.lemmas.Result.{err_from_is_err_and}
use Rattle.pv_parse.proofs.RequirementLemmas.{certain-deep, reads-certain, reads-test, stops-certain, stops-test}
use Rattle.pv_parse.proofs.parser.Parser.requirement.Goals as goal

pub returns-in_err-take-clause-stops : goal.returns-in_err-take-clause-stops
returns-in_err-take-clause-stops c =
    let p = err_from_is_err_and c.from_residual.result c.from_residual.ensures.1 in
    rw (p.1, p.2) (certain-deep c.args.self.now c.args.depth c.args.tokens.now _ c.in_err-take.ensures.deep)

pub returns-in_err-item-clause-stops : goal.returns-in_err-item-clause-stops
returns-in_err-item-clause-stops c =
    let p = err_from_is_err_and c.from_residual-in_err-item.result c.from_residual-in_err-item.ensures.1 in
    let taken = rw c.if-branch.true at c.in_ok-take.ensures.taken in
    rw (p.1, p.2) (stops-certain c.args.self.now c.args.depth c.args.tokens.now _ _ taken c.in_err-item.ensures.stops)

pub returns-then-branch-clause-read : goal.returns-then-branch-clause-read
returns-then-branch-clause-read c =
    let taken = rw c.if-branch.true at c.in_ok-take.ensures.taken in
    reads-certain c.args.self.now c.args.depth c.args.tokens.now _ _ c.in_ok-item.item taken c.in_ok-item.ensures.read

pub returns-in_err-test-clause-stops : goal.returns-in_err-test-clause-stops
returns-in_err-test-clause-stops c =
    let p = err_from_is_err_and c.from_residual-in_err-test.result c.from_residual-in_err-test.ensures.1 in
    let taken = rw c.if-branch.false at c.in_ok-take.ensures.taken in
    let stops = rw taken.1 at c.in_err-test.ensures.stops in
    rw (p.1, p.2) (stops-test c.args.self.now c.args.depth c.args.tokens.now _ taken.0 stops)

pub returns-clause-read : goal.returns-clause-read
returns-clause-read c =
    let taken = rw c.if-branch.false at c.in_ok-take.ensures.taken in
    let read = rw taken.1 at c.in_ok-test.ensures.read in
    reads-test c.args.self.now c.args.depth c.args.tokens.now _ c.in_ok-test.test taken.0 read
