-- The word and an expression are the statement.
use Rattle.std.proofs.lemmas.Result.{err_from_is_err_and}
use Rattle.pv_parse.proofs.UnaryLemmas.{begins-deep}
use Rattle.pv_parse.proofs.ProgramLemmas.{begins-return, stops-word, reads-return}
use Rattle.pv_parse.proofs.parser.Parser.return_stmt.Goals as goal

pub returns-in_err-pass-clause-stops : goal.returns-in_err-pass-clause-stops
returns-in_err-pass-clause-stops c =
    let p = err_from_is_err_and c.from_residual.result c.from_residual.ensures.1 in
    rw (p.1, p.2, c.in_err-pass.ensures.error _ c.requires.next)
    (begins-deep c.args.self.now _ _ _ c.args.tokens.now _ _ (begins-return c.args.self.now c.args.depth _ c.args.tokens.now _ c.requires.next) c.in_err-pass.ensures.deep)

pub returns-in_err-value-clause-stops : goal.returns-in_err-value-clause-stops
returns-in_err-value-clause-stops c =
    let p = err_from_is_err_and c.from_residual-in_err-value.result c.from_residual-in_err-value.ensures.1 in
    let stops = rw c.in_ok-pass.ensures.passed at c.in_err-value.ensures.stops in
    rw (p.1, p.2)
    (stops-word c.args.self.now _ c.args.depth _ c.args.tokens.now _ _ (begins-return c.args.self.now c.args.depth _ c.args.tokens.now _ c.requires.next) c.in_ok-pass.ensures.shallow stops)

pub returns-clause-read : goal.returns-clause-read
returns-clause-read c =
    let read = rw c.in_ok-pass.ensures.passed at c.in_ok-value.ensures.read in
    reads-return c.args.self.now c.args.depth _ c.args.tokens.now _ _ c.in_ok-value.value c.requires.next c.in_ok-pass.ensures.shallow read
