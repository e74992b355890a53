-- The word and what is required behind it are the statement.
use Rattle.std.proofs.lemmas.Result.{err_from_is_err_and}
use Rattle.pv_parse.proofs.ExpressionLemmas.{IfErr-map, IfOk-map}
use Rattle.pv_parse.proofs.UnaryLemmas.{begins-deep}
use Rattle.pv_parse.proofs.ProgramLemmas.{begins-require, stops-require, reads-require}
use Rattle.pv_parse.proofs.parser.Parser.require_stmt.Goals as goal

pub returns-in_err-pass-clause-stops : goal.returns-in_err-pass-clause-stops
returns-in_err-pass-clause-stops c =
    let p = err_from_is_err_and c.from_residual.result c.from_residual.ensures.1 in
    rw (p.1, p.2, c.in_err-pass.ensures.error _ c.requires.next)
    (begins-deep c.args.self.now _ _ _ c.args.tokens.now _ _ (begins-require c.args.self.now c.args.depth _ c.args.tokens.now _ c.requires.next) c.in_err-pass.ensures.deep)

pub returns-clause-stops : goal.returns-clause-stops
returns-clause-stops c =
    let stops = rw c.in_ok-pass.ensures.passed at c.requirement.ensures.stops in
    IfErr-map c.requirement.result (λ error. stops-require c.args.self.now c.args.depth _ c.args.tokens.now _ error c.requires.next c.in_ok-pass.ensures.shallow) stops

pub returns-clause-read : goal.returns-clause-read
returns-clause-read c =
    let read = rw c.in_ok-pass.ensures.passed at c.requirement.ensures.read in
    IfOk-map c.requirement.result (λ stmt. reads-require c.args.self.now c.args.depth _ c.args.tokens.now _ _ stmt c.requires.next c.in_ok-pass.ensures.shallow) read
