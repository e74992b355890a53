-- A number is read, or is too large, or nested too deeply.
use Rattle.std.proofs.Common.{rules, w64, FitsSigned}
use Rattle.std.proofs.lemmas.Int.{to_z-of_z}
use Rattle.std.proofs.lemmas.Result.{err_from_is_err_and}
use Rattle.pv_model.specs.Text.{number_of_digits}
use Rattle.pv_parse.proofs.UnaryLemmas.{number-large, reads-number, begins-number, begins-deep}
use Rattle.pv_parse.proofs.parser.Parser.number.Goals as goal

pub returns-in_default-clause-stops : goal.returns-in_default-clause-stops
returns-in_default-clause-stops c =
    number-large c.args.self.now (number_of_digits c.args.digits.now) c.args.depth c.args.column c.args.tokens.now _ c.requires.next c.in_default.ensures.none

pub returns-in_err-pass-clause-stops : goal.returns-in_err-pass-clause-stops
returns-in_err-pass-clause-stops c =
    let p = err_from_is_err_and c.from_residual.result c.from_residual.ensures.1 in
    rw (p.1, p.2, c.in_err-pass.ensures.error _ c.requires.next)
    (begins-deep c.args.self.now _ _ c.args.column c.args.tokens.now _ _ (begins-number c.args.self.now (number_of_digits c.args.digits.now) c.args.depth c.args.column c.args.tokens.now _ c.requires.next c.in-Some.ensures.number.1) c.in_err-pass.ensures.deep)

pub returns-clause-read : goal.returns-clause-read
returns-clause-read c =
    let fits : FitsSigned w64 c.in-Some.number = search rules in
    rw (c.in_ok-pass.ensures.passed, to_z-of_z w64 c.in-Some.number fits, c.in-Some.ensures.number.0)
    (reads-number c.args.self.now (number_of_digits c.args.digits.now) c.args.depth c.args.column c.args.tokens.now _ c.requires.next c.in-Some.ensures.number.1 c.in_ok-pass.ensures.shallow)
