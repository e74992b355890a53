-- The mark is next and passed, or another token is next, or none.
use Rattle.std.proofs.Common.{rules}
use Rattle.std.proofs.lemmas.Result.{err_from_is_err_and}
use Rattle.pv_parse.specs.ChainView.{punctuation_of}
use Rattle.pv_parse.specs.TokenView.{token_of, located_of}
use Rattle.pv_parse.proofs.OperatorLemmas.{passes-mark, stops-mark-deep, stops-mark-other, stops-mark-end}
use Rattle.pv_parse.proofs.parser.Parser.expect.Goals as goal

pub returns-in_default-clause-stops : goal.returns-in_default-clause-stops
returns-in_default-clause-stops c =
    rw (c.malformed.ensures, c.in_default.ensures.none) (stops-mark-end c.args.self.now (punctuation_of c.args.expected) c.args.depth)

pub returns-then-not-is_punctuation-clause-stops : goal.returns-then-not-is_punctuation-clause-stops
returns-then-not-is_punctuation-clause-stops c =
    rw (c.malformed-then-not-is_punctuation.ensures, c.in-Some.ensures.some)
    (stops-mark-other c.args.self.now (punctuation_of c.args.expected) c.args.depth (located_of c.in-Some.next) _ (search rules))

pub returns-in_err-pass-clause-stops : goal.returns-in_err-pass-clause-stops
returns-in_err-pass-clause-stops c =
    let p = err_from_is_err_and c.from_residual.result c.from_residual.ensures.1 in
    rw (p.1, p.2, c.in_err-pass.ensures.error _ c.in-Some.ensures.some)
    (stops-mark-deep c.args.self.now c.args.expected c.args.depth c.in-Some.next.column (token_of c.in-Some.next.token) c.args.tokens.now c.in-Some.ensures.some (search rules) c.in_err-pass.ensures.deep)

pub returns-clause-passed : goal.returns-clause-passed
returns-clause-passed c =
    rw c.in_ok-pass.ensures.passed
    (passes-mark c.args.self.now c.args.expected c.args.depth c.in-Some.next.column (token_of c.in-Some.next.token) c.args.tokens.now c.in-Some.ensures.some (search rules) c.in_ok-pass.ensures.shallow)
