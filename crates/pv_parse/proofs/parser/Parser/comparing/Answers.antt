-- An operator compares, or nothing does.
use Rattle.std.proofs.Common.{rules, refl}
use Rattle.std.proofs.lemmas.Result.{err_from_is_err_and}
use Rattle.pv_ast.specs.OpView.{op_of}
use Rattle.pv_parse.proofs.OperatorLemmas.{skips-comparing, skips-comparing-other, stops-comparing}
use Rattle.pv_parse.proofs.parser.Parser.comparing.Goals as goal

pub returns-in_default-clause-taken : goal.returns-in_default-clause-taken
returns-in_default-clause-taken c = (skips-comparing c.args.self.now c.args.depth c.args.tokens.now c.in_default.ensures.none, refl)

pub returns-then-not-compares-clause-taken : goal.returns-then-not-compares-clause-taken
returns-then-not-compares-clause-taken c =
    (skips-comparing-other c.args.self.now c.args.depth _ (op_of c.in-Some.op) c.args.tokens.now _ c.in-Some.ensures.some (search rules), refl)

pub returns-in_err-pass-clause-stops : goal.returns-in_err-pass-clause-stops
returns-in_err-pass-clause-stops c =
    let p = err_from_is_err_and c.from_residual.result c.from_residual.ensures.1 in
    rw (p.1, p.2, c.in_err-pass.ensures.error _ c.in-Some.ensures.some)
    (stops-comparing c.args.self.now c.args.depth _ (op_of c.in-Some.op) c.args.tokens.now _ c.in-Some.ensures.some (search rules) c.in_err-pass.ensures.deep)
