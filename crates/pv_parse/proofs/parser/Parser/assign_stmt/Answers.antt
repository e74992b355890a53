-- A name, `:=` and an expression are an assignment.
use Rattle.std.proofs.Common.{refl}
use Rattle.std.proofs.lemmas.Result.{err_from_is_err_and}
use Rattle.pv_parse.proofs.ProgramLemmas.{stops-assign-name, stops-assign-mark, stops-assign-value, reads-assign}
use Rattle.pv_parse.proofs.parser.Parser.assign_stmt.Goals as goal

pub returns-in_err-item-clause-stops : goal.returns-in_err-item-clause-stops
returns-in_err-item-clause-stops c =
    let p = err_from_is_err_and c.from_residual.result c.from_residual.ensures.1 in
    rw (p.1, p.2)
    (stops-assign-name c.args.self.now c.args.word.now c.args.depth c.args.column c.args.tokens.now _ _ c.requires.next _ refl c.in_err-item.ensures.unknown c.in_err-item.ensures.deep)

pub returns-in_err-expect-clause-stops : goal.returns-in_err-expect-clause-stops
returns-in_err-expect-clause-stops c =
    let p = err_from_is_err_and c.from_residual-in_err-expect.result c.from_residual-in_err-expect.ensures.1 in
    let named = c.in_ok-item.ensures in
    let stops = rw named.passed at c.in_err-expect.ensures.stops in
    rw (p.1, p.2)
    (stops-assign-mark c.args.self.now c.args.word.now c.in_ok-item.item.0 c.args.depth c.args.column c.args.tokens.now _ _ c.requires.next named.item named.shallow stops)

pub returns-in_err-value-clause-stops : goal.returns-in_err-value-clause-stops
returns-in_err-value-clause-stops c =
    let p = err_from_is_err_and c.from_residual-in_err-value.result c.from_residual-in_err-value.ensures.1 in
    let named = c.in_ok-item.ensures in
    let punctuation = rw named.passed at c.in_ok-expect.ensures.passed in
    rw (p.1, p.2)
    (stops-assign-value c.args.self.now c.args.word.now c.in_ok-item.item.0 c.args.depth c.args.column c.args.tokens.now _ _ _ c.requires.next named.item named.shallow punctuation c.in_err-value.ensures.stops)

pub returns-clause-read : goal.returns-clause-read
returns-clause-read c =
    let named = c.in_ok-item.ensures in
    let punctuation = rw named.passed at c.in_ok-expect.ensures.passed in
    reads-assign c.args.self.now c.args.word.now c.args.depth c.args.column c.args.tokens.now _ _ _ c.in_ok-item.item c.in_ok-value.value c.requires.next named.item named.shallow punctuation c.in_ok-value.ensures.read
