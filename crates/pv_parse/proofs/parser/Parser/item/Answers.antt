-- A name is read as its item, or no item has it, or it is nested too deeply.
use Rattle.std.proofs.Common.{refl}
use Rattle.std.proofs.lemmas.Result.{err_from_is_err_and}
use Rattle.pv_parse.proofs.UnaryLemmas.{reads-name, stops-name}
use Rattle.pv_parse.proofs.parser.Parser.item.Goals as goal

pub returns-in_err-item-clause-stops : goal.returns-in_err-item-clause-stops
returns-in_err-item-clause-stops c =
    let p = err_from_is_err_and c.from_residual.result c.from_residual.ensures.1 in
    rw (p.1, p.2)
    (stops-name c.args.self.now c.args.word.now c.args.depth c.args.column c.args.tokens.now _ _ c.requires.next _ refl c.in_err-item.ensures.unknown c.in_err-item.ensures.deep)

pub returns-clause-read : goal.returns-clause-read
returns-clause-read c =
    rw c.in_ok-item.ensures.passed
    (reads-name c.args.self.now c.args.word.now c.in_ok-item.item.0 c.args.depth c.args.column c.args.tokens.now _ c.requires.next c.in_ok-item.ensures.item c.in_ok-item.ensures.shallow)
