-- A name is passed as its item, or no item has it, or it is nested too deeply.
use Rattle.std.proofs.Common.{◌∷◌, ◌∙◌, ap, refl, sym}
use Rattle.std.proofs.lemmas.Result.{err_from_is_err_and}
use Rattle.pv_model.specs.Tokens.{Token}
use Rattle.pv_parse.specs.ReadingSteps.{Columned}
use Rattle.pv_parse.proofs.RequirementLemmas.{stops-item-name}
use Rattle.pv_parse.proofs.parser.Parser.named_item.Goals as goal

pub returns-in_err-item-clause-stops : goal.returns-in_err-item-clause-stops
returns-in_err-item-clause-stops c =
    let p = err_from_is_err_and c.from_residual.result c.from_residual.ensures.1 in
    rw (p.1, p.2)
    (stops-item-name c.args.self.now c.args.word.now c.args.depth c.args.column c.args.tokens.now _ _ c.requires _ refl c.in_err-item.ensures.unknown c.in_err-item.ensures.deep)

pub returns-clause-read : goal.returns-clause-read
returns-clause-read c = record {
  word = c.args.word.now;
  column = c.args.column;
  split = c.requires ∙ ap (λ (ts : Columned). (c.args.column, Token.name c.args.word.now) ∷ ts) (sym c.in_ok-item.ensures.passed);
  known = c.in_ok-item.ensures.item;
  shallow = c.in_ok-item.ensures.shallow;
}
