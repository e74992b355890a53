-- The table has the words of the definitions.
use Rattle.std.proofs.Common.{ap, ◌∙◌}
use Rattle.std.specs.Option.{option_map}
use Rattle.pv_model.specs.Tokens.{words_and_symbols}
use Rattle.pv_parse.specs.TokenView.{token_of}
use Rattle.pv_parse.proofs.TableLemmas.{option_map-token_beside, listed_token-word}
use Rattle.pv_parse.proofs.lexer.listed_word.Goals as goal

pub returns-clause-token : goal.returns-clause-token
unfolding words_and_symbols
returns-clause-token c =
    ap (option_map token_of) c.token_in.ensures ∙ option_map-token_beside c.args.word.now _ ∙ listed_token-word c.args.word.now c.requires.lower
