-- The table has the single bytes of the definitions.
use Rattle.std.proofs.Common.{ap, ◌∙◌}
use Rattle.std.specs.Option.{option_map}
use Rattle.pv_model.specs.Tokens.{words_and_symbols}
use Rattle.pv_parse.specs.TokenView.{token_of}
use Rattle.pv_parse.proofs.TableLemmas.{option_map-single_beside, listed_token-single}
use Rattle.pv_parse.proofs.lexer.listed_single.Goals as goal

pub returns-clause-token : goal.returns-clause-token
unfolding words_and_symbols
returns-clause-token c =
    ap (option_map token_of) c.single_in.ensures ∙ option_map-single_beside c.args.byte _ ∙ listed_token-single c.args.byte
