-- The table has the pairs of the definitions.
use Rattle.std.proofs.Common.{get_or, ap, ◌∙◌}
use Rattle.std.specs.Option.{option_map}
use Rattle.pv_model.specs.Tokens.{words_and_symbols}
use Rattle.pv_parse.specs.TokenView.{token_of}
use Rattle.pv_parse.proofs.TableLemmas.{option_map-pair_beside, listed_token-pair, listed_pair-long}
use Rattle.pv_parse.proofs.lexer.listed_pair.Goals as goal

pub returns-clause-token : goal.returns-clause-token
unfolding words_and_symbols
returns-clause-token c =
    let text = c.args.text.now in
    ap (option_map token_of) c.pair_in.ensures ∙ option_map-pair_beside (get_or text 0 0) (get_or text 1 0) _
    ∙ listed_token-pair (get_or text 0 0) (get_or text 1 0) c.requires.other.no_lower ∙ listed_pair-long text c.in-len2-up.len_at_least
