-- The front that may stand in a name is one word, and no longer front is a token.
use Rattle.std.proofs.Common.{◌≤◌, get_or, sym, ap, ◌∙◌, arith}
use Rattle.pv_base.specs.Name.{continues_name}
use Rattle.pv_model.specs.Tokens.{token_of}
use Rattle.pv_parse.proofs.LexerLemmas.{front_is_word, word_starts, some_at}
use Rattle.pv_parse.proofs.TokenKinds.{lower_continues}
use Rattle.pv_parse.proofs.lexer.first_word.Goals as goal

pub word_token-requires : goal.word_token-requires
word_token-requires c =
    let size = c.word_size-size.ensures in
    let some : 1 ≤ c.word_size-size.result =
    some_at continues_name c.args.text.now c.word_size-size.result (lower_continues (get_or c.args.text.now 0 0) c.requires.lower) (λ h. size.end (omega (arith, h)) (omega (arith, h))) in
    record { word = rw c.split_at.ensures.front (front_is_word c.args.text.now c.word_size-size.result c.requires.lower some size.within size.short size.each) }

pub returns-clause-token : goal.returns-clause-token
returns-clause-token c =
    let size = c.word_size-size.ensures in
    let some : 1 ≤ c.word_size-size.result =
    some_at continues_name c.args.text.now c.word_size-size.result (lower_continues (get_or c.args.text.now 0 0) c.requires.lower) (λ h. size.end (omega (arith, h)) (omega (arith, h))) in
    word_starts c.args.text.now c.word_size-size.result _ c.requires.lower some size.within size.short size.end (sym (ap token_of c.split_at.ensures.front) ∙ c.word_token.ensures.token)
