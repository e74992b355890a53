-- A word that is listed stands for itself, and another one is a name.
use Rattle.std.proofs.Common.{sym}
use Rattle.pv_parse.proofs.TokenKinds.{token_of-listed, token_of-name, word_lower}
use Rattle.pv_parse.proofs.lexer.word_token.Goals as goal

pub listed_word-requires : goal.listed_word-requires
listed_word-requires c = record { lower = word_lower c.args.word.now c.requires.word }

pub returns-in-Some-clause-token : goal.returns-in-Some-clause-token
returns-in-Some-clause-token c = token_of-listed c.args.word.now _ (sym c.in-Some.ensures.token)

pub returns-in-None-clause-token : goal.returns-in-None-clause-token
returns-in-None-clause-token c = token_of-name c.args.word.now c.requires.word (sym c.in-None.ensures.token)
