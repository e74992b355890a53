-- A reply is a number, or one of the words of the table.
use Rattle.std.proofs.Common.{[], ◌∷◌, refl}
use Rattle.pv_model.specs.ReplyText.{reply_text}
use Rattle.pv_audit.proofs.TableLemmas.{found-plain, has-reply, plain_or, plain_reply, replies-none, reply_words, table-answer}
use Rattle.pv_audit.proofs.words.reply_in.Goals as goal

pub returns-clause-reply : goal.returns-clause-reply
returns-clause-reply c = c.beside.ensures.spelled reply_text refl

pub returns-clause-none : goal.returns-clause-none
unfolding reply_words
returns-clause-none c =
    replies-none c.args.word.now c.beside.result c.in_default.ensures.none
    (table-answer plain_reply reply_words c.args.word.now c.beside.result has-reply (c.beside.ensures.unlisted reply_words refl))

pub returns-clause-within : goal.returns-clause-within
returns-clause-within c =
    found-plain c.args.word.now c.beside.result (c.beside.ensures.spelled (plain_or []) refl) (c.beside.ensures.spelled (plain_or (0 ∷ [])) refl)
