-- The table has each word that a line begins with, and each is spelled so.
use Rattle.std.proofs.Common.{refl}
use Rattle.pv_audit.specs.FirstWords.{first_word}
use Rattle.pv_audit.proofs.TableLemmas.{first_words, has-first, table-answer}
use Rattle.pv_audit.proofs.first.first_of.Goals as goal

pub returns-clause-some : goal.returns-clause-some
returns-clause-some c = c.beside.ensures.spelled first_word refl

pub returns-clause-none : goal.returns-clause-none
unfolding first_words
returns-clause-none c = table-answer first_word first_words c.args.word.now c.beside.result has-first (c.beside.ensures.unlisted first_words refl)
