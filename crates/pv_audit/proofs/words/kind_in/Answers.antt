-- The table has each kind, and each is spelled so.
use Rattle.std.proofs.Common.{refl}
use Rattle.pv_protocol.specs.LineText.{kind_text}
use Rattle.pv_script.specs.LineView.{message_kind_of}
use Rattle.pv_audit.proofs.TableLemmas.{has-kind, kind_words, table-answer}
use Rattle.pv_audit.proofs.words.kind_in.Goals as goal

pub returns-clause-kind : goal.returns-clause-kind
returns-clause-kind c = c.beside.ensures.spelled (λ kind. kind_text (message_kind_of kind)) refl

pub returns-clause-none : goal.returns-clause-none
unfolding kind_words
returns-clause-none c = table-answer kind_text kind_words c.args.word.now c.beside.result has-kind (c.beside.ensures.unlisted kind_words refl)
