-- A word that isn't one makes the words others.
use Rattle.pv_audit.specs.Printed.{IsReply}
use Rattle.pv_audit.proofs.ReadListLemmas.{unread-at}
use Rattle.pv_model.specs.ReplyText.{reply_text}
use Rattle.pv_audit.proofs.shown.replies_in.Goals as goal

pub returns-in_default : goal.returns-in_default
returns-in_default c = unread-at IsReply reply_text c.args.words.now c.loop-word.word-index _ c.loop-word-test.true c.in_default.ensures.none
