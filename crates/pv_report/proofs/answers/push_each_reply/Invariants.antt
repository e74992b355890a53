-- The text so far is that of the replies so far.
use Rattle.std.proofs.Common.{◌≡◌, ◌++◌, take}
use Rattle.pv_model.specs.ReplyText.{reply_text}
use Rattle.pv_protocol.specs.LineText.{spaced}
use Rattle.pv_report.proofs.answers.push_each_reply.Given as goal

abbrev pub invariant-loop-reply : goal.invariant-loop-reply
invariant-loop-reply l = l.text.items ≡ l.initial.text.items ++ spaced reply_text (take l.reply-index l.replies)
