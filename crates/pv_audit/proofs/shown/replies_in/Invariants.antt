-- What is read are the words so far.
use Rattle.std.proofs.Common.{◌≡◌, map, take}
use Rattle.std.specs.List.{All}
use Rattle.pv_audit.specs.Printed.{IsReply}
use Rattle.pv_model.specs.ReplyText.{reply_text}
use Rattle.pv_script.specs.LineFaults.{texts}
use Rattle.pv_audit.proofs.shown.replies_in.Given as goal

abbrev pub invariant-loop-word : goal.invariant-loop-word
invariant-loop-word l = (texts (take l.word-index l.words) ≡ map reply_text l.replies.items) × All IsReply l.replies.items
