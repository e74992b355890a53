-- When two replies are one.
use Rattle.std.specs.Prelude.{Bool}
use Rattle.pv_base.specs.contracts.reply.ReplyPartialEq.TheImpl as reply_eq
use Rattle.pv_base.specs.declared.reply.Reply.{Reply}

-- Both are the same reply, as the code's `==` says.
abbrev pub is_same_reply : Reply → Reply → Bool
is_same_reply reply other = reply_eq.ghosts.eq reply other
