-- The text of a reply, and what ends a line.
use Rattle.std.specs.Prelude.{ℕ, List, [], ◌∷◌, codes}
use Rattle.std.specs.Fmt.{signed_decimal}
use Rattle.pv_base.specs.declared.reply.Decline.TheVariants.{Require, Overflow, ZeroDivisor}
use Rattle.pv_base.specs.declared.reply.Reply.{Reply}
use Rattle.pv_base.specs.declared.reply.Reply.TheVariants.{Value, Nothing, Declined}

-- what ends a line
abbrev pub line_feed : List ℕ
line_feed = 10 ∷ []

-- a number, `nothing`, or why the program declined
abbrev pub reply_text : Reply → List ℕ
reply_text (Value v) = signed_decimal v
reply_text Nothing = codes "nothing"
reply_text (Declined Require) = codes "declined-require"
reply_text (Declined Overflow) = codes "declined-overflow"
reply_text (Declined ZeroDivisor) = codes "declined-zero-divisor"
