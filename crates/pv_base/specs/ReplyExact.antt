-- Replies that compare equal are the same.
use Rattle.std.specs.Prelude.{◌≡◌, ℤ, true, refl}
use Rattle.std.specs.Ordering.{int_eq}
use Rattle.std.proofs.Common.{ap, rules}
use Rattle.pv_base.specs.declared.reply.Decline.{Decline}
use Rattle.pv_base.specs.declared.reply.Decline.TheVariants.{Require, Overflow, ZeroDivisor}
use Rattle.pv_base.specs.declared.reply.Reply.{Reply}
use Rattle.pv_base.specs.declared.reply.Reply.TheVariants.{Value, Nothing, Declined}
use Rattle.pv_base.specs.contracts.reply.DeclinePartialEq.TheImpl as decline_eq
use Rattle.pv_base.specs.contracts.reply.ReplyPartialEq.TheImpl as reply_eq

value_exact : (v w : ℤ) → int_eq v w ≡ true → v ≡ w
value_exact v w e = search rules

decline_exact : (x y : Decline) → decline_eq.ghosts.eq x y ≡ true → x ≡ y
decline_exact Require Require e = refl
decline_exact Require Overflow e = cc
decline_exact Require ZeroDivisor e = cc
decline_exact Overflow Require e = cc
decline_exact Overflow Overflow e = refl
decline_exact Overflow ZeroDivisor e = cc
decline_exact ZeroDivisor Require e = cc
decline_exact ZeroDivisor Overflow e = cc
decline_exact ZeroDivisor ZeroDivisor e = refl

pub reply_exact : (x y : Reply) → reply_eq.ghosts.eq x y ≡ true → x ≡ y
reply_exact (Value v) (Value w) e = ap Value (value_exact v w e)
reply_exact (Value v) Nothing e = cc
reply_exact (Value v) (Declined d) e = cc
reply_exact Nothing (Value w) e = cc
reply_exact Nothing Nothing e = refl
reply_exact Nothing (Declined d) e = cc
reply_exact (Declined c) (Value w) e = cc
reply_exact (Declined c) Nothing e = cc
reply_exact (Declined c) (Declined d) e = ap Declined (decline_exact c d e)
