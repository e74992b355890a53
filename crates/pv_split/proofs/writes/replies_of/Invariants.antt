-- The replies of the effects so far.
use Rattle.std.proofs.Common.{◌≡◌, map, take}
use Rattle.pv_split.proofs.writes.replies_of.Given as goal

abbrev pub invariant-loop-effect : goal.invariant-loop-effect
invariant-loop-effect l = l.replies.items ≡ map (λ effect. effect.reply) (take l.effect-index l.effects)
