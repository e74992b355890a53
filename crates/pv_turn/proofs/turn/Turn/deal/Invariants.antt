use Rattle.std.proofs.Common.{◌-◌, ◌+◌, ◌≡◌, ◌<◌, ◌≤◌, [], All, vec_len, vec_capacity}
use Rattle.pv_turn.specs.Rule.{rests}
use Rattle.pv_turn.specs.Seats.{IsSeatOf, Rests, seen}
use Rattle.pv_turn.proofs.turn.Turn.deal.Given as goal

abbrev pub invariant-loop-left : goal.invariant-loop-left
invariant-loop-left g l =
    (l.first.table_id ≡ l.initial.first.table_id) × (l.first.me.0.seen ≡ l.initial.first.me.0.seen) × (l.first.me.0.stage ≡ rests) × (l.first.me.1 ≡ [])
    × (l.first.me.0.parts ≡ l.left) × (0 < l.left)
    × (vec_len l.dealt + l.left ≡ l.count) × (l.count ≤ vec_capacity l.dealt)
    × All (λ seat. IsSeatOf l.self seat × Rests seat × (seen seat ≡ l.initial.first.me.0.seen)) l.dealt.items

abbrev pub decreases-loop-left : goal.decreases-loop-left
decreases-loop-left g l = l.left - 1
