use Rattle.std.proofs.Common.{◌≡◌, ◌+◌, List, [], All, vec_len}
use mathlib.Core.List.{IsPrefix}
use Rattle.pv_turn.specs.Rule.{rests}
use Rattle.pv_turn.specs.Seats.{IsSeatOf, Rests, BeginsWith}
use Rattle.pv_turn.proofs.turn.Turn.gather.Given as goal

-- Where the longer list begins with what all seats that are left have seen, it begins with what all seats had.
abbrev pub invariant-loop-token : goal.invariant-loop-token
invariant-loop-token g l =
    (l.whole.table_id ≡ l.self.table.shared.table_id) × (l.whole.me.0.stage ≡ rests) × (l.whole.me.1 ≡ [])
    × (l.whole.me.0.parts + vec_len l.seats ≡ vec_len l.fn.seats)
    × All (λ seat. IsSeatOf l.self seat × Rests seat) l.seats.items
    × ((more : List g.row.V-Entry.Denot) → IsPrefix l.whole.me.0.seen more → All (BeginsWith more) l.seats.items → All (BeginsWith more) l.fn.seats.items)

abbrev pub decreases-loop-token : goal.decreases-loop-token
decreases-loop-token g l = vec_len l.seats
