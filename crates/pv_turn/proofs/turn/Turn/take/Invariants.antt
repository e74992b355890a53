use Rattle.std.proofs.Common.{◌≡◌}
use Rattle.pv_turn.proofs.turn.Turn.take.Given as goal

abbrev pub invariant-loop : goal.invariant-loop
invariant-loop g l =
    (l.seat.token.table_id ≡ l.initial.seat.token.table_id) × (l.seat.token.me ≡ l.initial.seat.token.me)
    × (goal.iterator-loop g).can_next l.iterator' × (goal.iterator-loop g).is_finite l.iterator'
