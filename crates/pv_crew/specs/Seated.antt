-- The seats with which a worker goes round the turns.
use mathlib.Core.List.{IsPrefix}
use Rattle.pv_turn.specs.Seats.{IsSeatOf, Rests, seen}
use Rattle.pv_turn.specs.declared.seat.Seat.{Seat}
use Rattle.pv_turn.specs.declared.turn.Turn.{Turn}

module _ {V E : Type 0} where
  -- It is a seat of the turn, and doesn't hold it.
  abbrev pub IsReady : Turn V E → Seat V E → Type 0
  IsReady turn seat = IsSeatOf turn seat × Rests seat

  -- The seat later: it is of the same turn, doesn't hold it, and has seen all that it had seen.
  abbrev pub IsLater : Seat V E → Seat V E → Type 0
  IsLater old new = ((turn : Turn V E) → IsSeatOf turn old → IsSeatOf turn new) × Rests new × IsPrefix (seen old) (seen new)
