-- What a contract sees of a seat.
use Rattle.std.specs.Prelude.{◌≡◌, ℕ, List, [], ◌∷◌, None}
use mathlib.Core.List.{IsPrefix}
use Rattle.pv_turn.specs.Rule.{rests, has_value}
use Rattle.pv_turn.specs.declared.seat.Seat.{Seat}
use Rattle.pv_turn.specs.declared.turn.Turn.{Turn}

module _ {V E : Type 0} where
  -- The entries that it has seen.
  abbrev pub seen : Seat V E → List E
  seen seat = seat.token.me.0.seen

  -- It is one of this turn's seats.
  abbrev pub IsSeatOf : Turn V E → Seat V E → Type 0
  IsSeatOf turn seat = seat.token.table_id ≡ turn.table.shared.table_id

  -- It doesn't hold the turn.
  abbrev pub Rests : Seat V E → Type 0
  Rests seat = (seat.token.me.0.stage ≡ rests) × (seat.token.me.1 ≡ [])

  -- It holds the turn, and its value is out.
  abbrev pub Holds : Seat V E → Type 0
  Holds seat = (seat.token.me.0.stage ≡ has_value) × (seat.token.me.1 ≡ (0, None) ∷ [])

  -- These entries begin with those that it has seen.
  abbrev pub BeginsWith : List E → Seat V E → Type 0
  BeginsWith entries seat = IsPrefix (seen seat) entries

  -- How many seats a turn has.
  abbrev pub seats_of : Turn V E → ℕ
  seats_of turn = turn.table.shared.key.seats

  -- A seat of a new turn over this value rests, and has seen the value's entries.
  abbrev pub IsNew : (V → List E) → Turn V E → V → Seat V E → Type 0
  IsNew entries turn value seat = IsSeatOf turn seat × Rests seat × (seen seat ≡ entries value)
