-- The rounds of workers.
use Rattle.std.specs.Prelude.{◌≡◌, ◌<◌, List, length}
use Rattle.pv_rings.specs.Rings.{Each}
use Rattle.pv_turn.specs.declared.turn.Turn.{Turn}
use Rattle.pv_crew.specs.Seated.{IsLater, IsReady}
use Rattle.pv_crew.specs.declared.round.Round.{Round}

module _ {V E : Type 0} where
  -- Its seats are one of each turn and rest, and it begins at one of them.
  abbrev pub IsRoundOf : List (Turn V E) → Round V E → Type 0
  IsRoundOf turns round = (round.from < length turns) × Each (λ _. IsReady) turns round.seats.items

  -- The round later: it has the same seats, which have seen all that they had seen.
  abbrev pub IsLaterRound : Round V E → Round V E → Type 0
  IsLaterRound old new = (new.from ≡ old.from) × Each (λ _. IsLater) old.seats.items new.seats.items
