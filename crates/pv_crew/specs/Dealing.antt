-- How seats are dealt to the rounds of workers, and how they come back.
use Rattle.std.specs.Prelude.{◌≡◌, ℕ, ◌<◌, ◌%◌, List, [], ◌∷◌, ◌++◌, All, get_or, length}
use mathlib.Core.List.{IsPrefix}
use Rattle.pv_rings.specs.Rings.{Each}
use Rattle.pv_turn.specs.Seats.{seats_of, seen}
use Rattle.pv_turn.specs.declared.seat.Seat.{Seat}
use Rattle.pv_turn.specs.declared.turn.Turn.{Turn}
use Rattle.pv_crew.specs.Seated.{IsReady}
use Rattle.pv_crew.specs.declared.round.Round.{Round}

module _ {V E : Type 0} where
  -- The round with one more seat, the last.
  abbrev pub IsWith : Seat V E → Round V E → Round V E → Type 0
  IsWith seat fewer more = (more.from ≡ fewer.from) × (more.seats.items ≡ fewer.seats.items ++ seat ∷ [])

  -- The round with one more seat, the last, which is such.
  abbrev pub IsWithSuch : (Seat V E → Type 0) → Round V E → Round V E → Type 0
  IsWithSuch P fewer more = (seat : Seat V E) × IsWith seat fewer more × P seat

  -- So many rounds without a seat; each begins at its own place among so many sites, round and round.
  abbrev pub AreEmpty : (sites workers : ℕ) → List (Round V E) → Type 0
  AreEmpty sites workers rounds =
      (length rounds ≡ workers)
      × ((k : ℕ) (d : Round V E) → k < length rounds → ((get_or rounds k d).from ≡ k % sites) × ((get_or rounds k d).seats.items ≡ []))

  -- The round has a ready seat of each turn, which has seen the entries of the turn's value; and it begins at one of so many sites.
  abbrev pub IsDealt : (V → List E) → (sites : ℕ) → List V → List (Turn V E) → Round V E → Type 0
  IsDealt entries sites values turns round =
      (round.from < sites) × Each (λ _. IsReady) turns round.seats.items × Each (λ _ value seat. seen seat ≡ entries value) values round.seats.items

  -- So many rounds are dealt all seats of these turns, which have these values.
  abbrev pub AreDealt : (V → List E) → (sites workers : ℕ) → List V → List (Turn V E) → List (Round V E) → Type 0
  AreDealt entries sites workers values turns rounds =
      (length rounds ≡ workers) × (length turns ≡ length values) × All (λ turn. seats_of turn ≡ workers) turns
      × All (IsDealt entries sites values turns) rounds

  -- All seats of these turns are in the rounds, in each a ready seat of each turn.
  abbrev pub AreReady : List (Turn V E) → List (Round V E) → Type 0
  AreReady turns rounds =
      (0 < length rounds) × All (λ turn. seats_of turn ≡ length rounds) turns × All (λ round. Each (λ _. IsReady) turns round.seats.items) rounds

  -- The entries of each value begin with what the round's seat at its place has seen.
  abbrev pub IsSeenBy : (V → List E) → List V → Round V E → Type 0
  IsSeenBy entries values round = Each (λ _ seat value. IsPrefix (seen seat) (entries value)) round.seats.items values
