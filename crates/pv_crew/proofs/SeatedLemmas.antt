-- Seats that grow.
use Rattle.std.proofs.Common.{◌≡◌, ℕ, ◌<◌, List, length, get_or, set, refl, sym, ◌∙◌, subst, ⊎_elim, arith}
use Rattle.std.proofs.lemmas.Option.{slice_get_cases}
use base.Growing.{prefix_refl, prefix_trans}
use Rattle.pv_rings.specs.Rings.{Each}
use Rattle.pv_rings.proofs.EachLemmas.{each-set, each-trans, get_or-any}
use Rattle.pv_turn.specs.Seats.{Rests, seen}
use Rattle.pv_turn.specs.declared.seat.Seat.{Seat}
use Rattle.pv_turn.specs.declared.turn.Turn.{Turn}
use Rattle.pv_crew.specs.Seated.{IsReady, IsLater}

module _ {V E : Type 0} where
  later-trans : (a b c : Seat V E) → IsLater a b → IsLater b c → IsLater a c
  later-trans a b c first next = (λ turn mine. next.0 turn (first.0 turn mine), next.1, prefix_trans (seen a) (seen b) (seen c) first.2 next.2)

  ready-rests : (turns : List (Turn V E)) (seats : List (Seat V E)) → Each (λ _. IsReady) turns seats
      → (k : ℕ) (d : Seat V E) → k < length seats → Rests (get_or seats k d)
  ready-rests turns seats ready k d less = ⊎_elim
      (λ found. (ready.1 k found.0 d (subst (λ n. k < n) (sym ready.0) less)).1)
      (λ past. let over = past.0 in let same = ready.0 in absurd (omega arith))
      ((slice_get_cases turns k).1)

  -- At first nothing has changed.
  pub later-first : (turns : List (Turn V E)) (seats : List (Seat V E)) → Each (λ _. IsReady) turns seats → Each (λ _. IsLater) seats seats
  later-first turns seats ready = (
    refl,
    λ k d e less. subst (λ seat. IsLater (get_or seats k d) seat) (sym (get_or-any seats k d e less))
        (λ turn mine. mine, ready-rests turns seats ready k d less, prefix_refl (seen (get_or seats k d))),
  )

  -- One seat goes on.
  module _ (turns : List (Turn V E)) (seats : List (Seat V E)) (at : ℕ) (old new : Seat V E) (ready : Each (λ _. IsReady) turns seats) (within : at < length seats)
      (there : old ≡ get_or seats at old) (later : IsLater old new) where
    one-later : Each (λ _. IsLater) seats (set seats at new)
    one-later = each-set (λ _. IsLater) (λ _. IsLater) seats seats at new (later-first turns seats ready) within
        (λ d e same. subst (λ seat. IsLater seat new) (there ∙ get_or-any seats at d old within) later) (λ k one other isnt is. is)

    pub ready-set : Each (λ _. IsReady) turns (set seats at new)
    ready-set = each-trans (λ _. IsReady) (λ _. IsLater) (λ _. IsReady) turns seats (set seats at new)
        (λ k turn one other less is next. (next.0 turn is.0, next.1)) ready one-later

    pub later-set : (before : List (Seat V E)) → Each (λ _. IsLater) before seats → Each (λ _. IsLater) before (set seats at new)
    later-set before since = each-trans (λ _. IsLater) (λ _. IsLater) (λ _. IsLater) before seats (set seats at new)
        (λ k first one other less. later-trans first one other) since one-later
