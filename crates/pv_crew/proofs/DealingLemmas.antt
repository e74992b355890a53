-- Seats that are dealt to rounds.
use Rattle.std.proofs.Common.{◌≡◌, ℕ, ◌+◌, ◌<◌, ◌≤◌, ◌%◌, List, [], ◌∷◌, ◌++◌, All, length, get_or, set, refl, sym, ◌∙◌, ap, subst, arith}
use Rattle.std.proofs.lemmas.List.{get_or_append_left, get_or_push, length_push}
use Rattle.std.proofs.lemmas.List.Elements.{All-push}
use Rattle.std.proofs.lemmas.Nat.{mod_below}
use mathlib.Core.Logic.{dite}
use native.Mathlib.Decide.{ℕ_discrete}
use Rattle.pv_rings.specs.Rings.{Each}
use Rattle.pv_rings.proofs.EachLemmas.{each-self, each-set, each-weaker, get_or-any}
use Rattle.pv_turn.specs.Seats.{IsNew, seats_of, seen}
use Rattle.pv_turn.specs.declared.seat.Seat.{Seat}
use Rattle.pv_turn.specs.declared.turn.Turn.{Turn}
use Rattle.pv_crew.specs.Dealing.{AreDealt, AreEmpty, IsDealt, IsWith}
use Rattle.pv_crew.specs.Seated.{IsReady}
use Rattle.pv_crew.specs.declared.round.Round.{Round}
use Rattle.pv_crew.proofs.ListLemmas.{each-push, element_at}

module _ {V E : Type 0} where
  -- ## One seat to each round
  -- The round at place k has its seat, if k is one of the places from n on; else it is as it was.
  abbrev pub Has : List (Seat V E) → (n k : ℕ) → Round V E → Round V E → Type 0
  Has seats n k old new = (n ≤ k → (d : Seat V E) → IsWith (get_or seats k d) old new) × (k < n → new ≡ old)

  pub has-first : (seats : List (Seat V E)) (rounds : List (Round V E)) → length seats ≡ length rounds → Each (Has seats (length seats)) rounds rounds
  has-first seats rounds same = each-self (Has seats (length seats)) rounds (λ k x less. (λ over. absurd (omega arith), λ _. refl))

  pub has-more : (seats : List (Seat V E)) (old now : List (Round V E)) (n : ℕ) (seat : Seat V E) (one other : Round V E)
      → Each (Has seats (n + 1)) old now → n < length old → ((d : Seat V E) → get_or seats n d ≡ seat) → one ≡ get_or now n one → IsWith seat one other
      → Each (Has seats n) old (set now n other)
  has-more seats old now n seat one other each within is there gets = each-set (Has seats (n + 1)) (Has seats n) old now n other each within
      (λ d e has. (
        λ _ at. subst (λ s. IsWith s (get_or old n d) other) (sym (is at))
            (subst (λ r. IsWith seat r other) (there ∙ get_or-any now n e one (subst (λ m. n < m) each.0 within) ∙ has.1 (omega arith)) gets),
        λ less. absurd (omega arith),
      ))
      (λ k x z isnt has. (λ from. has.0 (omega arith), λ less. has.1 (omega arith)))

  pub has-all : (seats : List (Seat V E)) (old new : List (Round V E)) → Each (Has seats 0) old new
      → Each (λ k one other. (d : Seat V E) → IsWith (get_or seats k d) one other) old new
  has-all seats old new each = each-weaker (Has seats 0) (λ k one other. (d : Seat V E) → IsWith (get_or seats k d) one other) old new
      (λ k x y less has. has.0 (omega arith)) each

  -- ## Rounds without a seat
  pub empty-first : (sites : ℕ) (rounds : List (Round V E)) → rounds ≡ [] → AreEmpty sites 0 rounds
  empty-first sites rounds none = (ap (λ l. length l) none, λ k d less. let count = ap (λ l. length l) none in absurd (omega arith))

  pub empty-more : (sites n : ℕ) (rounds : List (Round V E)) (round : Round V E) → AreEmpty sites n rounds → round.from ≡ n % sites → round.seats.items ≡ []
      → AreEmpty sites (n + 1) (rounds ++ round ∷ [])
  empty-more sites n rounds round empty from seats = (
    length_push rounds round ∙ ap (λ (m : ℕ). m + 1) empty.0,
    λ k d less. dite (ℕ_discrete k (length rounds))
        (λ is. subst (λ (r : Round V E). (r.from ≡ k % sites) × (r.seats.items ≡ [])) (sym (get_or_push rounds round d k (sym is)))
        (from ∙ ap (λ (m : ℕ). m % sites) (sym (is ∙ empty.0)), seats))
        (λ isnt. let within : k < length rounds = let long = length_push rounds round in omega arith in
        subst (λ (r : Round V E). (r.from ≡ k % sites) × (r.seats.items ≡ [])) (sym (get_or_append_left rounds (round ∷ []) d k within)) (empty.1 k d within)),
  )

  -- ## All turns
  pub dealt-first : (entries : V → List E) (sites workers : ℕ) (turns : List (Turn V E)) (rounds : List (Round V E)) → 0 < sites → turns ≡ []
      → AreEmpty sites workers rounds → AreDealt entries sites workers [] turns rounds
  dealt-first entries sites workers turns rounds some none empty = (
    empty.0,
    ap (λ l. length l) none,
    λ k d less. let count = ap (λ l. length l) none in absurd (omega arith),
    λ k d less. let round = empty.1 k d less in (
      subst (λ n. n < sites) (sym round.0) (mod_below k sites some),
      subst (λ l. Each (λ _. IsReady) l (get_or rounds k d).seats.items) (sym none) (ap (λ l. length l) (sym round.1), λ j x y less. absurd (omega arith)),
      (ap (λ l. length l) (sym round.1), λ j x y less. absurd (omega arith)),
    ),
  )

  module _ (entries : V → List E) (sites workers : ℕ) (values : List V) (turns : List (Turn V E)) (value : V) (turn : Turn V E) where
    dealt-round : (seat : Seat V E) (old new : Round V E) → IsDealt entries sites values turns old → IsNew entries turn value seat → IsWith seat old new
        → IsDealt entries sites (values ++ value ∷ []) (turns ++ turn ∷ []) new
    dealt-round seat old new dealt is with = (
      subst (λ n. n < sites) (sym with.0) dealt.0,
      subst (λ l. Each (λ _. IsReady) (turns ++ turn ∷ []) l) (sym with.1)
          (each-push IsReady turns old.seats.items turn seat dealt.1 (is.0, is.1)),
      subst (λ l. Each (λ _ (v : V) (s : Seat V E). seen s ≡ entries v) (values ++ value ∷ []) l) (sym with.1)
          (each-push (λ v s. seen s ≡ entries v) values old.seats.items value seat dealt.2 is.2),
    )

    pub dealt-more : (seats : List (Seat V E)) (old new : List (Round V E)) → AreDealt entries sites workers values turns old
        → seats_of turn ≡ workers → length seats ≡ workers → All (IsNew entries turn value) seats
        → Each (λ k one other. (d : Seat V E) → IsWith (get_or seats k d) one other) old new
        → AreDealt entries sites workers (values ++ value ∷ []) (turns ++ turn ∷ []) new
    dealt-more seats old new dealt whole count are each = (
      sym each.0 ∙ dealt.0,
      length_push turns turn ∙ ap (λ (n : ℕ). n + 1) dealt.1 ∙ sym (length_push values value),
      All-push (λ one. seats_of one ≡ workers) turns turn dealt.2 whole,
      λ k d less.
          let within : k < length old = subst (λ n. k < n) (sym each.0) less in
          let here : k < length seats = subst (λ n. k < n) (dealt.0 ∙ sym count) within in
          let seat = element_at seats k here in
          dealt-round (get_or seats k seat) (get_or old k d) (get_or new k d) (dealt.3 k d within) (are k seat here) (each.1 k d d within seat),
    )
