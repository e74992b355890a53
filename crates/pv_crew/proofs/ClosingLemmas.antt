-- Seats that come back from rounds, and values that come out of their turns.
use Rattle.std.proofs.Common.{◌≡◌, ℕ, ◌+◌, ◌<◌, ◌≤◌, List, [], ◌∷◌, ◌++◌, All, length, get_or, set, refl, sym, ◌∙◌, subst, arith, append_assoc}
use Rattle.std.proofs.lemmas.List.{append-nil, length_push, get_or_append_left, get_or_push}
use mathlib.Core.List.{IsPrefix}
use Rattle.pv_rings.specs.Rings.{Each}
use Rattle.pv_rings.proofs.EachLemmas.{each-self, each-set, each-trans, each-weaker, get_or-any}
use Rattle.pv_turn.specs.Seats.{BeginsWith, IsSeatOf, Rests, seats_of, seen}
use Rattle.pv_turn.specs.declared.seat.Seat.{Seat}
use Rattle.pv_turn.specs.declared.turn.Turn.{Turn}
use Rattle.pv_crew.specs.Dealing.{AreReady, IsSeenBy, IsWith, IsWithSuch}
use Rattle.pv_crew.specs.Seated.{IsReady}
use Rattle.pv_crew.specs.declared.round.Round.{Round}
use Rattle.pv_crew.proofs.ListLemmas.{each-pop, each-push, element_at}

module _ {V E : Type 0} where
  -- ## One seat of each round
  -- The seat of the round at place k is out, if k is below n; else the round is as it was.
  abbrev pub IsOut : List (Seat V E) → (n k : ℕ) → Round V E → Round V E → Type 0
  IsOut seats n k old new = (k < n → (d : Seat V E) → IsWith (get_or seats k d) new old) × (n ≤ k → new ≡ old)

  pub out-first : (seats : List (Seat V E)) (rounds : List (Round V E)) → Each (IsOut seats 0) rounds rounds
  out-first seats rounds = each-self (IsOut seats 0) rounds (λ k x less. (λ none. absurd (omega arith), λ _. refl))

  pub out-more : (seats : List (Seat V E)) (old now : List (Round V E)) (n : ℕ) (seat : Seat V E) (one other : Round V E)
      → Each (IsOut seats n) old now → length seats ≡ n → n < length old → one ≡ get_or now n one → IsWith seat other one
      → Each (IsOut (seats ++ seat ∷ []) (n + 1)) old (set now n other)
  out-more seats old now n seat one other each count within there gives = each-set (IsOut seats n) (IsOut (seats ++ seat ∷ []) (n + 1)) old now n other each within
      (λ d e out. (
        λ _ at. subst (λ s. IsWith s other (get_or old n d)) (sym (get_or_push seats seat at n count))
            (subst (λ r. IsWith seat other r) (there ∙ get_or-any now n e one (subst (λ m. n < m) each.0 within) ∙ out.1 (omega arith)) gives),
        λ over. absurd (omega arith),
      ))
      (λ k x z isnt out. (
        λ less at. let below : k < n = omega arith in
            subst (λ s. IsWith s z x) (sym (get_or_append_left seats (seat ∷ []) at k (subst (λ m. k < m) (sym count) below))) (out.0 below at),
        λ over. out.1 (omega arith),
      ))

  pub out-some : (seats : List (Seat V E)) (old now : List (Round V E)) (n : ℕ) (one : Round V E) → Each (IsOut seats n) old now → n < length old
      → one ≡ get_or now n one → All (λ (round : Round V E). 0 < length round.seats.items) old → 0 < length one.seats.items
  out-some seats old now n one each within there some =
      subst (λ (r : Round V E). 0 < length r.seats.items) (sym (there ∙ (each.1 n one one within).1 (omega arith))) (some n one within)

  pub out-all : (seats : List (Seat V E)) (old new : List (Round V E)) → Each (IsOut seats (length old)) old new
      → Each (λ k one other. (d : Seat V E) → IsWith (get_or seats k d) other one) old new
  out-all seats old new each = each-weaker (IsOut seats (length old)) (λ k one other. (d : Seat V E) → IsWith (get_or seats k d) other one) old new
      (λ k x y less out. out.0 less) each

  -- ## The last turn
  module _ (turns : List (Turn V E)) (turn : Turn V E) (seats : List (Seat V E)) (old new : List (Round V E)) (ready : AreReady (turns ++ turn ∷ []) old)
      (count : length seats ≡ length old) (each : Each (λ k one other. (d : Seat V E) → IsWith (get_or seats k d) other one) old new) where
    -- In each round the last seat is of the last turn.
    ready-round : (k : ℕ) (d : Round V E) (e : Seat V E) → k < length old → Each (λ _. IsReady) turns (get_or new k d).seats.items × IsReady turn (get_or seats k e)
    ready-round k d e less = each-pop IsReady turns (get_or new k d).seats.items turn (get_or seats k e)
        (subst (λ l. Each (λ _. IsReady) (turns ++ turn ∷ []) l) (each.1 k d d less e).1 (ready.2 k d less))

    pub ready-seats : All (λ seat. IsSeatOf turn seat × Rests seat) seats
    ready-seats k e less = let within = subst (λ n. k < n) count less in (ready-round k (element_at old k within) e within).1

    pub ready-whole : length seats ≡ seats_of turn
    ready-whole = let last = length_push turns turn in
        count ∙ sym (subst (λ v. seats_of v ≡ length old) (get_or_push turns turn turn (length turns) refl) (ready.1 (length turns) turn (omega arith)))

    pub ready-fewer : AreReady turns new
    ready-fewer = (
      subst (λ n. 0 < n) each.0 ready.0,
      λ k d less. let last = length_push turns turn in
          subst (λ v. seats_of v ≡ length new) (get_or_append_left turns (turn ∷ []) d k less) (ready.1 k d (omega arith) ∙ each.0),
      λ k d less. let within = subst (λ n. k < n) (sym each.0) less in
          (ready-round k d (element_at seats k (subst (λ n. k < n) (sym count) within)) within).0,
    )

    pub such-seats : (P : Seat V E → Type 0) → All P seats → Each (λ _ one other. IsWithSuch P other one) old new
    such-seats P all = each-weaker (λ k one other. (d : Seat V E) → IsWith (get_or seats k d) other one) (λ _ one other. IsWithSuch P other one) old new
        (λ k x y less with. let here = subst (λ n. k < n) (sym count) less in let seat = element_at seats k here in (get_or seats k seat, with seat, all k seat here))
        each

  -- Each round has a seat of the last turn.
  pub ready-some : (turns : List (Turn V E)) (rounds : List (Round V E)) → AreReady turns rounds → 0 < length turns
      → All (λ (round : Round V E). 0 < length round.seats.items) rounds
  ready-some turns rounds ready some k d less = subst (λ n. 0 < n) (ready.2 k d less).0 some

  -- ## All turns
  -- With the values of the turns that are left, the round has seen what these and those begin with.
  abbrev pub Closes : (V → List E) → List V → Round V E → Round V E → Type 0
  Closes entries values first now = (left : List V) → IsSeenBy entries left now → IsSeenBy entries (left ++ values) first

  pub closes-first : (entries : V → List E) (rounds : List (Round V E)) → Each (λ _. Closes entries []) rounds rounds
  closes-first entries rounds = each-self (λ _. Closes entries []) rounds
      (λ k x less left is. subst (λ l. IsSeenBy entries l x) (sym (append-nil left)) is)

  pub closes-more : (entries : V → List E) (values : List V) (value : V) (first now next : List (Round V E)) → Each (λ _. Closes entries values) first now
      → Each (λ _ one other. IsWithSuch (BeginsWith (entries value)) other one) now next → Each (λ _. Closes entries (value ∷ values)) first next
  closes-more entries values value first now next = each-trans (λ _. Closes entries values) (λ _ one other. IsWithSuch (BeginsWith (entries value)) other one)
      (λ _. Closes entries (value ∷ values)) first now next
      (λ k x y z less closes such left is. let Sees = λ (seat : Seat V E) (v : V). IsPrefix (seen seat) (entries v) in
      subst (λ l. IsSeenBy entries l x) (append_assoc left (value ∷ []) values)
      (closes (left ++ value ∷ []) (subst (λ l. Each (λ _. Sees) l (left ++ value ∷ [])) (sym such.1.1) (each-push Sees z.seats.items left such.0 value is such.2))))

  pub closes-all : (entries : V → List E) (values : List V) (turns : List (Turn V E)) (first now : List (Round V E)) → Each (λ _. Closes entries values) first now
      → AreReady turns now → length turns ≡ 0 → All (IsSeenBy entries values) first
  closes-all entries values turns first now each ready none k d less =
      let seats = ready.2 k d (subst (λ n. k < n) each.0 less) in
      each.1 k d d less [] (sym seats.0 ∙ none, λ j x y has. let same = seats.0 in absurd (omega arith))
