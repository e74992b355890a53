-- Which places of the cases an assignment meets, and what its meeting says of them.
use Rattle.std.proofs.Common.{◌≡◌, ⊎_elim, ℕ, zero, suc, ◌+◌, ◌<◌, ◌≤◌, Bool, true, false, ◌&&◌, List, [], ◌∷◌, length, Option, Some, inl, inr, cond, if◌then◌else◌, refl, sym, ap, ap₂, subst, ◌∙◌, filter, arith}
use Rattle.std.specs.Prelude.{slice_get, is_none, option_and_then, option_map}
use Rattle.std.specs.Bool.{beq}
use Rattle.std.specs.List.{Contains, list_any}
use Rattle.std.proofs.lemmas.Option.{none-some}
use Rattle.std.proofs.lemmas.Bool.{or_left, or_right, true≢false, false≢true}
use Rattle.pv_base.specs.declared.literal.Literal.{Literal}
use Rattle.pv_base.specs.declared.txn.TxnId.{TxnId}
use Rattle.pv_base.specs.Assignment.{is_same_txn, AgreeOn}
use Rattle.pv_base.specs.Polyvalue.{Case, meets, value_at, names}
use Rattle.pv_base.specs.CaseFaults.{IsMetAt}
use Rattle.pv_base.proofs.Basics.{Some_inj}
use Rattle.pv_base.proofs.ContainsLemmas.{Contains-first, Contains-behind, Contains-nil, Contains-cases}
use Rattle.pv_base.proofs.AssignmentLemmas.{same-refl}
use Rattle.pv_cases.specs.declared.meetings.Meeting.{Meeting}
use Rattle.pv_cases.specs.Meetings.{places_from, places_met, meeting_of}
use Rattle.pv_cases.specs.Joining.{IsPairBefore, is_gap, value_met}

-- The places ascend.

-- the numbers ascend, and begin at this one or after it
abbrev pub Up : ℕ → List ℕ → Type 0
Up from [] = Unit {0}
Up from (p ∷ ps) = (from ≤ p) × Up (suc p) ps

up-later : (k : ℕ) (ps : List ℕ) → Up (suc k) ps → Up k ps
up-later k [] up = tt
up-later k (p ∷ ps) (h, up) = (omega (arith, h), up)

up-choice : (b : Bool) (k : ℕ) (ps : List ℕ) → Up (suc k) ps → Up k (if b then k ∷ ps else ps)
up-choice true k ps up = (omega arith, up)
up-choice false k ps up = up-later k ps up

pub places-up : {V : Type 0} (k : ℕ) (cases : List (Case V)) (a : List TxnId) → Up k (places_from k cases a)
places-up k [] a = tt
places-up k (case ∷ cases) a = up-choice (meets case.when a) k (places_from (suc k) cases a) (places-up (suc k) cases a)

pub up-least : (k : ℕ) (ps : List ℕ) → Up k ps → (x : ℕ) → Contains ps x → k ≤ x
up-least k [] up x h = absurd (Contains-nil x h)
up-least k (p ∷ ps) (from, up) x h =
    ⊎_elim
    (λ same. omega (arith, same, from))
    (λ behind. omega (arith, from, up-least (suc p) ps up x behind))
    (Contains-cases p ps x h)

-- The places are those of the cases that are met.

kept-first : (b : Bool) (k : ℕ) (ps : List ℕ) → b ≡ true → Contains (if b then k ∷ ps else ps) k
kept-first true k ps is = Contains-first k ps
kept-first false k ps is = absurd (false≢true is)

kept-behind : (b : Bool) (k : ℕ) (ps : List ℕ) (p : ℕ) → Contains ps p → Contains (if b then k ∷ ps else ps) p
kept-behind true k ps p h = Contains-behind k ps p h
kept-behind false k ps p h = h

met-place : {V : Type 0} (k : ℕ) (cases : List (Case V)) (a : List TxnId) (i : ℕ) (case : Case V) (p : ℕ) → p ≡ k + i
    → slice_get cases i ≡ Some case → meets case.when a ≡ true → Contains (places_from k cases a) p
met-place k [] a i case p is there met = absurd (none-some _ there)
met-place k (first ∷ cases) a zero case p is there met =
    subst (Contains (places_from k (first ∷ cases) a)) (omega (arith, is))
    (kept-first (meets first.when a) k (places_from (suc k) cases a) (ap (λ (c : Case _). meets c.when a) (Some_inj there) ∙ met))
met-place k (first ∷ cases) a (suc i) case p is there met =
    kept-behind (meets first.when a) k (places_from (suc k) cases a) p
    (met-place (suc k) cases a i case p (omega (arith, is)) there met)

-- The place, counted from this one, is met.
abbrev MetFrom : {V : Type 0} → ℕ → List (Case V) → List TxnId → ℕ → Type 0
MetFrom k cases a p = (i : ℕ) × ((p ≡ k + i) × IsMetAt cases a i)

met-deeper : {V : Type 0} (k : ℕ) (first : Case V) (cases : List (Case V)) (a : List TxnId) (p : ℕ) → MetFrom (suc k) cases a p → MetFrom k (first ∷ cases) a p
met-deeper k first cases a p (i, (is, at)) = (suc i, (omega (arith, is), record { case = at.case; there = at.there; met = at.met }))

met-step : {V : Type 0} (k : ℕ) (first : Case V) (cases : List (Case V)) (a : List TxnId) (p : ℕ) (ps : List ℕ) (b : Bool) → meets first.when a ≡ b
    → (Contains ps p → MetFrom (suc k) cases a p) → Contains (if b then k ∷ ps else ps) p → MetFrom k (first ∷ cases) a p
met-step k first cases a p ps true met rest h =
    ⊎_elim
    (λ same. (zero, (omega (arith, same), record { case = first; there = refl; met = met })))
    (λ behind. met-deeper k first cases a p (rest behind))
    (Contains-cases k ps p h)
met-step k first cases a p ps false met rest h = met-deeper k first cases a p (rest h)

place-met : {V : Type 0} (k : ℕ) (cases : List (Case V)) (a : List TxnId) (p : ℕ) → Contains (places_from k cases a) p → MetFrom k cases a p
place-met k [] a p h = absurd (Contains-nil p h)
place-met k (first ∷ cases) a p h =
    met-step k first cases a p (places_from (suc k) cases a) (meets first.when a) refl (place-met (suc k) cases a p) h

pub placed : {V : Type 0} (cases : List (Case V)) (a : List TxnId) (p : ℕ) → IsMetAt cases a p → Contains (places_met cases a) p
placed cases a p at = met-place 0 cases a p at.case p (omega arith) at.there at.met

pub met-at : {V : Type 0} (cases : List (Case V)) (a : List TxnId) (p : ℕ) → Contains (places_met cases a) p → IsMetAt cases a p
met-at cases a p h =
    let met = place-met 0 cases a p h in
    subst (IsMetAt cases a) (let same : met.0 ≡ p = omega (arith, met.1.0) in same) met.1.1

-- The places depend only on the outcomes of the transactions that are named.

meets-same : (when : List Literal) (a b : List TxnId)
    → AgreeOn (λ txn. list_any (λ literal. is_same_txn txn literal.txn) when) a b → meets when a ≡ meets when b
meets-same [] a b agree = refl
meets-same (literal ∷ rest) a b agree =
    ap₂ (λ (first others : Bool). beq first literal.commits && others)
    (agree literal.txn (or_left _ _ (same-refl literal.txn)))
    (meets-same rest a b (λ txn named. agree txn (or_right (is_same_txn txn literal.txn) _ named)))

pub places-agree : {V : Type 0} (k : ℕ) (cases : List (Case V)) (a b : List TxnId) → AgreeOn (names cases) a b → places_from k cases a ≡ places_from k cases b
places-agree k [] a b agree = refl
places-agree k (case ∷ cases) a b agree =
    ap₂ (λ (met : Bool) (ps : List ℕ). if met then k ∷ ps else ps)
    (meets-same case.when a b (λ txn named. agree txn (or_left _ _ named)))
    (places-agree (suc k) cases a b
    (λ txn named. agree txn (or_right (list_any (λ literal. is_same_txn txn literal.txn) case.when) _ named)))

-- The first two places.

-- the meeting of these two places
abbrev pub pair : ℕ → ℕ → Meeting
pair p q = record { first = Some p; second = Some q }

first-of : (p : ℕ) (ps : List ℕ) → (meeting_of (p ∷ ps)).first ≡ Some p
first-of p [] = refl
first-of p (q ∷ ps) = refl

-- The places of a meeting are the first two.
pub record AreFirstTwo (ps : List ℕ) (p q : ℕ) : Type 0 where
  pub first : Contains ps p
  pub second : Contains ps q
  pub ordered : p < q

pub pair-places : (k : ℕ) (ps : List ℕ) (p q : ℕ) → Up k ps → meeting_of ps ≡ pair p q → AreFirstTwo ps p q
pair-places k [] p q up is = absurd (none-some _ (ap (λ m. m.first) is))
pair-places k (x ∷ []) p q up is = absurd (none-some _ (ap (λ m. m.second) is))
pair-places k (x ∷ y ∷ ps) p q (from, (later, up)) is =
    let first : x ≡ p = Some_inj (ap (λ m. m.first) is) in
    let second : y ≡ q = Some_inj (ap (λ m. m.second) is) in
    record {
      first = subst (Contains (x ∷ y ∷ ps)) first (Contains-first x (y ∷ ps));
      second = subst (Contains (x ∷ y ∷ ps)) second (Contains-behind x (y ∷ ps) y (Contains-first y ps));
      ordered = omega (arith, first, second, later);
    }

-- Any two places come with a pair that doesn't come after them.
pub two-places : (k : ℕ) (ps : List ℕ) → Up k ps → (x y : ℕ) → Contains ps x → Contains ps y → x < y
    → (p q : ℕ) × ((meeting_of ps ≡ pair p q) × IsPairBefore p q x y)
two-places k [] up x y hx hy less = absurd (Contains-nil x hx)
two-places k (p ∷ []) up x y hx hy less =
    ⊎_elim
    (λ first. ⊎_elim
    (λ second. absurd (omega (arith, first, second, less)))
    (λ behind. absurd (Contains-nil y behind))
    (Contains-cases p [] y hy))
    (λ behind. absurd (Contains-nil x behind))
    (Contains-cases p [] x hx)
two-places k (p ∷ q ∷ ps) (from, (later, up)) x y hx hy less =
    let least = λ (z : ℕ) (h : Contains (q ∷ ps) z). up-least q (q ∷ ps) (omega arith, up) z h in (
      p,
      q,
      (
        refl,
        ⊎_elim
            (λ first. ⊎_elim
            (λ second. absurd (omega (arith, first, second, less)))
            (λ behind. inr (first, least y behind))
            (Contains-cases p (q ∷ ps) y hy))
            (λ behind. inl (omega (arith, later, least x behind)))
            (Contains-cases p (q ∷ ps) x hx),
      ),
    )

-- The first place.

value-step : {V : Type 0} (all : List (Case V)) (b : Bool) (k : ℕ) (ps : List ℕ) (case : Case V) (rest : Option V) → slice_get all k ≡ Some case
    → value_met all (meeting_of ps) ≡ rest → value_met all (meeting_of (if b then k ∷ ps else ps)) ≡ (if b then Some case.value else rest)
value-step all true k ps case rest there is =
    ap (λ (o : Option ℕ). option_and_then (λ place. option_map (λ case. case.value) (slice_get all place)) o) (first-of k ps)
    ∙ ap (option_map (λ (case : Case _). case.value)) there
value-step all false k ps case rest there is = is

value-from : {V : Type 0} (all : List (Case V)) (k : ℕ) (cases : List (Case V)) (a : List TxnId) → ((i : ℕ) → slice_get cases i ≡ slice_get all (k + i))
    → value_met all (meeting_of (places_from k cases a)) ≡ value_at cases a
value-from all k [] a shifted = refl
value-from all k (case ∷ cases) a shifted =
    value-step all (meets case.when a) k (places_from (suc k) cases a) case (value_at cases a)
    (ap (slice_get all) (let same : k ≡ k + 0 = omega arith in same) ∙ sym (shifted 0))
    (value-from all (suc k) cases a (λ i. shifted (suc i) ∙ ap (slice_get all) (let same : k + suc i ≡ suc k + i = omega arith in same)))

-- The value of the first case that is met is the value at the assignment.
pub value-of-meeting : {V : Type 0} (cases : List (Case V)) (a : List TxnId) → value_met cases (meeting_of (places_met cases a)) ≡ value_at cases a
value-of-meeting cases a = value-from cases 0 cases a (λ i. ap (slice_get cases) (let same : i ≡ 0 + i = omega arith in same))

gap-step : {V : Type 0} (b : Bool) (k : ℕ) (ps : List ℕ) (value : V) (rest : Option V) → is_gap (meeting_of ps) ≡ is_none rest
    → is_gap (meeting_of (if b then k ∷ ps else ps)) ≡ is_none (if b then Some value else rest)
gap-step true k ps value rest is = ap (λ (o : Option ℕ). is_none o) (first-of k ps)
gap-step false k ps value rest is = is

gap-from : {V : Type 0} (k : ℕ) (cases : List (Case V)) (a : List TxnId) → is_gap (meeting_of (places_from k cases a)) ≡ is_none (value_at cases a)
gap-from k [] a = refl
gap-from k (case ∷ cases) a =
    gap-step (meets case.when a) k (places_from (suc k) cases a) case.value (value_at cases a) (gap-from (suc k) cases a)

pub gap-of-meeting : {V : Type 0} (cases : List (Case V)) (a : List TxnId) → is_gap (meeting_of (places_met cases a)) ≡ is_none (value_at cases a)
gap-of-meeting cases a = gap-from 0 cases a

-- How many places there are.

length-step : {X : Type 0} (b : Bool) (k : ℕ) (ps : List ℕ) (x : X) (xs : List X) → length ps ≡ length xs
    → length (if b then k ∷ ps else ps) ≡ length (cond b (x ∷ xs) xs)
length-step true k ps x xs same = ap suc same
length-step false k ps x xs same = same

pub length-places : {V : Type 0} (k : ℕ) (cases : List (Case V)) (a : List TxnId)
    → length (places_from k cases a) ≡ length (filter (λ (case : Case V). meets case.when a) cases)
length-places k [] a = refl
length-places k (case ∷ cases) a =
    length-step (meets case.when a) k (places_from (suc k) cases a) case _ (length-places (suc k) cases a)

-- Of a list with no two places, but one, the length is one.
pub one-place : (k : ℕ) (ps : List ℕ) → Up k ps → ((x y : ℕ) → Contains ps x → Contains ps y → x < y → ⊥) → is_gap (meeting_of ps) ≡ false → length ps ≡ 1
one-place k [] up apart some = absurd (true≢false some)
one-place k (p ∷ []) up apart some = refl
one-place k (p ∷ q ∷ ps) (from, (later, up)) apart some =
    absurd (apart p q (Contains-first p (q ∷ ps)) (Contains-behind p (q ∷ ps) q (Contains-first q ps)) (omega (arith, later)))

-- A list of length one has no two places.
pub no-two-places : (k : ℕ) (ps : List ℕ) → Up k ps → length ps ≡ 1 → (x y : ℕ) → Contains ps x → Contains ps y → x < y → ⊥
no-two-places k [] up one x y hx hy less = Contains-nil x hx
no-two-places k (p ∷ []) up one x y hx hy less =
    ⊎_elim
    (λ first. ⊎_elim
    (λ second. omega (arith, first, second, less))
    (λ behind. Contains-nil y behind)
    (Contains-cases p [] y hy))
    (λ behind. Contains-nil x behind)
    (Contains-cases p [] x hx)
no-two-places k (p ∷ q ∷ ps) up one x y hx hy less = absurd (omega (arith, one))

-- A list of length one has a first place.
pub some-place : (ps : List ℕ) → length ps ≡ 1 → is_gap (meeting_of ps) ≡ false
some-place [] one = absurd (omega (arith, one))
some-place (p ∷ ps) one = ap (λ (o : Option ℕ). is_none o) (first-of p ps)
