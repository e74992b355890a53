-- Cases in any order are a polyvalue, or have a fault; and cases are canonical, or have one.
use Rattle.std.proofs.Common.{◌≡◌, ◌⊎◌, ⊎_elim, ℕ, zero, suc, ◌≤◌, Bool, true, false, List, [], ◌∷◌, length, Option, Some, None, cond, inl, inr, refl, sym, ap, ap₂, subst, ◌∙◌, arith}
use Rattle.std.specs.Prelude.{is_none}
use Rattle.std.specs.List.{Contains, find}
use Rattle.std.proofs.lemmas.Option.{none-some}
use Rattle.std.proofs.lemmas.Bool.{cases_lt, true≢false}
use Rattle.pv_base.specs.declared.txn.TxnId.{TxnId}
use Rattle.pv_base.specs.Assignment.{assignments}
use Rattle.pv_base.specs.Polyvalue.{Case, value_at, AreNames, AreSameEverywhere, NamesAtMost, IsCanonical, IsSound, IsPolyvalue}
use Rattle.pv_base.specs.CaseFaults.{CaseFault, too_many, overlap, gap, unreduced, AreComplete, DifferFrom, IsJoinFault, names_too_many, are_not_disjoint, are_not_complete, IsCanonicalFault, are_no_polyvalue, is_not_reduced}
use Rattle.pv_base.proofs.Basics.{Some_inj, heads}
use Rattle.pv_base.proofs.ContainsLemmas.{Contains-first, Contains-behind, Contains-nil, Contains-cases}
use Rattle.pv_law_polyvalues.proofs.PolyvalueLemmas.{value_at-agree, canonical-sound}
use Rattle.pv_law_polyvalues.proofs.NameLemmas.{some-names, NamesAtMost-from}
use Rattle.pv_law_polyvalues.proofs.TableLemmas.{chosen-is-assignment, value_at-chosen}
use Rattle.pv_base.specs.Canonical.{IsExact}
use Rattle.pv_law_polyvalues.proofs.ExistenceLemmas.{cases-equal, some-polyvalue}
use Rattle.pv_cases.specs.declared.meetings.Meeting.{Meeting}
use Rattle.pv_cases.specs.Meetings.{meetings_of}
use Rattle.pv_cases.specs.Joining.{IsPairBefore, HasNoPair, IsLeastPair}
use Rattle.pv_cases.proofs.MeetingLemmas.{pair}
use Rattle.pv_cases.proofs.OverlapLemmas.{before-trans, chosen, least-is-first-overlap, no-pair-disjoint}
use Rattle.pv_cases.proofs.GapLemmas.{disjoint-complete-sound, sound-disjoint, sound-complete}
use Rattle.pv_cases.proofs.CaseFaultLemmas.{no-case-fault}
use Rattle.pv_cases.proofs.CanonicalFaultLemmas.{canonical-fault}

-- Meetings have a least pair, or none.

not-behind : (p q x y : ℕ) → IsPairBefore p q x y ⊎ IsPairBefore x y p q
not-behind p q x y =
    ⊎_elim
    (λ less. inl (inl less))
    (λ no-less. ⊎_elim
    (λ more. inr (inl more))
    (λ no-more. let same : p ≡ x = omega (arith, no-less, no-more) in
    ⊎_elim (λ less. inl (inr (same, omega (arith, less)))) (λ behind. inr (inr (sym same, behind))) (cases_lt q y))
    (cases_lt x p))
    (cases_lt p x)

abbrev SomeLeast : List Meeting → Type 0
SomeLeast meetings = HasNoPair meetings ⊎ ((first second : ℕ) × IsLeastPair meetings first second)

-- The first meeting has no pair.
passed-over : (meeting : Meeting) (meetings : List Meeting) → ((x y : ℕ) → meeting ≡ pair x y → ⊥) → SomeLeast meetings → SomeLeast (meeting ∷ meetings)
passed-over meeting meetings no-pair (inl none) =
    inl (λ x y h. ⊎_elim (no-pair x y) (none x y) (Contains-cases meeting meetings (pair x y) h))
passed-over meeting meetings no-pair (inr (p, q, is)) =
    inr (
      p,
      q,
      record {
        found = Contains-behind meeting meetings (pair p q) is.found;
        least = λ x y h. ⊎_elim (λ same. absurd (no-pair x y same)) (is.least x y) (Contains-cases meeting meetings (pair x y) h);
      },
    )

same-places : (p q x y : ℕ) → pair p q ≡ pair x y → IsPairBefore p q x y
same-places p q x y same =
    let firsts : p ≡ x = Some_inj (ap (λ (m : Meeting). m.first) same) in
    let seconds : q ≡ y = Some_inj (ap (λ (m : Meeting). m.second) same) in
    inr (firsts, omega (arith, seconds))

-- The pair of the first meeting doesn't come after those of the others.
in-front : (p q : ℕ) (meetings : List Meeting) → ((x y : ℕ) → Contains meetings (pair x y) → IsPairBefore p q x y) → IsLeastPair (pair p q ∷ meetings) p q
in-front p q meetings before = record {
  found = Contains-first (pair p q) meetings;
  least = λ x y h. ⊎_elim (same-places p q x y) (before x y) (Contains-cases (pair p q) meetings (pair x y) h);
}

-- The least pair of the others is before that of the first meeting.
behind-front : (p q x y : ℕ) (meetings : List Meeting) → IsPairBefore x y p q → IsLeastPair meetings x y → IsLeastPair (pair p q ∷ meetings) x y
behind-front p q x y meetings before is = record {
  found = Contains-behind (pair p q) meetings (pair x y) is.found;
  least = λ u v h. ⊎_elim
      (λ same. before-trans x y p q u v before (same-places p q u v same))
      (is.least u v)
      (Contains-cases (pair p q) meetings (pair u v) h);
}

with-pair : (p q : ℕ) (meetings : List Meeting) → SomeLeast meetings → SomeLeast (pair p q ∷ meetings)
with-pair p q meetings (inl none) = inr (p, q, in-front p q meetings (λ x y h. absurd (none x y h)))
with-pair p q meetings (inr (x, y, is)) =
    ⊎_elim
    (λ before. inr (p, q, in-front p q meetings (λ u v h. before-trans p q x y u v before (is.least u v h))))
    (λ before. inr (x, y, behind-front p q x y meetings before is))
    (not-behind p q x y)

one-meeting-more : (first second : Option ℕ) (meetings : List Meeting) → SomeLeast meetings → SomeLeast (record { first = first; second = second } ∷ meetings)
one-meeting-more None second meetings found =
    passed-over (record { first = None; second = second }) meetings (λ x y same. none-some _ (ap (λ (m : Meeting). m.first) same)) found
one-meeting-more (Some p) None meetings found =
    passed-over (record { first = Some p; second = None }) meetings (λ x y same. none-some _ (ap (λ (m : Meeting). m.second) same)) found
one-meeting-more (Some p) (Some q) meetings found = with-pair p q meetings found

some-least : (meetings : List Meeting) → SomeLeast meetings
some-least [] = inl (λ x y h. Contains-nil (pair x y) h)
some-least (meeting ∷ meetings) = one-meeting-more meeting.first meeting.second meetings (some-least meetings)

-- Some assignment is the first gap, or there is none.

not-first : {X : Type 0} (b : Bool) (y : X) (rest : Option X) → cond b (Some y) rest ≡ None → (b ≡ false) × (rest ≡ None)
not-first true y rest none = absurd (none-some _ (sym none))
not-first false y rest none = (refl, none)

-- Where nothing is found, no element passes.
nothing-found : {X : Type 0} (p : X → Bool) (xs : List X) → find p xs ≡ None → (x : X) → Contains xs x → p x ≡ false
nothing-found p [] none x h = absurd (Contains-nil x h)
nothing-found p (y ∷ ys) none x h =
    let parts = not-first (p y) y (find p ys) none in
    ⊎_elim (λ same. subst (λ z. p z ≡ false) same parts.0) (nothing-found p ys parts.1 x) (Contains-cases y ys x h)

some-or-none : {X : Type 0} (o : Option X) → ((x : X) × (o ≡ Some x)) ⊎ (o ≡ None)
some-or-none None = inr refl
some-or-none (Some x) = inl (x, refl)

-- What is there has a value.
known : {X : Type 0} (o : Option X) → is_none o ≡ false → (x : X) × (o ≡ Some x)
known None there = absurd (true≢false there)
known (Some x) there = (x, refl)

module _ {V : Type 0} where
  complete-where-found : (cases : List (Case V)) (txns : List TxnId) → AreNames cases txns
      → find (λ candidate. is_none (value_at cases candidate)) (assignments txns) ≡ None → AreComplete cases
  complete-where-found cases txns are none a =
      ap (λ (o : Option V). is_none o) (sym (value_at-chosen cases txns are.whole a))
      ∙ nothing-found (λ candidate. is_none (value_at cases candidate)) (assignments txns) none (chosen txns a) (chosen-is-assignment a txns)

  -- what cases in any order are
  abbrev Joins : ℕ → List (Case V) → Type 0
  Joins limit cases = (IsSound cases × NamesAtMost limit cases) ⊎ ((fault : CaseFault) × IsJoinFault limit cases fault)

  module _ (limit : ℕ) (cases : List (Case V)) where
    with-few : (txns : List TxnId) → AreNames cases txns → length txns ≤ limit → Joins limit cases
    with-few txns are few =
        ⊎_elim
        (λ none.
        let apart = no-pair-disjoint cases txns are none in
        ⊎_elim
        (λ first. inr (gap first.0, are_not_complete txns are few apart first.0 first.1))
        (λ nothing. inl (disjoint-complete-sound cases apart (complete-where-found cases txns are nothing), NamesAtMost-from limit cases txns are few))
        (some-or-none (find (λ candidate. is_none (value_at cases candidate)) (assignments txns))))
        (λ least. inr (overlap least.0 least.1, are_not_disjoint txns are few least.0 least.1 (least-is-first-overlap cases txns are least.0 least.1 least.2)))
        (some-least (meetings_of cases txns))

    pub some-join-fault : Joins limit cases
    some-join-fault =
        let listed = some-names cases in
        ⊎_elim
        (λ more. inr (too_many (length listed.0), names_too_many listed.0 listed.1 more))
        (λ few. with-few listed.0 listed.1 few)
        (cases_lt limit (length listed.0))

    pub no-join-fault : (fault : CaseFault) → IsSound cases → NamesAtMost limit cases → IsJoinFault limit cases fault → ⊥
    no-join-fault fault sound few is =
        let listed = some-names cases in
        no-case-fault limit cases listed.0 listed.1 (few listed.0 listed.1) (sound-disjoint cases sound) (sound-complete cases sound) fault is

    pub no-canonical-fault : (fault : CaseFault) → IsPolyvalue limit cases → IsCanonicalFault limit cases fault → ⊥
    no-canonical-fault fault is wrong =
        canonical-fault limit cases (λ other found. no-join-fault other (canonical-sound cases is.canonical) is.few found) is.canonical fault wrong

-- Lists are equal, or there is a first place where they differ.

module _ {V : Type 0} {same : V → V → Bool} (laws : IsExact same) where
  -- Equality of two cases is decided, as that of lists of one.
  case-equal : (case other : Case V) → (case ≡ other) ⊎ (case ≡ other → ⊥)
  case-equal case other =
      ⊎_elim (λ alike. inl (heads alike)) (λ apart. inr (λ e. apart (ap (λ (z : Case V). z ∷ []) e))) (cases-equal laws (case ∷ []) (other ∷ []))

  one-place-more : (case other : Case V) (cases others : List (Case V)) → case ≡ other → (place : ℕ) → DifferFrom cases others place
      → DifferFrom (case ∷ cases) (other ∷ others) (suc place)
  one-place-more case other cases others alike place d = record {
    equal = ap₂ (λ (z : Case V) (zs : List (Case V)). z ∷ zs) alike d.equal;
    differ = d.differ;
  }

  some-difference : (cases others : List (Case V)) → (cases ≡ others) ⊎ ((place : ℕ) × DifferFrom cases others place)
  some-difference [] [] = inl refl
  some-difference [] (other ∷ others) = inr (zero, record { equal = refl; differ = λ e. none-some _ e })
  some-difference (case ∷ cases) [] = inr (zero, record { equal = refl; differ = λ e. none-some _ (sym e) })
  some-difference (case ∷ cases) (other ∷ others) =
      ⊎_elim
      (λ alike. ⊎_elim
      (λ rest. inl (ap₂ (λ (z : Case V) (zs : List (Case V)). z ∷ zs) alike rest))
      (λ d. inr (suc d.0, one-place-more case other cases others alike d.0 d.1))
      (some-difference cases others))
      (λ apart. inr (zero, record { equal = refl; differ = λ e. apart (Some_inj e) }))
      (case-equal case other)

  -- Sound cases have canonical ones with the same values.
  pub some-canonical : (cases : List (Case V)) → IsSound cases → (canonical : List (Case V)) × (IsCanonical canonical × AreSameEverywhere canonical cases)
  some-canonical cases sound =
      let listed = some-names cases in
      let whole = sound-complete cases sound in
      let value : (a : List TxnId) → (v : V) × (value_at cases a ≡ Some v) = λ a. known (value_at cases a) (whole a) in
      let found = some-polyvalue laws (λ a. (value a).0) listed.0 (λ a b alike.
      Some_inj (sym (value a).1 ∙ value_at-agree cases a b (λ u named. alike u (listed.1.whole u named)) ∙ (value b).1)) in
      (found.0, (found.1.0, λ a. found.1.1 a ∙ sym (value a).1))

  module _ (limit : ℕ) (cases : List (Case V)) where
    -- Sound cases with few names are canonical, or differ from the canonical ones at some first place.
    sound-canonical : IsSound cases → NamesAtMost limit cases → IsPolyvalue limit cases ⊎ ((fault : CaseFault) × IsCanonicalFault limit cases fault)
    sound-canonical sound few =
        let listed = some-names cases in
        let found = some-canonical cases sound in
        ⊎_elim
        (λ same. inl (record { canonical = subst (λ (cs : List (Case V)). IsCanonical cs) (sym same) found.1.0; few = few }))
        (λ d. inr (
          unreduced d.0,
          is_not_reduced listed.0 listed.1 (few listed.0 listed.1) (sound-disjoint cases sound) (sound-complete cases sound)
              found.0 found.1.0 found.1.1 d.0 d.1,
        ))
        (some-difference cases found.0)

    pub some-canonical-fault : IsPolyvalue limit cases ⊎ ((fault : CaseFault) × IsCanonicalFault limit cases fault)
    some-canonical-fault =
        ⊎_elim
        (λ are. sound-canonical are.0 are.1)
        (λ wrong. inr (wrong.0, are_no_polyvalue wrong.0 wrong.1))
        (some-join-fault limit cases)
