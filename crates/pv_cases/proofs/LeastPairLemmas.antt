-- The least pair of places in meetings, found one meeting after another.
use Rattle.std.proofs.Common.{◌≡◌, ⊎_elim, ℕ, ◌+◌, ◌<◌, List, [], ◌∷◌, ◌++◌, length, get_or, take, Option, Some, None, MatchOption, inr, sym, ap, subst, ◌∙◌, arith}
use Rattle.std.specs.Option.{option_zip}
use Rattle.std.specs.List.{Contains}
use Rattle.std.proofs.lemmas.Option.{none-some}
use Rattle.std.proofs.lemmas.List.{take_more}
use Rattle.std.proofs.lemmas.List.Elements.{Contains-append_left, Contains-push, Contains-push_cases}
use Rattle.pv_base.proofs.Basics.{Some_inj}
use Rattle.pv_cases.specs.declared.meetings.Meeting.{Meeting}
use Rattle.pv_cases.specs.Joining.{IsPairBefore, HasNoPair, IsLeastPair}
use Rattle.pv_cases.proofs.MeetingLemmas.{pair}
use Rattle.pv_cases.proofs.OverlapLemmas.{before-trans}

-- what holds of the least pair so far
abbrev pub IsLeastOf : List Meeting → Option (ℕ × ℕ) → Type 0
IsLeastOf done least = MatchOption least (HasNoPair done) (λ best. IsLeastPair done best.0 best.1)

zip-by : (first second : Option ℕ) (best : ℕ × ℕ) → option_zip first second ≡ Some best → record { first = first; second = second } ≡ pair best.0 best.1
zip-by None second best is = absurd (none-some _ is)
zip-by (Some x) None best is = absurd (none-some _ is)
zip-by (Some x) (Some y) best is = ap (λ (p : ℕ × ℕ). pair p.0 p.1) (Some_inj is)

zip-pair : (meeting : Meeting) (best : ℕ × ℕ) → option_zip meeting.first meeting.second ≡ Some best → meeting ≡ pair best.0 best.1
zip-pair meeting best is = zip-by meeting.first meeting.second best is

zip-of-pair : (meeting : Meeting) (x y : ℕ) → meeting ≡ pair x y → option_zip meeting.first meeting.second ≡ Some (x, y)
zip-of-pair meeting x y is = ap (λ (m : Meeting). option_zip m.first m.second) is

pushed-none : (done : List Meeting) (meeting : Meeting) (least : Option (ℕ × ℕ)) → option_zip meeting.first meeting.second ≡ None
    → IsLeastOf done least → IsLeastOf (done ++ meeting ∷ []) least
pushed-none done meeting None zip so-far = λ x y h.
    ⊎_elim (λ old. so-far x y old) (λ same. none-some _ (sym zip ∙ zip-of-pair meeting x y same)) (Contains-push_cases done meeting (pair x y) h)
pushed-none done meeting (Some best) zip so-far = record {
  found = Contains-append_left done (meeting ∷ []) (pair best.0 best.1) so-far.found;
  least = λ x y h. ⊎_elim
      (λ old. so-far.least x y old)
      (λ same. absurd (none-some _ (sym zip ∙ zip-of-pair meeting x y same)))
      (Contains-push_cases done meeting (pair x y) h);
}

-- Where the meeting has a pair, each pair that it is equal to is this one.
this-pair : (meeting : Meeting) (best : ℕ × ℕ) (x y : ℕ) → option_zip meeting.first meeting.second ≡ Some best → meeting ≡ pair x y → best ≡ (x, y)
this-pair meeting best x y zip same = Some_inj (sym zip ∙ zip-of-pair meeting x y same)

pushed-kept : (done : List Meeting) (meeting : Meeting) (best other : ℕ × ℕ) → option_zip meeting.first meeting.second ≡ Some other
    → IsPairBefore best.0 best.1 other.0 other.1 → IsLeastPair done best.0 best.1 → IsLeastPair (done ++ meeting ∷ []) best.0 best.1
pushed-kept done meeting best other zip before so-far = record {
  found = Contains-append_left done (meeting ∷ []) (pair best.0 best.1) so-far.found;
  least = λ x y h. ⊎_elim
      (λ old. so-far.least x y old)
      (λ same. subst (λ (p : ℕ × ℕ). IsPairBefore best.0 best.1 p.0 p.1) (this-pair meeting other x y zip same) before)
      (Contains-push_cases done meeting (pair x y) h);
}

pushed-found : (done : List Meeting) (meeting : Meeting) (best : ℕ × ℕ) → option_zip meeting.first meeting.second ≡ Some best
    → Contains (done ++ meeting ∷ []) (pair best.0 best.1)
pushed-found done meeting best zip = subst (Contains (done ++ meeting ∷ [])) (zip-pair meeting best zip) (Contains-push done meeting)

itself : (best : ℕ × ℕ) (x y : ℕ) → best ≡ (x, y) → IsPairBefore best.0 best.1 x y
itself best x y same = inr (ap (λ (z : ℕ × ℕ). z.0) same, omega (arith, ap (λ (z : ℕ × ℕ). z.1) same))

pushed-first : (done : List Meeting) (meeting : Meeting) (best : ℕ × ℕ) → option_zip meeting.first meeting.second ≡ Some best
    → HasNoPair done → IsLeastPair (done ++ meeting ∷ []) best.0 best.1
pushed-first done meeting best zip none = record {
  found = pushed-found done meeting best zip;
  least = λ x y h. ⊎_elim
      (λ old. absurd (none x y old))
      (λ same. itself best x y (this-pair meeting best x y zip same))
      (Contains-push_cases done meeting (pair x y) h);
}

pushed-less : (done : List Meeting) (meeting : Meeting) (best other : ℕ × ℕ) → option_zip meeting.first meeting.second ≡ Some other
    → IsPairBefore other.0 other.1 best.0 best.1 → IsLeastPair done best.0 best.1 → IsLeastPair (done ++ meeting ∷ []) other.0 other.1
pushed-less done meeting best other zip before so-far = record {
  found = pushed-found done meeting other zip;
  least = λ x y h. ⊎_elim
      (λ old. before-trans other.0 other.1 best.0 best.1 x y before (so-far.least x y old))
      (λ same. itself other x y (this-pair meeting other x y zip same))
      (Contains-push_cases done meeting (pair x y) h);
}

-- The same for the front part of a list that is one longer.

more : (meetings : List Meeting) (i : ℕ) (d : Meeting) (least : Option (ℕ × ℕ)) → i < length meetings
    → IsLeastOf (take i meetings ++ get_or meetings i d ∷ []) least → IsLeastOf (take (i + 1) meetings) least
more meetings i d least within is = subst (λ (ms : List Meeting). IsLeastOf ms least) (sym (take_more meetings i d within)) is

pub more-none : (meetings : List Meeting) (i : ℕ) (d : Meeting) (least next : Option (ℕ × ℕ)) → i < length meetings
    → option_zip (get_or meetings i d).first (get_or meetings i d).second ≡ None → next ≡ least
    → IsLeastOf (take i meetings) least → IsLeastOf (take (i + 1) meetings) next
more-none meetings i d least next within zip is so-far =
    subst (IsLeastOf (take (i + 1) meetings)) (sym is)
    (more meetings i d least within (pushed-none (take i meetings) (get_or meetings i d) least zip so-far))

pub more-first : (meetings : List Meeting) (i : ℕ) (d : Meeting) (least next : Option (ℕ × ℕ)) (best : ℕ × ℕ) → i < length meetings
    → option_zip (get_or meetings i d).first (get_or meetings i d).second ≡ Some best → least ≡ None → next ≡ Some best
    → IsLeastOf (take i meetings) least → IsLeastOf (take (i + 1) meetings) next
more-first meetings i d least next best within zip was is so-far =
    subst (IsLeastOf (take (i + 1) meetings)) (sym is)
    (more meetings i d (Some best) within
    (pushed-first (take i meetings) (get_or meetings i d) best zip (subst (IsLeastOf (take i meetings)) was so-far)))

pub more-kept : (meetings : List Meeting) (i : ℕ) (d : Meeting) (least next : Option (ℕ × ℕ)) (best other : ℕ × ℕ) → i < length meetings
    → option_zip (get_or meetings i d).first (get_or meetings i d).second ≡ Some other → least ≡ Some best → next ≡ Some best
    → IsPairBefore best.0 best.1 other.0 other.1
    → IsLeastOf (take i meetings) least → IsLeastOf (take (i + 1) meetings) next
more-kept meetings i d least next best other within zip was is before so-far =
    subst (IsLeastOf (take (i + 1) meetings)) (sym is)
    (more meetings i d (Some best) within
    (pushed-kept (take i meetings) (get_or meetings i d) best other zip before (subst (IsLeastOf (take i meetings)) was so-far)))

pub more-less : (meetings : List Meeting) (i : ℕ) (d : Meeting) (least next : Option (ℕ × ℕ)) (best other : ℕ × ℕ) → i < length meetings
    → option_zip (get_or meetings i d).first (get_or meetings i d).second ≡ Some other → least ≡ Some best → next ≡ Some other
    → IsPairBefore other.0 other.1 best.0 best.1
    → IsLeastOf (take i meetings) least → IsLeastOf (take (i + 1) meetings) next
more-less meetings i d least next best other within zip was is before so-far =
    subst (IsLeastOf (take (i + 1) meetings)) (sym is)
    (more meetings i d (Some other) within
    (pushed-less (take i meetings) (get_or meetings i d) best other zip before (subst (IsLeastOf (take i meetings)) was so-far)))
