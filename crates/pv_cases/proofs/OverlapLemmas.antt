-- Overlaps of cases show in the meetings of the assignments of their names.
use Rattle.std.proofs.Common.{◌≡◌, ℕ, List, inl, inr, subst, ◌∙◌, filter, arith}
use Rattle.std.specs.List.{Contains}
use Rattle.pv_base.specs.declared.txn.TxnId.{TxnId}
use Rattle.pv_base.specs.Assignment.{commits, assignments}
use Rattle.pv_base.specs.Polyvalue.{Case, AreNames}
use Rattle.pv_base.specs.CaseFaults.{Overlap, IsFirstOverlap, AreDisjoint}
use Rattle.pv_base.proofs.MapLemmas.{Contains-map, Contains-unmap}
use Rattle.pv_law_polyvalues.proofs.TableLemmas.{chosen-is-assignment, chosen-agrees}
use Rattle.pv_cases.specs.Meetings.{places_met, meeting_of, meetings_of}
use Rattle.pv_cases.specs.Joining.{IsPairBefore, HasNoPair, IsLeastPair}
use Rattle.pv_cases.proofs.MeetingLemmas.{pair, places-up, places-agree, placed, met-at, pair-places, two-places}

-- The order of pairs.

pub before-trans : (p q r s x y : ℕ) → IsPairBefore p q r s → IsPairBefore r s x y → IsPairBefore p q x y
before-trans p q r s x y (inl less) (inl more) = inl (omega (arith, less, more))
before-trans p q r s x y (inl less) (inr (same, more)) = inl (omega (arith, less, same))
before-trans p q r s x y (inr (same, less)) (inl more) = inl (omega (arith, same, more))
before-trans p q r s x y (inr (same, less)) (inr (alike, more)) = inr (same ∙ alike, omega (arith, less, more))

same-pair : (p q x y : ℕ) → IsPairBefore p q x y → IsPairBefore x y p q → (p ≡ x) × (q ≡ y)
same-pair p q x y (inl less) (inl more) = absurd (omega (arith, less, more))
same-pair p q x y (inl less) (inr (same, more)) = absurd (omega (arith, less, same))
same-pair p q x y (inr (same, less)) (inl more) = absurd (omega (arith, same, more))
same-pair p q x y (inr (same, less)) (inr (alike, more)) = (same, omega (arith, less, more))

-- the assignment of these transactions that agrees with the other on them
abbrev pub chosen : List TxnId → List TxnId → List TxnId
chosen txns a = filter (λ t. commits a t) txns

module _ {V : Type 0} where
  chosen-places : (cases : List (Case V)) (txns : List TxnId) → AreNames cases txns → (a : List TxnId)
      → places_met cases (chosen txns a) ≡ places_met cases a
  chosen-places cases txns are a = places-agree 0 cases (chosen txns a) a (λ t named. chosen-agrees a txns t (are.whole t named))

  -- The meeting of any assignment is one of those of the assignments of the names.
  pub meeting-shows : (cases : List (Case V)) (txns : List TxnId) → AreNames cases txns → (a : List TxnId)
      → Contains (meetings_of cases txns) (meeting_of (places_met cases a))
  meeting-shows cases txns are a =
      subst (λ ps. Contains (meetings_of cases txns) (meeting_of ps)) (chosen-places cases txns are a)
      (Contains-map (λ a. meeting_of (places_met cases a)) (assignments txns) (chosen txns a) (chosen-is-assignment a txns))

  -- Each of the meetings is that of some assignment.
  pub meeting-comes : (cases : List (Case V)) (txns : List TxnId) → (meeting : _) → Contains (meetings_of cases txns) meeting
      → (a : List TxnId) × (Contains (assignments txns) a × (meeting_of (places_met cases a) ≡ meeting))
  meeting-comes cases txns meeting h = Contains-unmap (λ a. meeting_of (places_met cases a)) (assignments txns) meeting h

  -- A pair of places in the meetings overlaps.
  pub pair-overlaps : (cases : List (Case V)) (txns : List TxnId) (p q : ℕ) → Contains (meetings_of cases txns) (pair p q) → Overlap cases p q
  pair-overlaps cases txns p q h =
      let comes = meeting-comes cases txns (pair p q) h in
      let two = pair-places 0 (places_met cases comes.0) p q (places-up 0 cases comes.0) comes.1.1 in
      record {
        ordered = two.ordered;
        assignment = comes.0;
        first_met = met-at cases comes.0 p two.first;
        second_met = met-at cases comes.0 q two.second;
      }

  -- Each overlap shows in the meetings by a pair that doesn't come after it.
  pub overlap-shows : (cases : List (Case V)) (txns : List TxnId) → AreNames cases txns → (x y : ℕ) → Overlap cases x y
      → (p q : ℕ) × (Contains (meetings_of cases txns) (pair p q) × IsPairBefore p q x y)
  overlap-shows cases txns are x y o =
      let two = two-places 0 (places_met cases o.assignment) (places-up 0 cases o.assignment) x y
      (placed cases o.assignment x o.first_met) (placed cases o.assignment y o.second_met) o.ordered in (
        two.0,
        two.1,
        (
          subst (Contains (meetings_of cases txns)) two.2.0 (meeting-shows cases txns are o.assignment),
          two.2.1,
        ),
      )

  pub least-is-first-overlap : (cases : List (Case V)) (txns : List TxnId) → AreNames cases txns → (p q : ℕ) → IsLeastPair (meetings_of cases txns) p q
      → IsFirstOverlap cases p q
  least-is-first-overlap cases txns are p q least = record {
    overlaps = pair-overlaps cases txns p q least.found;
    least = λ x y o.
        let shows = overlap-shows cases txns are x y o in
        before-trans p q shows.0 shows.1 x y (least.least shows.0 shows.1 shows.2.0) shows.2.1;
  }

  pub no-pair-disjoint : (cases : List (Case V)) (txns : List TxnId) → AreNames cases txns → HasNoPair (meetings_of cases txns) → AreDisjoint cases
  no-pair-disjoint cases txns are none x y o =
      let shows = overlap-shows cases txns are x y o in none shows.0 shows.1 shows.2.0

  pub one-first-overlap : (cases : List (Case V)) (p q x y : ℕ) → IsFirstOverlap cases p q → IsFirstOverlap cases x y → (p ≡ x) × (q ≡ y)
  one-first-overlap cases p q x y is other =
      same-pair p q x y (is.least x y other.overlaps) (other.least p q is.overlaps)
