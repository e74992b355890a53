-- Why a list of cases isn't a polyvalue, or isn't in canonical form.
use Rattle.std.specs.Prelude.{◌≡◌, ℕ, ◌<◌, ◌≤◌, ◌⊎◌, true, false, List, take, length, slice_get, Option, Some, None, is_none}
use Rattle.std.specs.List.{find}
use Rattle.pv_base.specs.declared.faults.CaseError.{CaseError}
use Rattle.pv_base.specs.declared.faults.CaseError.TheVariants.{TooManyOutcomes, NotDisjoint, NotComplete, NotReduced, NoMemory}
use Rattle.pv_base.specs.declared.txn.TxnId.{TxnId}
use Rattle.pv_base.specs.Assignment.{assignments}
use Rattle.pv_base.specs.Polyvalue.{Case, meets, value_at, AreNames, IsCanonical, AreSameEverywhere}

-- what is wrong with a list of cases
pub data CaseFault : Type 0 where
  -- it names so many transactions, which is more than the limit
  too_many : ℕ → CaseFault
  -- one assignment meets the cases at these two places
  overlap : ℕ → ℕ → CaseFault
  -- this assignment meets no case
  gap : List TxnId → CaseFault
  -- the list differs from its canonical form from this place on
  unreduced : ℕ → CaseFault

-- The fault that the error reports, unless it is out of memory.
abbrev pub fault_of : CaseError → Option CaseFault
fault_of (TooManyOutcomes count) = Some (too_many count)
fault_of (NotDisjoint first second) = Some (overlap first second)
fault_of (NotComplete commits) = Some (gap commits.items)
fault_of (NotReduced place) = Some (unreduced place)
fault_of NoMemory = None

module _ {V : Type 0} where
  -- The case at the place is one that the assignment meets.
  pub record IsMetAt (cases : List (Case V)) (assignment : List TxnId) (place : ℕ) : Type 0 where
    pub case : Case V
    pub there : slice_get cases place ≡ Some case
    pub met : meets case.when assignment ≡ true

  -- One assignment meets the cases at both places, of which the first comes first.
  pub record Overlap (cases : List (Case V)) (first second : ℕ) : Type 0 where
    pub ordered : first < second
    pub assignment : List TxnId
    pub first_met : IsMetAt cases assignment first
    pub second_met : IsMetAt cases assignment second

  -- No other two cases that overlap come before these two: the first place decides, and then the second.
  pub record IsFirstOverlap (cases : List (Case V)) (first second : ℕ) : Type 0 where
    pub overlaps : Overlap cases first second
    pub least : (other another : ℕ) → Overlap cases other another → (first < other) ⊎ ((first ≡ other) × (second ≤ another))

  -- No assignment meets two cases.
  abbrev pub AreDisjoint : List (Case V) → Type 0
  AreDisjoint cases = (first second : ℕ) → Overlap cases first second → ⊥

  -- Of the assignments of these transactions, this one is the first that meets no case.
  abbrev pub IsFirstGap : List (Case V) → List TxnId → List TxnId → Type 0
  IsFirstGap cases txns assignment = find (λ candidate. is_none (value_at cases candidate)) (assignments txns) ≡ Some assignment

  -- Every assignment meets some case.
  abbrev pub AreComplete : List (Case V) → Type 0
  AreComplete cases = (assignment : List TxnId) → is_none (value_at cases assignment) ≡ false

  -- The lists are equal before the place, and differ there.
  pub record DifferFrom (cases others : List (Case V)) (place : ℕ) : Type 0 where
    pub equal : take place cases ≡ take place others
    pub differ : slice_get cases place ≡ slice_get others place → ⊥

  -- The first thing that is wrong with the cases, where they may stand in any order and needn't be reduced.
  pub data IsJoinFault (limit : ℕ) (cases : List (Case V)) : CaseFault → Type 0 where
    names_too_many : (txns : List TxnId) → AreNames cases txns → limit < length txns → IsJoinFault limit cases (too_many (length txns))
    are_not_disjoint : (txns : List TxnId) → AreNames cases txns → length txns ≤ limit
        → (first second : ℕ) → IsFirstOverlap cases first second → IsJoinFault limit cases (overlap first second)
    are_not_complete : (txns : List TxnId) → AreNames cases txns → length txns ≤ limit → AreDisjoint cases
        → (assignment : List TxnId) → IsFirstGap cases txns assignment → IsJoinFault limit cases (gap assignment)

  -- The first thing that is wrong with the cases, where they have to be in canonical form.
  pub data IsCanonicalFault (limit : ℕ) (cases : List (Case V)) : CaseFault → Type 0 where
    are_no_polyvalue : (fault : CaseFault) → IsJoinFault limit cases fault → IsCanonicalFault limit cases fault
    is_not_reduced : (txns : List TxnId) → AreNames cases txns → length txns ≤ limit → AreDisjoint cases → AreComplete cases
        → (canonical : List (Case V)) → IsCanonical canonical → AreSameEverywhere canonical cases
        → (place : ℕ) → DifferFrom cases canonical place → IsCanonicalFault limit cases (unreduced place)
