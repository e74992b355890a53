-- Which cases the assignments of some transactions meet.
use Rattle.std.specs.Prelude.{ℕ, suc, List, [], ◌∷◌, map, Some, None, if◌then◌else◌}
use Rattle.pv_base.specs.declared.txn.TxnId.{TxnId}
use Rattle.pv_base.specs.Assignment.{assignments}
use Rattle.pv_base.specs.Polyvalue.{Case, meets}
use Rattle.pv_cases.specs.declared.meetings.Meeting.{Meeting}

-- the places of the cases that the assignment meets, the first case having this place
abbrev pub places_from : {V : Type 0} → ℕ → List (Case V) → List TxnId → List ℕ
places_from place [] assignment = []
places_from place (case ∷ cases) assignment =
    if meets case.when assignment then place ∷ places_from (suc place) cases assignment else places_from (suc place) cases assignment

-- the places of the cases that the assignment meets
abbrev pub places_met : {V : Type 0} → List (Case V) → List TxnId → List ℕ
places_met cases assignment = places_from 0 cases assignment

-- the first two of these places
abbrev pub meeting_of : List ℕ → Meeting
meeting_of [] = record { first = None; second = None }
meeting_of (place ∷ []) = record { first = Some place; second = None }
meeting_of (place ∷ other ∷ places) = record { first = Some place; second = Some other }

-- the meetings of every assignment of these transactions, in order
abbrev pub meetings_of : {V : Type 0} → List (Case V) → List TxnId → List Meeting
meetings_of cases txns = map (λ assignment. meeting_of (places_met cases assignment)) (assignments txns)
