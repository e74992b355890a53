-- What is found in the meetings of all assignments.
use Rattle.std.specs.Prelude.{◌≡◌, ◌<◌, ◌≤◌, ◌⊎◌, ℕ, Bool, List, Option, Some, is_none, option_and_then, option_map, slice_get}
use Rattle.std.specs.List.{Contains}
use Rattle.pv_base.specs.Polyvalue.{Case}
use Rattle.pv_cases.specs.declared.meetings.Meeting.{Meeting}

-- The first pair of places comes before the other, or is the same: the first place decides, and then the second.
abbrev pub IsPairBefore : ℕ → ℕ → ℕ → ℕ → Type 0
IsPairBefore first second other another = (first < other) ⊎ ((first ≡ other) × (second ≤ another))

-- No meeting has two places.
abbrev pub HasNoPair : List Meeting → Type 0
HasNoPair meetings = (first second : ℕ) → Contains meetings (record { first = Some first; second = Some second }) → ⊥

-- These are the places of a meeting, and no other meeting has places before them.
pub record IsLeastPair (meetings : List Meeting) (first second : ℕ) : Type 0 where
  pub found : Contains meetings (record { first = Some first; second = Some second })
  pub least : (other another : ℕ) → Contains meetings (record { first = Some other; second = Some another }) → IsPairBefore first second other another

-- The meeting has no case.
abbrev pub is_gap : Meeting → Bool
is_gap meeting = is_none meeting.first

-- the value of the first case of the meeting
abbrev pub value_met : {V : Type 0} → List (Case V) → Meeting → Option V
value_met cases meeting = option_and_then (λ place. option_map (λ case. case.value) (slice_get cases place)) meeting.first
