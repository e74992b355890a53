-- When a call on something outside may answer that it failed.
use Rattle.std.specs.Prelude.{ℕ, ◌+◌, ◌-◌, ◌^◌, ◌≤◌, min, Result, OnErr}

-- A count of calls or of faults, risen by one. It ends at u64's greatest value.
abbrev pub risen : ℕ → ℕ
risen n = min (n + 1) (2 ^ 64 - 1)

-- A count of faults rose. At u64's greatest value it stays, and counts as risen.
abbrev pub Rose : ℕ → ℕ → Type 0
Rose old new = risen old ≤ new

-- An error is answered only where the count of faults rose, and the count never falls.
abbrev pub FaultCounted : {X E : Type 0} → ℕ → ℕ → Result X E → Type 0
FaultCounted old new answer = (old ≤ new) × OnErr answer (Rose old new)
