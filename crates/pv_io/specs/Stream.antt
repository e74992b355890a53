-- What is known of the bytes that a source has left and of those that a sink holds.
use Rattle.std.specs.Prelude.{◌≡◌, ℕ, List, Option, None, Some, Result, is_some, is_ok, take, if◌then◌else◌, ◌≤◌, length}
use Rattle.pv_base.specs.Fault.{risen}
use Rattle.std.specs.Io.KnownBytes.{Appends, Consumes}

-- Whether the bytes are known is fixed.
abbrev pub KnownAlike : Option (List ℕ) → Option (List ℕ) → Type 0
KnownAlike old new = is_some new ≡ is_some old

-- Known bytes grow by a beginning of bs.
abbrev pub AppendsPrefix : Option (List ℕ) → Option (List ℕ) → List ℕ → Type 0
AppendsPrefix old new bs = (n : ℕ) × Appends old new (take n bs)

-- Known bytes lose some at their front, no more than n of them.
abbrev pub TakesAtMost : Option (List ℕ) → Option (List ℕ) → ℕ → Type 0
TakesAtMost old new n = (bs : List ℕ) × Consumes old new bs × (length bs ≤ n)

-- The bytes that are known now, where there were known ones at first.
abbrev pub known_since : Option (List ℕ) → Option (List ℕ) → Option (List ℕ)
known_since None now = None
known_since (Some first) now = now

-- A count of faults rises by one with each call that fails, and with no other.
abbrev pub CountsFaults : {X E : Type 0} → ℕ → ℕ → Result X E → Type 0
CountsFaults old new answer = new ≡ (if is_ok answer then old else risen old)
