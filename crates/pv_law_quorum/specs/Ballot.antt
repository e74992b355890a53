-- Ballots, and majorities of deciders. The protocol is the single decree of Lamport (1998, The Part-Time Parliament; 2001, Paxos Made
-- Simple): several deciders fix one value, here for each transaction whether it commits.
use Rattle.std.specs.Prelude.{ℕ, zero, suc, ◌+◌, ◌*◌, Bool, true, false, Option, Some, None, ◌&&◌, ◌==◌, nat_lt, if◌then◌else◌}

-- A ballot is a number and the decider, a byte, that made it.
pub record Ballot : Type 0 where
  pub number : ℕ
  pub decider : ℕ

-- Ballots are ordered by number, then by decider.
abbrev pub rank : Ballot → ℕ
rank ballot = 256 * ballot.number + ballot.decider

-- The one ballot is below the other.
abbrev pub is_below : Ballot → Ballot → Bool
is_below ballot other = nat_lt (rank ballot) (rank other)

-- Both are the same ballot.
abbrev pub is_same_ballot : Ballot → Ballot → Bool
is_same_ballot ballot other = ballot.number == other.number && ballot.decider == other.decider

-- The ballot is below this one, if there is one.
abbrev pub is_passed : Ballot → Option Ballot → Bool
is_passed ballot None = false
is_passed ballot (Some other) = is_below ballot other

-- The ballot is above this one, if there is one.
abbrev pub is_above : Ballot → Option Ballot → Bool
is_above ballot None = true
is_above ballot (Some other) = is_below other ballot

-- the one with the greater ballot; of two with the same ballot the first
abbrev pub greater : {X : Type 0} → (X → Ballot) → Option X → Option X → Option X
greater ballot_of None other = other
greater ballot_of (Some one) None = Some one
greater ballot_of (Some one) (Some other) = if is_below (ballot_of one) (ballot_of other) then Some other else Some one

-- how many of the deciders below this number pass the test
abbrev pub number_of : (ℕ → Bool) → ℕ → ℕ
number_of test zero = 0
number_of test (suc n) = (if test n then 1 else 0) + number_of test n

-- More than half of so many deciders pass the test.
abbrev pub is_majority : ℕ → (ℕ → Bool) → Bool
is_majority deciders test = nat_lt deciders (2 * number_of test deciders)
