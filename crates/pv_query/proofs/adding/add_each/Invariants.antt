-- The places so far have their number added, and the others are as they were.
use Rattle.std.proofs.Common.{◌≡◌, ℕ, ◌<◌, ◌≤◌, get_or, SFits, w64}
use Rattle.std.specs.Prelude.{pos, ◌+ℤ◌}
use Rattle.pv_query.proofs.adding.add_each.Given as goal

abbrev pub invariant-loop-place : goal.invariant-loop-place
invariant-loop-place l = record {
  done : (k : ℕ) → k < l.place → get_or l.sums k (pos 0) ≡ get_or l.initial.sums k (pos 0) +ℤ get_or l.numbers k (pos 0);
  narrow : (k : ℕ) → k < l.place → SFits w64 (get_or l.numbers k (pos 0));
  left : (k : ℕ) → l.place ≤ k → get_or l.sums k (pos 0) ≡ get_or l.initial.sums k (pos 0);
}
