-- The places so far are among them.
use Rattle.std.proofs.Common.{ℕ, ◌<◌, get_or}
use Rattle.std.specs.List.{Contains}
use Rattle.pv_outbox.proofs.candidates.Candidates.put_all.Given as goal

abbrev pub invariant-loop-place : goal.invariant-loop-place
invariant-loop-place l = record {
  more : (there : ℕ) → Contains l.fn.self there → Contains l.self there;
  placed : (k : ℕ) (d : ℕ) → k < l.place-index → Contains l.self (get_or l.places k d);
}
