-- What is told, and what is told of the entries that are left, is what is told of all.
use Rattle.std.proofs.Common.{◌≡◌, ◌++◌, ℕ, [], drop}
use Rattle.pv_history.specs.Entries.{stamps_of}
use Rattle.pv_told.proofs.along.told_along.Given as goal
use Rattle.pv_told.specs.Along.{told_along}
use Rattle.pv_told.specs.Words.{told_in}

abbrev pub invariant-loop-entry : goal.invariant-loop-entry
invariant-loop-entry l =
    (me : ℕ) → told_in me l.told.items ++ told_along me l.begun.items (stamps_of (drop l.entry-index l.history)) ≡ told_along me [] (stamps_of l.history)
