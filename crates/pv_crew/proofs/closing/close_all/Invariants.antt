use Rattle.std.proofs.Common.{length, reverse}
use Rattle.pv_rings.specs.Rings.{Each}
use Rattle.pv_crew.specs.Dealing.{AreReady}
use Rattle.pv_crew.proofs.ClosingLemmas.{Closes}
use Rattle.pv_crew.proofs.closing.close_all.Given as goal

abbrev pub invariant-loop-alloc : goal.invariant-loop-alloc
invariant-loop-alloc g l =
    AreReady l.turns.items l.rounds.items × Each (λ _. Closes g.V.Entries.entries (reverse l.values.items)) l.fn.rounds.items l.rounds.items

abbrev pub decreases-loop-alloc : goal.decreases-loop-alloc
decreases-loop-alloc g l = length l.turns.items
