use Rattle.std.proofs.Common.{◌≡◌, ◌++◌, length}
use Rattle.pv_crew.specs.Dealing.{AreDealt}
use Rattle.pv_crew.proofs.dealing.deal_all.Given as goal

abbrev pub invariant-loop-value : goal.invariant-loop-value
invariant-loop-value g l =
    (l.yielded ++ l.value-iterator.rest.items ≡ l.fn.values.items)
    × AreDealt g.V.Entries.entries (length l.fn.values.items) l.workers l.yielded l.turns.items l.rounds.items
