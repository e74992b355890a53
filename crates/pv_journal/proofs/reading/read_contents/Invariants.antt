use Rattle.std.proofs.Common.{◌≡◌, ℕ, ◌-◌, ◌<◌, List, Some, map}
use Rattle.pv_journal.specs.Reading.{HasRead, ReadsTo}
use Rattle.pv_law_calls.specs.Reading.{Gave, Looks}
use Rattle.pv_journal.proofs.reading.read_contents.Given as goal

abbrev pub invariant-loop-all : goal.invariant-loop-all
invariant-loop-all g l =
    Looks g.D.Disk.model l.fn.disk l.disk × (g.D.Disk.model.content l.disk ≡ g.D.Disk.model.content l.fn.disk)
    × ((bytes : List ℕ) → g.D.Disk.model.content l.fn.disk ≡ Some bytes → ReadsTo (map (λ it. it.items) l.all.items) bytes l.place)
    × (l.place < l.size) × (g.D.Disk.model.faults l.disk ≡ g.D.Disk.model.faults l.fn.disk)
    × Gave g.D.Disk.model l.fn.disk l.disk (λ read. HasRead (map (λ it. it.items) l.all.items) read l.place)

abbrev pub decreases-loop-all : goal.decreases-loop-all
decreases-loop-all g l = l.size - l.place
