use Rattle.std.proofs.Common.{◌≡◌, ℕ, ◌-◌, ◌<◌, ◌≤◌, List, Some}
use Rattle.pv_disk_model.specs.Size.{Contents}
use Rattle.pv_journal.specs.Outline.{OutlinesTo}
use Rattle.pv_journal.specs.Reading.{ReadsTo}
use Rattle.pv_law_calls.specs.Reading.{Gave, Looks}
use Rattle.pv_journal.proofs.reading.find_end.Given as goal

abbrev pub invariant-loop-count : goal.invariant-loop-count
invariant-loop-count g l =
    Looks g.D.Disk.model l.fn.disk l.disk × (g.D.Disk.model.content l.disk ≡ g.D.Disk.model.content l.fn.disk)
    × ((bytes : List ℕ) → g.D.Disk.model.content l.fn.disk ≡ Some bytes → (contents : Contents) × ReadsTo contents bytes l.place)
    × (l.place < l.size) × (8 ≤ l.place) × (g.D.Disk.model.faults l.disk ≡ g.D.Disk.model.faults l.fn.disk)
    × ((lengths : List ℕ) × Gave g.D.Disk.model l.fn.disk l.disk (λ read. OutlinesTo lengths read l.place))

abbrev pub decreases-loop-count : goal.decreases-loop-count
decreases-loop-count g l = l.size - l.place
