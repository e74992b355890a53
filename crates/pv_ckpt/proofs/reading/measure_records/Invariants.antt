use Rattle.std.proofs.Common.{◌-◌, ◌<◌, ◌≤◌}
use Rattle.pv_disk_model.specs.Size.{Contents}
use Rattle.pv_law_calls.specs.Reading.{LooksOn}
use Rattle.pv_ckpt.specs.Outline.{gate_of}
use Rattle.pv_ckpt.proofs.RecordLemmas.{HasRead}
use Rattle.pv_ckpt.proofs.reading.measure_records.Given as goal

abbrev pub invariant-loop-count : goal.invariant-loop-count
invariant-loop-count g l =
    LooksOn g.D.Disk.model l.fn.disk l.disk × (l.place < l.size) × (l.start ≤ l.place)
    × ((later : Contents) × HasRead g.D.Disk.model gate_of l.fn.disk l.disk l.start l.place later)

abbrev pub decreases-loop-count : goal.decreases-loop-count
decreases-loop-count g l = l.size - l.place
