use Rattle.std.proofs.Common.{◌≡◌, ◌+◌, ◌-◌, ◌≤◌, length}
use Rattle.pv_disk_model.specs.Size.{Contents}
use Rattle.pv_law_calls.specs.Reading.{LooksOn}
use Rattle.pv_law_checkpoints.specs.TwoAreas.{block_of}
use Rattle.pv_ckpt.specs.Outline.{MeasuresBlock}
use Rattle.pv_ckpt.proofs.reading.measure_block.Given as goal

abbrev pub invariant-loop-place : goal.invariant-loop-place
invariant-loop-place g l =
    LooksOn g.D.Disk.model l.fn.disk l.disk × (l.place ≤ l.end) × (l.packed + l.root.place ≤ l.place)
    × ((packed : Contents) × (length packed ≡ l.packed) × (l.place ≡ l.root.place + length (block_of packed)) × MeasuresBlock g.D.Disk.model l.fn.disk l.disk l.root.place packed)

abbrev pub decreases-loop-place : goal.decreases-loop-place
decreases-loop-place g l = l.end - l.place
