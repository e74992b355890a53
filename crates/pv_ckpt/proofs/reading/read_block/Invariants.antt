use Rattle.std.proofs.Common.{◌≡◌, ℕ, ◌+◌, ◌-◌, ◌≤◌, List, Some, length}
use Rattle.pv_disk_model.specs.Disk.{Gives}
use Rattle.pv_format.specs.Journal.{AreShort}
use Rattle.pv_journal.specs.Opening.{contents_in}
use Rattle.pv_law_calls.specs.Reading.{LooksOn}
use Rattle.pv_law_checkpoints.specs.TwoAreas.{block_of}
use Rattle.pv_ckpt.specs.Reading.{BeginsAt}
use Rattle.pv_ckpt.proofs.reading.read_block.Given as goal

abbrev pub invariant-loop-place : goal.invariant-loop-place
invariant-loop-place g l =
    LooksOn g.D.Disk.model l.fn.disk l.disk × (l.place ≤ l.end) × (l.place ≡ l.root.place + length (block_of (contents_in l.all))) × AreShort (contents_in l.all)
    × ((bytes : List ℕ) → g.D.Disk.model.content l.fn.disk ≡ Some bytes → BeginsAt bytes l.root.place (block_of (contents_in l.all)))
    × Gives g.D.Disk.model l.fn.disk l.disk (block_of (contents_in l.all))

abbrev pub decreases-loop-place : goal.decreases-loop-place
decreases-loop-place g l = l.end - l.place
