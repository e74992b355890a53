use Rattle.std.proofs.Common.{◌≡◌, ℕ, ◌+◌, ◌-◌, ◌≤◌, List, Some, vec_len}
use Rattle.pv_disk_model.specs.Size.{Contents}
use Rattle.pv_law_calls.specs.Reading.{LooksOn}
use Rattle.pv_ckpt.specs.Roots.{IsHeld}
use Rattle.pv_ckpt.proofs.PackLemmas.{PackedTo}
use Rattle.pv_ckpt.proofs.checkpoint.read_packed.Given as goal

abbrev pub invariant-loop-place : goal.invariant-loop-place
invariant-loop-place g l =
    LooksOn g.D.Disk.model l.fn.disk l.disk × (l.fn.root.place + vec_len l.block ≤ l.place) × (l.place ≤ l.end)
    × ((bytes : List ℕ) (packed later : Contents) → g.D.Disk.model.content l.fn.disk ≡ Some bytes → IsHeld bytes l.fn.root l.fn.end packed later
    → PackedTo bytes l.fn.root packed later l.place l.block.items)

abbrev pub decreases-loop-place : goal.decreases-loop-place
decreases-loop-place g l = l.end - l.place
