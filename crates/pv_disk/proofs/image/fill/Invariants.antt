use Rattle.std.proofs.Common.{◌≡◌, [], map, length}
use Rattle.pv_disk.specs.MemImage.{AllInside, filled}
use Rattle.pv_disk.specs.MemHistory.{range_of, unsynced}
use Rattle.pv_disk.proofs.image.fill.Given as goal

abbrev pub invariant-loop-write : goal.invariant-loop-write
invariant-loop-write l =
    AllInside (map range_of (unsynced [] l.rest)) (length l.content)
    × (filled (map range_of (unsynced [] l.rest)) l.content ≡ filled (map range_of (unsynced [] l.fn.writes)) l.initial.content)

abbrev pub decreases-loop-write : goal.decreases-loop-write
decreases-loop-write l = length l.rest
