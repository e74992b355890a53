use Rattle.std.proofs.Common.{◌≡◌, ◌≤◌, [], length, vec_len, vec_capacity}
use Rattle.pv_disk.specs.MemHistory.{content_before, unsynced, CanUndo}
use Rattle.pv_disk.proofs.image.take_back.Given as goal

abbrev pub invariant-loop-write : goal.invariant-loop-write
invariant-loop-write l =
    CanUndo (unsynced [] l.rest) l.kept.items l.content.items
    × (content_before (unsynced [] l.rest) l.content.items ≡ content_before (unsynced [] l.fn.writes) l.initial.content.items)
    × (vec_len l.content ≤ vec_len l.initial.content)
    × (vec_capacity l.initial.content ≤ vec_capacity l.content)
    × (vec_capacity l.initial.kept ≤ vec_capacity l.kept)

abbrev pub decreases-loop-write : goal.decreases-loop-write
decreases-loop-write l = length l.rest
