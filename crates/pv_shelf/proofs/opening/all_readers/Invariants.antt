-- The readers so far have seen what the writer has.
use Rattle.std.proofs.Common.{◌≡◌, ◌+◌, ◌≤◌, All, vec_len, vec_capacity}
use Rattle.pv_shelf.specs.Shelves.{published, pending, known, seen, items_of}
use Rattle.pv_shelf.proofs.opening.all_readers.Given as goal

abbrev pub invariant-loop-left : goal.invariant-loop-left
invariant-loop-left l =
    ((published l.writer ≡ published l.initial.writer) × (pending l.writer ≡ pending l.initial.writer) × (known l.writer ≡ known l.initial.writer))
    × (vec_len l.readers + l.left ≡ l.count) × (l.count ≤ vec_capacity l.readers)
    × All (λ reader. (seen reader ≡ known l.initial.writer) × (items_of reader ≡ l.items)) l.readers.items

abbrev pub decreases-loop-left : goal.decreases-loop-left
decreases-loop-left l = l.left
