-- The contents so far were counted.
use Rattle.std.proofs.Common.{◌≡◌, ◌+◌, drop, length, List, ℕ}
use Rattle.std.specs.List.{sum_by}
use Rattle.pv_disk_model.specs.Size.{size_of}
use Rattle.pv_ckpt.specs.Rewriting.{contents_of}
use Rattle.pv_ckpt.proofs.rewrite.length_of.Given as goal

abbrev pub invariant-loop-content : goal.invariant-loop-content
invariant-loop-content l =
    l.length + sum_by (λ (content : List ℕ). 5 + length content) (contents_of (drop l.content-index l.contents)) ≡ size_of (contents_of l.contents)
