-- The contents so far were counted.
use Rattle.std.proofs.Common.{◌≡◌, ◌+◌, ◌-◌, ◌^◌, ◌≤◌, drop, length, List, ℕ}
use Rattle.std.specs.Prelude.{min}
use Rattle.std.specs.List.{sum_by}
use Rattle.pv_disk_model.specs.Size.{size_of}
use Rattle.pv_outbox.specs.Values.{contents_of}
use Rattle.pv_outbox.proofs.opening.length_of.Given as goal

abbrev pub invariant-loop-content : goal.invariant-loop-content
invariant-loop-content l = record {
  fits : l.length ≤ 2 ^ 64 - 1;
  counted : min (l.length + sum_by (λ (content : List ℕ). 5 + length content) (contents_of (drop l.content-index l.contents))) (2 ^ 64 - 1)
      ≡ min (size_of (contents_of l.contents)) (2 ^ 64 - 1);
}
