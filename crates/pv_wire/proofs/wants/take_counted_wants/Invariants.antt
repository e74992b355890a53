-- The items so far were read, the next one has to be after them, and each turn wants one.
use Rattle.std.proofs.Common.{◌-◌, ◌≤◌, length, vec_len}
use Rattle.pv_format.specs.Layout.{truth_layout}
use Rattle.pv_fields.proofs.ListLemmas.{IsReadingEntries}
use Rattle.pv_base.specs.Want.{Want}
use Rattle.pv_format.specs.Spelling.{IsTruth}
use Rattle.pv_wire.proofs.wants.take_counted_wants.Given as goal

abbrev pub invariant-loop-take : goal.invariant-loop-take
invariant-loop-take l = record {
  few : length l.wants.items ≤ l.count;
  small : l.least ≤ 1024;
  reading : IsReadingEntries (λ (entry : Want). IsTruth entry.exclusive) (λ entry. entry.item) truth_layout l.wants.items l.count l.least l.initial.take l.take;
}

abbrev pub decreases-loop-take : goal.decreases-loop-take
decreases-loop-take l = l.count - vec_len l.wants
