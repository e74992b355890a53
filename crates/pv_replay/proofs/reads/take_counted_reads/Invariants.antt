-- The items so far were read, the next one has to be after them, and each turn reads one.
use Rattle.std.proofs.Common.{◌-◌, ◌≤◌, length, vec_len}
use Rattle.pv_format.specs.Layout.{polyvalue_then}
use Rattle.pv_format.specs.Form.{SpellsIn}
use Rattle.pv_fields.proofs.ListLemmas.{IsReadingEntries}
use Rattle.pv_model.specs.Alternatives.{Read}
use Rattle.pv_replay.specs.Left.{HasGoneOn}
use Rattle.pv_replay.specs.Values.{form_of}
use Rattle.pv_replay.proofs.reads.take_counted_reads.Given as goal

abbrev pub invariant-loop-alloc : goal.invariant-loop-alloc
invariant-loop-alloc l = record {
  few : length l.reads.items ≤ l.count;
  small : l.least ≤ 1024;
  reading : IsReadingEntries (λ (entry : Read). SpellsIn (form_of l.form) entry.cases) (λ entry. entry.item) (polyvalue_then (form_of l.form)) l.reads.items l.count l.least l.initial.take l.take;
  left : HasGoneOn l.initial.take l.take;
}

abbrev pub decreases-loop-alloc : goal.decreases-loop-alloc
decreases-loop-alloc l = l.count - vec_len l.reads
