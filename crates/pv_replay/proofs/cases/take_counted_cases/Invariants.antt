-- The cases so far were read, and each turn reads one.
use Rattle.std.proofs.Common.{◌-◌, ◌≤◌, length, vec_len}
use Rattle.pv_format.specs.Layout.{case_layout}
use Rattle.pv_format.specs.OldSpelling.{SpellsCase}
use Rattle.pv_fields.proofs.ListLemmas.{IsReading}
use Rattle.pv_replay.specs.Left.{HasGoneOn}
use Rattle.pv_replay.proofs.cases.take_counted_cases.Given as goal

abbrev pub invariant-loop-alloc : goal.invariant-loop-alloc
invariant-loop-alloc l = record {
  few : length l.cases.items ≤ l.count;
  reading : IsReading SpellsCase case_layout l.cases.items l.count l.initial.take l.take;
  left : HasGoneOn l.initial.take l.take;
}

abbrev pub decreases-loop-alloc : goal.decreases-loop-alloc
decreases-loop-alloc l = l.count - vec_len l.cases
