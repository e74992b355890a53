-- The literals so far were read, and each turn reads one.
use Rattle.std.proofs.Common.{◌-◌, ◌≤◌, length, vec_len}
use Rattle.pv_format.specs.Layout.{literal_layout}
use Rattle.pv_format.specs.OldSpelling.{SpellsLiteral}
use Rattle.pv_fields.proofs.ListLemmas.{IsReading}
use Rattle.pv_replay.specs.Left.{HasGoneOn}
use Rattle.pv_replay.proofs.cases.take_literals.Given as goal

abbrev pub invariant-loop-when : goal.invariant-loop-when
invariant-loop-when l = record {
  few : length l.when.items ≤ l.count;
  reading : IsReading SpellsLiteral literal_layout l.when.items l.count l.initial.take l.take;
  left : HasGoneOn l.initial.take l.take;
}

abbrev pub decreases-loop-when : goal.decreases-loop-when
decreases-loop-when l = l.count - vec_len l.when
