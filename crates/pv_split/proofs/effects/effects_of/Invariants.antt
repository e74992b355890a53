-- What the program does at the assignments so far.
use Rattle.std.proofs.Common.{◌≡◌, map, take}
use Rattle.pv_base.specs.Assignment.{assignments}
use Rattle.pv_model.specs.Alternatives.{rows_at}
use Rattle.pv_model.specs.Meaning.{exec}
use Rattle.pv_split.proofs.effects.effects_of.Given as goal

abbrev pub invariant-loop-place : goal.invariant-loop-place
invariant-loop-place l =
    l.effects.items ≡ map (λ assignment. exec l.fn.program (rows_at l.fn.reads assignment)) (take l.place (assignments l.fn.txns))
