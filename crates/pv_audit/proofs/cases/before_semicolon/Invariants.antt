-- No word so far is a semicolon.
use Rattle.std.proofs.Common.{take}
use Rattle.std.specs.Prelude.{codes}
use Rattle.std.specs.List.{Contains}
use Rattle.pv_script.specs.LineFaults.{texts}
use Rattle.pv_audit.proofs.cases.before_semicolon.Given as goal

abbrev pub invariant-loop-place : goal.invariant-loop-place
invariant-loop-place l = Contains (texts (take l.place l.words)) (codes ";") → ⊥
