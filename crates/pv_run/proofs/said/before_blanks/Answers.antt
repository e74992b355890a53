-- The last byte ends the line, or is a blank that doesn't count.
use Rattle.std.proofs.Common.{◌-◌, true, false, length, sym, ◌∙◌, arith}
use Rattle.pv_run.proofs.SaidLemmas.{trims}
use Rattle.pv_run.proofs.said.before_blanks.Goals as goal

pub returns-then-not-is_blank : goal.returns-then-not-is_blank
returns-then-not-is_blank c =
    sym (trims c.loop-rest.rest.now (length c.loop-rest.rest.now - 1) false (omega arith) (sym c.is_blank.ensures ∙ c.if-not-is_blank.true)).0 ∙ c.loop-rest.invariant

pub loop-rest-preserved : goal.loop-rest-preserved
loop-rest-preserved c =
    sym (trims c.loop-rest.rest.now (length c.loop-rest.rest.now - 1) true (omega arith) (sym c.is_blank.ensures ∙ c.if-not-is_blank.false)).0 ∙ c.loop-rest.invariant
