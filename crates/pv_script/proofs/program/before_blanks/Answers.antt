-- The last byte ends the text, or is a blank that doesn't count.
use Rattle.std.proofs.Common.{◌≡◌, ◌≤◌, ◌-◌, length, sym, ◌∙◌, arith, true, false, get_or}
use Rattle.std.proofs.lemmas.List.{length-take-le}
use Rattle.pv_base.specs.Name.{is_blank}
use Rattle.pv_script.proofs.BlankLemmas.{keeps, drops}
use Rattle.pv_script.proofs.program.before_blanks.Goals as goal

pub returns-then-not-is_blank-clause-rest : goal.returns-then-not-is_blank-clause-rest
returns-then-not-is_blank-clause-rest c =
    let text : is_blank (get_or c.loop-rest.rest.now (length c.loop-rest.rest.now - 1) 0) ≡ false = sym c.is_blank.ensures ∙ c.if-not-is_blank.true in
    sym (keeps c.loop-rest.rest.now (length c.loop-rest.rest.now - 1) (omega arith) text).0 ∙ c.loop-rest.invariant.0

pub loop-rest-preserved : goal.loop-rest-preserved
loop-rest-preserved c =
    let blank : is_blank (get_or c.loop-rest.rest.now (length c.loop-rest.rest.now - 1) 0) ≡ true = sym c.is_blank.ensures ∙ c.if-not-is_blank.false in
    let within : length c.loop-rest.rest.now - 1 ≤ length c.loop-rest.rest.now = omega arith in
    ((drops c.loop-rest.rest.now (length c.loop-rest.rest.now - 1) (omega arith) blank).0 ∙ c.loop-rest.invariant.0, omega (arith, length-take-le (length c.loop-rest.rest.now - 1) c.loop-rest.rest.now within))
