-- A polyvalue, and then whether it is sure.
use Rattle.std.proofs.Common.{◌≡◌, ◌∙◌, ◌==◌, true, false, length, ap, sym, arith}
use Rattle.std.proofs.lemmas.Bool.Decides.{nat_tests}
use Rattle.std.proofs.lemmas.Result.{err_from_is_err_and}
use Rattle.pv_format.specs.Tree.{is_sure}
use Rattle.pv_fields.proofs.PolyvalueLemmas.{passes_sure, stops_unsure}
use Rattle.pv_replay.specs.Faults.{fault_of}
use Rattle.pv_replay.proofs.PolyLemmas.{sure_stops}
use Rattle.pv_replay.proofs.poly.take_sure_poly.Goals as goal

pub returns-in_err-value-clause-stops : goal.returns-in_err-value-clause-stops
returns-in_err-value-clause-stops c =
    let p = err_from_is_err_and c.from_residual.result c.from_residual.ensures.1 in
    rw (p.1, p.2) (sure_stops c.args.take.now (fault_of c.in_err-value.field-0.0) c.in_err-value.ensures.stops)

pub returns-then-cases-ne1-clause-stops : goal.returns-then-cases-ne1-clause-stops
returns-then-cases-ne1-clause-stops c =
    let others : (length c.cases.result.now == 1) ≡ false = grind (arith, nat_tests) in
    rw c.place-place.ensures.place
    (stops_unsure c.in_ok-value.value c.args.take.now c.read_poly.new.take c.in_ok-value.ensures.passes.taken (ap is_sure (sym c.cases.ensures.cases) ∙ others))

pub returns-clause-passes : goal.returns-clause-passes
returns-clause-passes c =
    let one : (length c.cases.result.now == 1) ≡ true = grind (arith, nat_tests) in
    passes_sure c.in_ok-value.value c.args.take.now c.read_poly.new.take c.in_ok-value.ensures.passes.taken (ap is_sure (sym c.cases.ensures.cases) ∙ one)
