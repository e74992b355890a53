-- One case that is always met is kept, and so are those that are read as leaves.
use Rattle.std.proofs.Common.{◌∙◌, IfOk, sym, subst, rules}
use Rattle.std.proofs.lemmas.Result.{err_from_is_err_and}
use Rattle.pv_base.specs.Canonical.{IsExact}
use Rattle.pv_base.specs.declared.faults.CaseError.TheVariants.{NoMemory}
use Rattle.pv_base.specs.declared.limits.TheConstants.{HELD_NAMES}
use Rattle.pv_cases.specs.JoinedCases.{IsKept}
use Rattle.pv_cases.proofs.CountLemmas.{sure-polyvalue}
use Rattle.pv_cases.proofs.CaseAnswers.{refused-kept, given-kept}
use Rattle.pv_tree.proofs.poly.Poly.from_cases.Goals as goal

pub invariant_of-result : goal.invariant_of-result
invariant_of-result g c = sure-polyvalue HELD_NAMES c.in-Some.value c.sure.ensures

pub returns-in-Some : goal.returns-in-Some
returns-in-Some g c =
    let laws : IsExact g.V.PartialEq.eq = record { exact = g.met.V.Exact.exact; itself = g.met.V.Eq.laws.refl } in
    record {
      answer = given-kept laws c.args.cases.items _
          (record { kept = c.sure.ensures ∙ sym c.in-Some.ensures ∙ c.deref.ensures.value; polyvalue = sure-polyvalue HELD_NAMES c.in-Some.value c.sure.ensures });
    }

pub returns-in_err-poly : goal.returns-in_err-poly
returns-in_err-poly g c =
    let laws : IsExact g.V.PartialEq.eq = record { exact = g.met.V.Exact.exact; itself = g.met.V.Eq.laws.refl } in
    let is = err_from_is_err_and c.from_residual.result c.from_residual.ensures.1 in
    record { answer = refused-kept laws c.args.cases.items c.from_residual.result NoMemory (search (rules, is)) tt }

pub returns-in-Ok : goal.returns-in-Ok
returns-in-Ok g c =
    let laws : IsExact g.V.PartialEq.eq = record { exact = g.met.V.Exact.exact; itself = g.met.V.Eq.laws.refl } in
    record {
      answer = given-kept laws c.args.cases.items c.in-Ok.poly (subst (λ read. IfOk read (IsKept HELD_NAMES c.args.cases.items)) c.in-Ok.is c.in_ok-poly.ensures.kept);
    }
