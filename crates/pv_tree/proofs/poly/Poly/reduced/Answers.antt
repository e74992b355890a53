-- Cases that have to be canonical are those of their table, or have a first fault.
use Rattle.std.proofs.Common.{◌≡◌, List, IfSome, refl, sym, subst, rules}
use Rattle.std.proofs.lemmas.Result.{err_from_is_err_and}
use Rattle.pv_base.specs.Canonical.{IsExact}
use Rattle.pv_base.specs.CaseFaults.{fault_of, IsJoinFault}
use Rattle.pv_base.specs.Polyvalue.{Case}
use Rattle.pv_base.specs.declared.limits.TheConstants.{HELD_NAMES}
use Rattle.pv_cases.proofs.CanonicalFaultLemmas.{refused-too, unreduced-fault}
use Rattle.pv_cases.proofs.CaseAnswers.{refused-kept, given-kept}
use Rattle.pv_tree.proofs.poly.Poly.reduced.Goals as goal

pub returns-in_err-poly : goal.returns-in_err-poly
returns-in_err-poly g c =
    let laws : IsExact g.V.PartialEq.eq = record { exact = g.met.V.Exact.exact; itself = g.met.V.Eq.laws.refl } in
    let is = err_from_is_err_and c.from_residual.result c.from_residual.ensures.1 in
    record {
      answer = refused-kept laws c.args.cases.items c.from_residual.result c.in_err-poly.field-0.0 (search (rules, is))
          (refused-too HELD_NAMES c.args.cases.items (fault_of c.in_err-poly.field-0.0)
          (subst (λ (cases : List (Case _)). IfSome (fault_of c.in_err-poly.field-0.0) (IsJoinFault HELD_NAMES cases)) c.deref.ensures.value c.in_err-poly.ensures.answer.refused));
    }

pub returns-in-None : goal.returns-in-None
returns-in-None g c =
    let laws : IsExact g.V.PartialEq.eq = record { exact = g.met.V.Exact.exact; itself = g.met.V.Eq.laws.refl } in
    let same : c.args.cases.items ≡ c.in_ok-poly.poly = rw (← c.deref-2.ensures.value, ← c.poly.view_is, ← c.cases.ensures) c.in-None.ensures in
    record {
      answer = given-kept laws c.args.cases.items c.in_ok-poly.poly (record { kept = sym same; polyvalue = c.in_ok-poly.ensures.answer.given.polyvalue });
    }

pub returns : goal.returns
returns g c =
    let laws : IsExact g.V.PartialEq.eq = record { exact = g.met.V.Exact.exact; itself = g.met.V.Eq.laws.refl } in
    let joined = c.in_ok-poly.ensures.answer.given in
    record {
      answer = refused-kept laws c.args.cases.items _ _ refl
          (rw (← c.deref.ensures.value) (unreduced-fault HELD_NAMES c.deref.result.now joined.sound joined.few c.in_ok-poly.poly joined.polyvalue.canonical joined.values c.in-Some.place
          (rw (c.deref.ensures.value, ← c.deref-2.ensures.value, ← c.poly.view_is, ← c.cases.ensures) c.in-Some.ensures)));
    }
