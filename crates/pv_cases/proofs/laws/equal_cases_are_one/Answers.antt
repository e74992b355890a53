-- The lemma on cases, as the law of an empty function.
use Rattle.pv_base.specs.Canonical.{IsExact}
use Rattle.pv_cases.proofs.SameCaseLemmas as lemmas
use Rattle.pv_cases.proofs.laws.equal_cases_are_one.Goals as goal

pub returns : goal.returns
returns g c = λ case other.
    let is : IsExact g.V.PartialEq.eq = record { exact = g.met.V.Exact.exact; itself = g.met.V.Eq.laws.refl } in
    lemmas.case-decided is case other
