-- The lemma on lists of cases, as the law of an empty function.
use Rattle.pv_base.specs.Canonical.{IsExact}
use Rattle.pv_cases.proofs.SameCaseLemmas.{cases-decided}
use Rattle.pv_tree.proofs.laws.equal_polyvalues_are_one.Goals as goal

pub returns : goal.returns
returns g c = λ poly other.
    let is : IsExact g.V.PartialEq.eq = record { exact = g.met.V.Exact.exact; itself = g.met.V.Eq.laws.refl } in
    cases-decided is poly other
