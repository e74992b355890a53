-- `==` says whether the cases are one.
use Rattle.std.proofs.Common.{◌≡◌, MatchBool, sym, subst}
use Rattle.pv_base.specs.Canonical.{IsExact}
use Rattle.pv_cases.proofs.SameCaseLemmas.{case-decided, told}
use Rattle.pv_cases.proofs.difference.is_same.Goals as goal

pub returns : goal.returns
returns g c =
    let is : IsExact g.V.PartialEq.eq = record { exact = g.met.V.Exact.exact; itself = g.met.V.Eq.laws.refl } in
    let case = c.args.case.now in
    let other = c.args.other.now in
    subst (λ b. MatchBool b (case ≡ other) (case ≡ other → ⊥)) (sym c.eq.ensures) (told _ (case-decided is case other))
