-- `==` says whether they are one.
use Rattle.std.proofs.Common.{◌≡◌, MatchBool, sym, subst}
use Rattle.pv_cases.proofs.SameCaseLemmas.{cases-decided, told}
use Rattle.pv_law_polyvalues.proofs.ExistenceLemmas.{numbers-exact}
use Rattle.pv_audit.proofs.difference.are_same.Goals as goal

pub returns : goal.returns
returns c =
    let first = c.args.first.now in
    let second = c.args.second.now in
    subst (λ b. MatchBool b (first ≡ second) (first ≡ second → ⊥)) (sym c.eq.ensures) (told _ (cases-decided numbers-exact first second))
