-- Whether cases of numbers are a polyvalue is decided: they are canonical where they are the canonical cases of their own values.
use Rattle.std.proofs.Common.{◌⊎◌, ⊎_elim, ℕ, Some, List, length, inl, inr, sym, ap, subst, ◌∙◌, arith}
use Rattle.std.specs.Prelude.{ℤ, pos}
use Rattle.std.specs.Option.{unwrap_or}
use Rattle.std.proofs.lemmas.Bool.{cases_lt}
use Rattle.pv_base.specs.Polyvalue.{Case, IsCanonical, IsPolyvalue, NamesAtMost}
use Rattle.pv_model.specs.Alternatives.{number_at}
use Rattle.pv_law_polyvalues.proofs.ExistenceLemmas.{cases-equal, numbers-exact, some-polyvalue}
use Rattle.pv_law_polyvalues.proofs.NameLemmas.{some-names, NamesAtMost-from}
use Rattle.pv_law_polyvalues.proofs.PolyvalueLemmas.{canonical-complete, one-canonical, value_at-agree}

canonical-or-not : (cases : List (Case ℤ)) → IsCanonical cases ⊎ (IsCanonical cases → ⊥)
canonical-or-not cases =
    let listed = some-names cases in
    let found = some-polyvalue numbers-exact (number_at cases) listed.0 (λ a b alike.
    ap (λ o. unwrap_or o (pos 0)) (value_at-agree cases a b (λ txn named. alike txn (listed.1.whole txn named)))) in
    ⊎_elim
    (λ same. inl (subst (λ (cs : List (Case ℤ)). IsCanonical cs) same found.1.0))
    (λ differ. inr (λ canonical. differ (one-canonical found.0 cases found.1.0 canonical (λ a.
    let here = canonical-complete cases canonical a in
    found.1.1 a ∙ ap (λ o. Some (unwrap_or o (pos 0))) here.1 ∙ sym here.1))))
    (cases-equal numbers-exact found.0 cases)

few-or-not : (limit : ℕ) (cases : List (Case ℤ)) → NamesAtMost limit cases ⊎ (NamesAtMost limit cases → ⊥)
few-or-not limit cases =
    let listed = some-names cases in
    ⊎_elim
    (λ more. inr (λ few. let least = few listed.0 listed.1 in omega (arith, more, least)))
    (λ few. inl (NamesAtMost-from limit cases listed.0 listed.1 few))
    (cases_lt limit (length listed.0))

pub polyvalue-or-not : (limit : ℕ) (cases : List (Case ℤ)) → IsPolyvalue limit cases ⊎ (IsPolyvalue limit cases → ⊥)
polyvalue-or-not limit cases =
    ⊎_elim
    (λ canonical. ⊎_elim
    (λ few. inl (record { canonical = canonical; few = few }))
    (λ many. inr (λ is. many is.few))
    (few-or-not limit cases))
    (λ reducible. inr (λ is. reducible is.canonical))
    (canonical-or-not cases)
