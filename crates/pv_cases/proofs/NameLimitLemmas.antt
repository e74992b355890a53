-- Cases name few transactions or one count of them that is too many, and a choice has one polyvalue or names one such count.
use Rattle.std.proofs.Common.{◌≡◌, ◌⊎◌, ⊎_elim, ℕ, Bool, List, length, inl, inr, refl, sym, ap, subst, ◌∙◌, arith}
use Rattle.std.proofs.lemmas.Bool.{cases_lt}
use Rattle.pv_base.specs.Answer.{HasOneAnswer}
use Rattle.pv_base.specs.Canonical.{IsExact}
use Rattle.pv_base.specs.Polyvalue.{Case, AreNames, IsCanonical, NamesAtMost}
use Rattle.pv_base.specs.declared.txn.TxnId.{TxnId}
use Rattle.pv_cases.specs.NameLimits.{NameTooMany, IsChosen, ChoiceNamesTooMany}
use Rattle.pv_law_polyvalues.proofs.ExistenceLemmas.{some-choice-names, one-choice-names}
use Rattle.pv_law_polyvalues.proofs.NameLemmas.{some-names, one-names, NamesAtMost-from}
use Rattle.pv_law_polyvalues.proofs.PolyvalueLemmas.{one-canonical}

module _ {V : Type 0} (limit : ℕ) where
  module _ (cases : List (Case V)) where
    pub few-or-many : NamesAtMost limit cases ⊎ ((count : ℕ) × NameTooMany limit cases count)
    few-or-many =
        let listed = some-names cases in
        ⊎_elim
        (λ more. inr (length listed.0, record { txns = listed.0; named = listed.1; counted = refl; over = more }))
        (λ short. inl (NamesAtMost-from limit cases listed.0 listed.1 short))
        (cases_lt limit (length listed.0))

    pub one-count : (count other : ℕ) → NameTooMany limit cases count → NameTooMany limit cases other → count ≡ other
    one-count count other is are =
        sym is.counted ∙ ap length (one-names cases cases is.txns are.txns (λ t. refl) is.named are.named) ∙ are.counted

    pub not-few : (count : ℕ) → NamesAtMost limit cases → NameTooMany limit cases count → ⊥
    not-few count few is = omega (arith, few is.txns is.named, is.counted, is.over)

  module _ {same : V → V → Bool} (laws : IsExact same) (txn : TxnId) (aborted committed : List (Case V)) (first : IsCanonical aborted) (second : IsCanonical committed) where
    pub one-chosen : HasOneAnswer (IsChosen limit txn aborted committed) (ChoiceNamesTooMany limit txn aborted committed)
    one-chosen = record {
      some = let found = some-choice-names laws txn aborted committed first second in
          ⊎_elim
          (λ more. inr (found.0, record { names = found.1; over = more }))
          (λ short. inl (
            found.1.cases,
            record {
              choice = found.1.choice;
              polyvalue = record {
                canonical = found.1.canonical;
                few = NamesAtMost-from limit found.1.cases found.1.txns found.1.named (omega (arith, found.1.counted, short));
              };
            },
          ))
          (cases_lt limit found.0);
      one_value = λ poly other is are.
          one-canonical poly other is.polyvalue.canonical are.polyvalue.canonical (λ a. is.choice a ∙ sym (are.choice a));
      one_fault = λ count other is are. one-choice-names txn aborted committed count other is.names are.names;
      not_both = λ poly count is wrong.
          let same = one-canonical poly wrong.names.cases is.polyvalue.canonical wrong.names.canonical (λ a. is.choice a ∙ sym (wrong.names.choice a)) in
          omega (
            arith,
            is.polyvalue.few wrong.names.txns (subst (λ (cases : List (Case V)). AreNames cases wrong.names.txns) (sym same) wrong.names.named),
            wrong.names.counted,
            wrong.over,
          );
    }
