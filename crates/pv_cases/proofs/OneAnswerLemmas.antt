-- Cases have one table, one polyvalue, or one first fault.
use Rattle.std.proofs.Common.{◌≡◌, ⊎_elim, ℕ, Bool, List, inl, inr, refl, sym, ap₂, subst, ◌∙◌}
use Rattle.std.specs.List.{filter_map}
use Rattle.pv_base.specs.declared.txn.TxnId.{TxnId}
use Rattle.pv_base.specs.Answer.{HasOneAnswer}
use Rattle.pv_base.specs.Canonical.{IsExact}
use Rattle.pv_base.specs.CaseFaults.{IsJoinFault, IsCanonicalFault}
use Rattle.pv_base.specs.Polyvalue.{Case, names, AreValues, IsCanonical, IsPolyvalue, AreSameEverywhere, NamesAtMost}
use Rattle.pv_law_polyvalues.proofs.NameLemmas.{some-names, one-names, NamesAtMost-fewer}
use Rattle.pv_law_polyvalues.proofs.PolyvalueLemmas.{value_at-agree, depends-named, one-canonical}
use Rattle.pv_law_polyvalues.proofs.TableLemmas.{one-values}
use Rattle.pv_cases.specs.JoinedCases.{IsTableOf, IsJoined, IsKept}
use Rattle.pv_cases.specs.Joining.{value_met}
use Rattle.pv_cases.specs.Meetings.{meetings_of}
use Rattle.pv_cases.proofs.CaseFaultLemmas.{one-case-fault, one-list-fault}
use Rattle.pv_cases.proofs.GapLemmas.{sound-complete}
use Rattle.pv_cases.proofs.SomeFaultLemmas.{some-canonical, some-join-fault, no-join-fault, some-canonical-fault, no-canonical-fault}
use Rattle.pv_cases.proofs.ValuesMetLemmas.{met-values}

module _ {V : Type 0} where
  -- Canonical cases name no more than cases with the same values.
  canonical-fewer : (limit : ℕ) (canonical cases : List (Case V)) → IsCanonical canonical → AreSameEverywhere canonical cases → NamesAtMost limit cases → NamesAtMost limit canonical
  canonical-fewer limit canonical cases is same few =
      NamesAtMost-fewer limit canonical cases
      (λ t named. depends-named canonical (names cases) is (λ a b agree. same a ∙ value_at-agree cases a b agree ∙ sym (same b)) t named)
      few

  module _ (limit : ℕ) (cases : List (Case V)) where
    one-table-of : (table other : List TxnId × List V) → IsTableOf limit cases table → IsTableOf limit cases other → table ≡ other
    one-table-of table other is are =
        let txns : table.0 ≡ other.0 = one-names cases cases table.0 other.0 (λ t. refl) is.names are.names in
        let values : table.1 ≡ other.1 = one-values cases other.0 table.1 other.1 (subst (λ (ts : List TxnId). AreValues cases ts table.1) txns is.values) are.values in
        ap₂ (λ (ts : List TxnId) (vs : List V). (ts, vs)) txns values

    pub one-table : HasOneAnswer (IsTableOf limit cases) (IsJoinFault limit cases)
    one-table = record {
      some = ⊎_elim
          (λ are. let listed = some-names cases in
          inl (
            (listed.0, filter_map (value_met cases) (meetings_of cases listed.0)),
            record { sound = are.0; few = are.1; names = listed.1; values = met-values cases listed.0 (sound-complete cases are.0) },
          ))
          (λ wrong. inr wrong)
          (some-join-fault limit cases);
      one_value = one-table-of;
      one_fault = one-case-fault limit cases;
      not_both = λ table fault is wrong. no-join-fault limit cases fault is.sound is.few wrong;
    }

    module _ {same : V → V → Bool} (laws : IsExact same) where
      pub one-joined : HasOneAnswer (IsJoined limit cases) (IsJoinFault limit cases)
      one-joined = record {
        some = ⊎_elim
            (λ are. let found = some-canonical laws cases are.0 in
            inl (
              found.0,
              record {
                sound = are.0;
                few = are.1;
                values = found.1.1;
                polyvalue = record { canonical = found.1.0; few = canonical-fewer limit found.0 cases found.1.0 found.1.1 are.1 };
              },
            ))
            (λ wrong. inr wrong)
            (some-join-fault limit cases);
        one_value = λ poly other is are.
            one-canonical poly other is.polyvalue.canonical are.polyvalue.canonical (λ a. is.values a ∙ sym (are.values a));
        one_fault = one-case-fault limit cases;
        not_both = λ poly fault is wrong. no-join-fault limit cases fault is.sound is.few wrong;
      }

      pub one-kept : HasOneAnswer (IsKept limit cases) (IsCanonicalFault limit cases)
      one-kept = record {
        some = ⊎_elim (λ are. inl (cases, record { kept = refl; polyvalue = are })) (λ wrong. inr wrong) (some-canonical-fault laws limit cases);
        one_value = λ poly other is are. is.kept ∙ sym are.kept;
        one_fault = one-list-fault limit cases;
        not_both = λ poly fault is wrong. no-canonical-fault limit cases fault (subst (IsPolyvalue limit) is.kept is.polyvalue) wrong;
      }
