-- What is wrong with cases that have to be canonical, once it is known whether they can be joined.
use Rattle.std.proofs.Common.{ℕ, List, Option, Some, None, IfSome, sym, ap}
use Rattle.std.specs.Prelude.{slice_get}
use Rattle.pv_base.specs.CaseFaults.{CaseFault, unreduced, IsJoinFault, IsCanonicalFault, are_no_polyvalue, is_not_reduced, DifferFrom}
use Rattle.pv_base.specs.Polyvalue.{Case, IsCanonical, IsSound, NamesAtMost, AreSameEverywhere}
use Rattle.pv_law_polyvalues.proofs.NameLemmas.{some-names}
use Rattle.pv_law_polyvalues.proofs.PolyvalueLemmas.{one-canonical}
use Rattle.pv_cases.proofs.GapLemmas.{sound-disjoint, sound-complete}

module _ {V : Type 0} (limit : ℕ) (cases : List (Case V)) where
  -- Why they can't be joined is why they aren't a polyvalue in canonical form.
  pub refused-too : (reported : Option CaseFault) → IfSome reported (IsJoinFault limit cases) → IfSome reported (IsCanonicalFault limit cases)
  refused-too (Some fault) is = are_no_polyvalue fault is
  refused-too None is = tt

  -- Nothing is wrong with canonical cases.
  pub canonical-fault : ((fault : CaseFault) → IsJoinFault limit cases fault → ⊥) → IsCanonical cases → (fault : CaseFault) → IsCanonicalFault limit cases fault → ⊥
  canonical-fault none is fault (are_no_polyvalue other wrong) = none fault wrong
  canonical-fault none is fault (is_not_reduced txns are few apart whole canonical is' same place d) =
      d.differ (ap (λ list. slice_get list place) (sym (one-canonical canonical cases is' is same)))

  -- They aren't in canonical form from the first place on where they differ from the canonical ones.
  pub unreduced-fault : IsSound cases → NamesAtMost limit cases → (poly : List (Case V)) → IsCanonical poly → AreSameEverywhere poly cases
      → (place : ℕ) → DifferFrom cases poly place → IsCanonicalFault limit cases (unreduced place)
  unreduced-fault sound few poly canonical same place differ =
      let txns = some-names cases in
      is_not_reduced txns.0 txns.1 (few txns.0 txns.1) (sound-disjoint cases sound) (sound-complete cases sound) poly canonical same place differ
