-- What is given or reported of cases is the one answer.
use Rattle.std.proofs.Common.{◌≡◌, Bool, List, Result, Ok, Err, IfSome}
use Rattle.pv_base.specs.Answer.{Answers}
use Rattle.pv_base.specs.Canonical.{IsExact}
use Rattle.pv_base.specs.CaseFaults.{fault_of, IsJoinFault, IsCanonicalFault}
use Rattle.pv_base.specs.Polyvalue.{Case, IsCanonical}
use Rattle.pv_base.specs.declared.faults.CaseError.{CaseError}
use Rattle.pv_base.specs.declared.faults.NameError.{NameError}
use Rattle.pv_base.specs.declared.limits.TheConstants.{HELD_NAMES}
use Rattle.pv_base.specs.declared.txn.TxnId.{TxnId}
use Rattle.pv_base.proofs.AnswerLemmas.{answered}
use Rattle.pv_cases.specs.JoinedCases.{IsJoined, IsKept}
use Rattle.pv_cases.specs.NameLimits.{count_of, IsChosen, ChoiceNamesTooMany}
use Rattle.pv_cases.proofs.NameLimitLemmas.{one-chosen}
use Rattle.pv_cases.proofs.OneAnswerLemmas.{one-joined, one-kept}
use Rattle.pv_cases.proofs.RefusedLemmas.{refused-so}

-- Of a choice.
module _ {V : Type 0} {same : V → V → Bool} (laws : IsExact same) (txn : TxnId) (aborted committed : List (Case V)) (first : IsCanonical aborted) (second : IsCanonical committed) where
  pub refused-choice : (result : Result (List (Case V)) NameError) (error : NameError) → result ≡ Err error → IfSome (count_of error) (ChoiceNamesTooMany HELD_NAMES txn aborted committed)
      → Answers (IsChosen HELD_NAMES txn aborted committed) (ChoiceNamesTooMany HELD_NAMES txn aborted committed) (λ poly. poly) count_of result
  refused-choice =
      refused-so (IsChosen HELD_NAMES txn aborted committed) (ChoiceNamesTooMany HELD_NAMES txn aborted committed)
      (one-chosen HELD_NAMES laws txn aborted committed first second) (λ poly. poly) count_of

  pub given-choice : (poly : List (Case V)) → IsChosen HELD_NAMES txn aborted committed poly
      → Answers (IsChosen HELD_NAMES txn aborted committed) (ChoiceNamesTooMany HELD_NAMES txn aborted committed) (λ poly. poly) count_of (Ok poly)
  given-choice poly is =
      answered (IsChosen HELD_NAMES txn aborted committed) (ChoiceNamesTooMany HELD_NAMES txn aborted committed)
      (one-chosen HELD_NAMES laws txn aborted committed first second) (λ poly. poly) count_of (Ok poly) is tt

-- Of cases that are joined.
module _ {V : Type 0} {same : V → V → Bool} (laws : IsExact same) (cases : List (Case V)) where
  pub refused-joined : (result : Result (List (Case V)) CaseError) (error : CaseError) → result ≡ Err error → IfSome (fault_of error) (IsJoinFault HELD_NAMES cases)
      → Answers (IsJoined HELD_NAMES cases) (IsJoinFault HELD_NAMES cases) (λ poly. poly) fault_of result
  refused-joined = refused-so (IsJoined HELD_NAMES cases) (IsJoinFault HELD_NAMES cases) (one-joined HELD_NAMES cases laws) (λ poly. poly) fault_of

  pub given-joined : (poly : List (Case V)) → IsJoined HELD_NAMES cases poly
      → Answers (IsJoined HELD_NAMES cases) (IsJoinFault HELD_NAMES cases) (λ poly. poly) fault_of (Ok poly)
  given-joined poly is = answered (IsJoined HELD_NAMES cases) (IsJoinFault HELD_NAMES cases) (one-joined HELD_NAMES cases laws) (λ poly. poly) fault_of (Ok poly) is tt

-- Of cases that are kept.
module _ {V : Type 0} {same : V → V → Bool} (laws : IsExact same) (cases : List (Case V)) where
  pub refused-kept : (result : Result (List (Case V)) CaseError) (error : CaseError) → result ≡ Err error → IfSome (fault_of error) (IsCanonicalFault HELD_NAMES cases)
      → Answers (IsKept HELD_NAMES cases) (IsCanonicalFault HELD_NAMES cases) (λ poly. poly) fault_of result
  refused-kept = refused-so (IsKept HELD_NAMES cases) (IsCanonicalFault HELD_NAMES cases) (one-kept HELD_NAMES cases laws) (λ poly. poly) fault_of

  pub given-kept : (poly : List (Case V)) → IsKept HELD_NAMES cases poly
      → Answers (IsKept HELD_NAMES cases) (IsCanonicalFault HELD_NAMES cases) (λ poly. poly) fault_of (Ok poly)
  given-kept poly is = answered (IsKept HELD_NAMES cases) (IsCanonicalFault HELD_NAMES cases) (one-kept HELD_NAMES cases laws) (λ poly. poly) fault_of (Ok poly) is tt
