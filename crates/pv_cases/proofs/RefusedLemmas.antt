-- An error whose fault there is, is the answer of the call.
use Rattle.std.proofs.Common.{◌≡◌, Option, Result, Err, IfSome, sym, subst}
use Rattle.pv_base.specs.Answer.{HasOneAnswer, Answers}
use Rattle.pv_base.proofs.AnswerLemmas.{answered}

module _ {V F X E : Type 0} (IsValue : V → Type 0) (IsFault : F → Type 0) (one : HasOneAnswer IsValue IsFault) (value_of : X → V) (fault_of : E → Option F) where
  pub refused-so : (result : Result X E) (error : E) → result ≡ Err error → IfSome (fault_of error) IsFault → Answers IsValue IsFault value_of fault_of result
  refused-so result error is wrong =
      subst (Answers IsValue IsFault value_of fault_of) (sym is) (answered IsValue IsFault one value_of fault_of (Err error) tt wrong)
