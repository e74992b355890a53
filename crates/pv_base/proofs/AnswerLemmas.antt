-- What is given is the value, or what is reported is the fault: then the call answers exactly.
use Rattle.std.proofs.Common.{◌≡◌, Option, Some, None, Result, Ok, Err, IfOk, IfErr, IfSome, refl}
use Rattle.pv_base.specs.Answer.{HasOneAnswer, Answers}

module _ {V F : Type 0} (IsValue : V → Type 0) (IsFault : F → Type 0) (one : HasOneAnswer IsValue IsFault) where
  -- Where there is a value, no fault was reported.
  reported-nothing : (reported : Option F) → IfSome reported IsFault → (value : V) → IsValue value → reported ≡ None
  reported-nothing (Some fault) is value has = absurd (one.not_both value fault has is)
  reported-nothing None is value has = refl

  -- Where there is a fault, that one was reported, if any.
  reported-the-fault : (reported : Option F) → IfSome reported IsFault → (fault : F) → IsFault fault → IfSome reported (λ other. other ≡ fault)
  reported-the-fault (Some other) is fault has = one.one_fault other fault is has
  reported-the-fault None is fault has = tt

  module _ {X E : Type 0} (value_of : X → V) (fault_of : E → Option F) where
    pub answered : (result : Result X E) → IfOk result (λ x. IsValue (value_of x)) → IfErr result (λ e. IfSome (fault_of e) IsFault)
        → Answers IsValue IsFault value_of fault_of result
    answered (Ok x) given refused = record {
      one = one;
      given = given;
      gives = λ value is. (one.one_value (value_of x) value given is, tt);
      refused = refused;
      refuses = λ fault is. (one.not_both (value_of x) fault given is, tt);
    }
    answered (Err e) given refused = record {
      one = one;
      given = given;
      gives = λ value is. (tt, reported-nothing (fault_of e) refused value is);
      refused = refused;
      refuses = λ fault is. (tt, reported-the-fault (fault_of e) refused fault is);
    }
