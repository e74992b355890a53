-- What a call answers that gives the value that there is, or reports the first fault.
use Rattle.std.specs.Prelude.{◌≡◌, ◌≢◌, ◌⊎◌, Option, Some, None, Result, Err, OnOk, IfOk, IfErr, IfSome}

module _ {V F : Type 0} (IsValue : V → Type 0) (IsFault : F → Type 0) where
  -- There is exactly one answer: one value, or one fault.
  pub record HasOneAnswer : Type 0 where
    pub some : ((value : V) × IsValue value) ⊎ ((fault : F) × IsFault fault)
    pub one_value : (value other : V) → IsValue value → IsValue other → value ≡ other
    pub one_fault : (fault other : F) → IsFault fault → IsFault other → fault ≡ other
    pub not_both : (value : V) (fault : F) → IsValue value → IsFault fault → ⊥

  module _ {X E : Type 0} (value_of : X → V) (fault_of : E → Option F) (result : Result X E) where
    -- The call gives the value exactly where there is one, and reports the fault exactly where there is one. An error that is
    -- no fault is out of memory, which may come in place of either.
    pub record Answers : Type 0 where
      pub one : HasOneAnswer
      pub given : IfOk result (λ x. IsValue (value_of x))
      pub gives : (value : V) → IsValue value → IfOk result (λ x. value_of x ≡ value) × IfErr result (λ e. fault_of e ≡ None)
      pub refused : IfErr result (λ e. IfSome (fault_of e) IsFault)
      pub refuses : (fault : F) → IsFault fault → IfOk result (λ _. ⊥) × IfErr result (λ e. IfSome (fault_of e) (λ reported. reported ≡ fault))

module _ {X E : Type 0} (cause : Option E) (no_memory : E) (result : Result X E) where
  -- A call is refused for the cause that there is, and for no other. It asks for memory only where there is no cause.
  pub record Refuses : Type 0 where
    pub accepted : OnOk result (cause ≡ None)
    pub refused : IfErr result (λ e. e ≢ no_memory → cause ≡ Some e)
    pub memory : result ≡ Err no_memory → cause ≡ None
