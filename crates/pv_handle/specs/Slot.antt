-- What calls on a slot do with what it holds.
use Rattle.std.specs.Prelude.{◌≡◌, Option, Some, None, IsSomeAnd, Result, Ok, Err}
use Rattle.pv_handle.specs.declared.refused.Refused.{Refused}
use Rattle.pv_handle.specs.declared.refused.Refused.TheVariants.{Closed, InUse, Engine}

-- An opening: a closed slot holds then what the engine has opened, or stays closed where the engine refuses. An open one stays as it is.
abbrev pub Opens : {T X E : Type 0} → (Result T E → Type 0) → Option T → Option T → Result X (Refused E) → Type 0
Opens IsAnswer (Some old) new result = (new ≡ Some old) × (result ≡ Err InUse)
Opens IsAnswer None new (Ok _) = IsSomeAnd new (λ opened. IsAnswer (Ok opened))
Opens IsAnswer None new (Err (Engine fault)) = (new ≡ None) × IsAnswer (Err fault)
Opens IsAnswer None new (Err Closed) = ⊥
Opens IsAnswer None new (Err InUse) = ⊥

-- A call: on an open slot it does what the engine's call does, and gives its answer. A closed one stays closed.
abbrev pub Calls : {T X E : Type 0} → (T → T → Result X E → Type 0) → Option T → Option T → Result X (Refused E) → Type 0
Calls Does None new result = (new ≡ None) × (result ≡ Err Closed)
Calls Does (Some old) new (Ok x) = IsSomeAnd new (λ after. Does old after (Ok x))
Calls Does (Some old) new (Err (Engine fault)) = IsSomeAnd new (λ after. Does old after (Err fault))
Calls Does (Some old) new (Err Closed) = ⊥
Calls Does (Some old) new (Err InUse) = ⊥

-- A call that the engine never refuses: it answers exactly where the slot is open.
abbrev pub Asks : {T X : Type 0} → (T → T → X → Type 0) → Option T → Option T → Option X → Type 0
Asks Does None new result = (new ≡ None) × (result ≡ None)
Asks Does (Some old) new (Some x) = IsSomeAnd new (λ after. Does old after x)
Asks Does (Some old) new None = ⊥
