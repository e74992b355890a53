-- Lists in which no value stands twice.
use Rattle.std.specs.Prelude.{Bool, List, [], ◌∷◌, ◌++◌, if◌then◌else◌}
use Rattle.std.specs.List.{list_any}

-- the values, and then this one unless it is there
abbrev pub with_new : {V : Type 0} → (V → V → Bool) → List V → V → List V
with_new same values value = if list_any (λ other. same other value) values then values else values ++ (value ∷ [])
