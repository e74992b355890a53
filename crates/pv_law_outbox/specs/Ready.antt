-- Which outputs may be released, and which is next.
use Rattle.std.specs.Prelude.{◌≡◌, ℕ, false, List, ◌∷◌, ◌++◌, All}
use Rattle.pv_law_outbox.specs.Certain.{IsCertain}
use Rattle.pv_law_outbox.specs.State.{Held, State, is_taken}

-- An output that is held is ready: it isn't released yet, and its condition is certain.
pub record IsReady (state : State) (entry : Held) : Type 0 where
  pub untaken : is_taken state entry.0 ≡ false
  pub certain : IsCertain state.outcomes entry.1

-- None of these outputs is ready.
abbrev pub NoneReady : State → List Held → Type 0
NoneReady state entries = All (λ (entry : Held). IsReady state entry → ⊥) entries

-- The output is the ready one that was held first.
pub record IsNext (state : State) (output : ℕ) : Type 0 where
  pub entry : Held
  pub output_is : entry.0 ≡ output
  pub earlier : List Held
  pub later : List Held
  pub held : state.held ≡ earlier ++ entry ∷ later
  pub ready : IsReady state entry
  pub first : NoneReady state earlier
