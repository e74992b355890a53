-- The first output that may be released, as is computed.
use Rattle.std.specs.Prelude.{◌≡◌, ℕ, ◌<◌, Some, slice_get}
use Rattle.pv_law_outbox.specs.State.{Held, State}
use Rattle.pv_outbox.specs.Covers.{MayGo}

-- No output below this place may be released.
abbrev pub NoneBelow : State → ℕ → Type 0
NoneBelow state end = (place : ℕ) (entry : Held) → place < end → slice_get state.held place ≡ Some entry → MayGo state entry → ⊥

-- None may.
abbrev pub NoneMayGo : State → Type 0
NoneMayGo state = (place : ℕ) (entry : Held) → slice_get state.held place ≡ Some entry → MayGo state entry → ⊥

-- The output may be released, and none that was held before it.
pub record IsFirst (state : State) (output : ℕ) : Type 0 where
  pub place : ℕ
  pub entry : Held
  pub there : slice_get state.held place ≡ Some entry
  pub output_is : entry.0 ≡ output
  pub may : MayGo state entry
  pub none : NoneBelow state place
