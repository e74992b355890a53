-- What C gets of a run.
use Rattle.std.specs.Prelude.{◌≡◌, ℕ, ◌<◌, ◌≤◌, List, ◌++◌, length, drop, Result, Ok, Err, ⊤}
use Rattle.pv_base.specs.declared.failure.NoMemory.{NoMemory}
use Rattle.pv_run.specs.InputAnswers.{IsRunAnswer}
use Rattle.pv_run.specs.declared.form.Form.TheVariants.{Text}
use Rattle.pv_run.specs.declared.status.Status.{Status}
use Rattle.pv_embed_world.specs.Run.{Is, IsAnswer}
use Rattle.pv_embed_world.specs.declared.ran.Ran.{Ran}

-- A run of this input: the answer of `polydb run`, and no other.
abbrev pub Runs : List ℕ → Result Ran NoMemory → Type 0
Runs input (Ok ran) = IsAnswer input ran × ((status : Status) (output : List ℕ) → IsRunAnswer Text input status output → Is ran status output)
Runs input (Err _) = ⊤

-- A text goes where there is room: all of it, with the status of the run, or nothing.
pub record PutsText (status : ℕ) (text room out : List ℕ) (count number : ℕ) : Type 0 where
  pub counted : count ≡ length text
  pub fits : length text ≤ length room → (number ≡ status) × (out ≡ text ++ drop (length text) room)
  pub too_small : length room < length text → (number ≡ 18) × (out ≡ room)

abbrev pub PutsRun : Result Ran NoMemory → List ℕ → List ℕ → ℕ → ℕ → Type 0
PutsRun (Ok ran) room out count number = PutsText ran.status ran.text.items room out count number
PutsRun (Err _) room out count number = (number ≡ 7) × (count ≡ 0) × (out ≡ room)

-- C gets what a run of its bytes answers.
abbrev pub RunsInto : List ℕ → List ℕ → List ℕ → ℕ → ℕ → Type 0
RunsInto input room out count number = (answer : Result Ran NoMemory) × Runs input answer × PutsRun answer room out count number
