-- What a run in memory answers.
use Rattle.std.specs.Prelude.{◌≡◌, ℕ, List}
use Rattle.pv_run.specs.InputAnswers.{IsRunAnswer, exit_code}
use Rattle.pv_run.specs.declared.form.Form.TheVariants.{Text}
use Rattle.pv_run.specs.declared.status.Status.{Status}
use Rattle.pv_embed_world.specs.declared.ran.Ran.{Ran}

-- These are the exit code and the text of this answer.
pub record Is (ran : Ran) (status : Status) (output : List ℕ) : Type 0 where
  pub code : ran.status ≡ exit_code status
  pub text : ran.text.items ≡ output

-- It is the exit code and the text of the answer of `polydb run` to the input.
abbrev pub IsAnswer : List ℕ → Ran → Type 0
IsAnswer input ran = (status : Status) × (output : List ℕ) × IsRunAnswer Text input status output × Is ran status output
