-- What a run wrote to a sink in memory is its answer.
use Rattle.std.proofs.Common.{◌≡◌, ◌⊎◌, inl, inr, ℕ, ◌<◌, Some, Result, Ok, Err, IfOk, List, [], ◌++◌, length, refl, sym, ap, ◌∙◌, subst}
use Rattle.pv_base.specs.declared.limits.TheConstants.{MAX_INPUT}
use Rattle.pv_run.specs.InputAnswers.{GivesUp, GrowsBySome, IsRunAnswer, exit_code}
use Rattle.pv_run.specs.Statuses.{text_status}
use Rattle.pv_run.specs.declared.form.Form.TheVariants.{Text}
use Rattle.pv_run.specs.declared.status.Status.{Status}
use Rattle.pv_run.specs.declared.status.Status.TheVariants.{TooLong}
use Rattle.pv_run.specs.declared.text_end.TextEnd.{TextEnd}
use Rattle.pv_run.specs.declared.text_end.TextEnd.TheVariants as at
use Rattle.pv_embed_world.specs.Run.{Is, IsAnswer}
use Rattle.pv_embed_world.specs.declared.ran.Ran.{Ran}

-- With another end than these it didn't give up.
gave-up : (ended : TextEnd) → GivesUp (text_status ended) → (ended ≡ at.WriteFault → ⊥) → (ended ≡ at.NoMemory → ⊥) → ⊥
gave-up at.Done gives write memory = gives
gave-up at.Malformed gives write memory = gives
gave-up at.WriteFault gives write memory = write refl
gave-up at.NoMemory gives write memory = memory refl
gave-up at.SentLimit gives write memory = gives

-- What the sink holds then is the text of the answer.
pub ran-answers : (input : List ℕ) (ran : Ran) (ended : TextEnd) (first held : List ℕ) → ran.status ≡ exit_code (text_status ended) → first ≡ [] → ran.text.items ≡ held
    → GivesUp (text_status ended) ⊎ GrowsBySome (Some first) (Some held) (IsRunAnswer Text input (text_status ended)) → (ended ≡ at.WriteFault → ⊥) → (ended ≡ at.NoMemory → ⊥)
    → IsAnswer input ran
ran-answers input ran ended first held code none text (inl gives) write memory = absurd (gave-up ended gives write memory)
ran-answers input ran ended first held code none text (inr (output, grown, is)) write memory =
    (text_status ended, output, is, record { code = code; text = text ∙ grown ∙ ap (λ (front : List ℕ). front ++ output) none })

-- A text that is too long has no output.
pub too-long-answers : (input : List ℕ) (ran : Ran) → ran.status ≡ exit_code TooLong → MAX_INPUT < length input → ran.text.items ≡ [] → IsAnswer input ran
too-long-answers input ran code long none = (TooLong, [], (long, refl), record { code = code; text = none })

-- An input has no other answer, since answers are one.
module _ (input : List ℕ)
    (one : (status other : Status) (output text : List ℕ) → IsRunAnswer Text input status output → IsRunAnswer Text input other text → (status ≡ other) × (output ≡ text)) where
  one-ran : (ran : Ran) (status : Status) (output : List ℕ) → IsAnswer input ran → IsRunAnswer Text input status output → Is ran status output
  one-ran ran status output (its, text, answers, is) other =
      let same = one its status text output answers other in
      subst (λ (s : Status). Is ran s output) same.0 (subst (λ (bytes : List ℕ). Is ran its bytes) same.1 is)

  pub exact-ran : {E : Type 0} (result : Result Ran E) (status : Status) (output : List ℕ) → IfOk result (IsAnswer input) → IsRunAnswer Text input status output
      → IfOk result (λ ran. Is ran status output)
  exact-ran (Ok ran) status output answers other = one-ran ran status output answers other
  exact-ran (Err e) status output answers other = tt
