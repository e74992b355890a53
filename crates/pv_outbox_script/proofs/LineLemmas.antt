-- What the words of a line say, and the lines of a script.
use Rattle.std.proofs.Common.{◌≡◌, ℕ, Bool, true, false, List, [], ◌∷◌, ◌++◌, Result, Ok, Err, MatchBool, sym, subst}
use Rattle.std.specs.Prelude.{codes}
use Rattle.std.specs.Str.{bytes_eq}
use Rattle.std.proofs.lemmas.List.{append-nil}
use Rattle.pv_lines.specs.Says.{Gives}
use Rattle.pv_lines.specs.Words.{words_said}
use Rattle.pv_lines.specs.declared.cause.Cause.{Cause}
use Rattle.pv_lines.specs.declared.cause.LineFault.{LineFault}
use Rattle.pv_lines.specs.declared.cause.LineFault.TheVariants.{At, NoMemory}
use Rattle.pv_model.specs.Text.{TextLine}
use Rattle.pv_outbox_script.specs.Held.{ReadsHold, ReadsWords, same}
use Rattle.pv_outbox_script.specs.Script.{AreEvents, ReadsLine, SaysBy}
use Rattle.pv_outbox_script.specs.Words.{HoldSays, plain_said}
use Rattle.pv_outbox_script.specs.declared.event.Event.{Event}

module _ (word : List ℕ) (args : List (List ℕ)) where
  plain-says : bytes_eq word (codes "hold") ≡ false → (said : Result Event Cause) → plain_said word args ≡ said
      → MatchBool (bytes_eq word (codes "hold")) (HoldSays args said) (said ≡ plain_said word args)
  plain-says other said is = subst (λ (b : Bool). MatchBool b (HoldSays args said) (said ≡ plain_said word args)) (sym other) (sym is)

  hold-says : bytes_eq word (codes "hold") ≡ true → (said : Result Event Cause) → HoldSays args said
      → MatchBool (bytes_eq word (codes "hold")) (HoldSays args said) (said ≡ plain_said word args)
  hold-says hold said says = subst (λ (b : Bool). MatchBool b (HoldSays args said) (said ≡ plain_said word args)) (sym hold) says

  -- The words of a line that isn't `hold`.
  pub plain-words : bytes_eq word (codes "hold") ≡ false → (result : Result Event LineFault) → Gives same (plain_said word args) result → ReadsWords (word ∷ args) result
  plain-words other (Ok event) gives = plain-says other (Ok event) gives
  plain-words other (Err (At cause)) gives = plain-says other (Err cause) gives
  plain-words other (Err NoMemory) gives = tt

  -- The words of one that is.
  pub hold-words : bytes_eq word (codes "hold") ≡ true → (result : Result Event LineFault) → ReadsHold args result → ReadsWords (word ∷ args) result
  hold-words hold (Ok event) reads = hold-says hold (Ok event) reads
  hold-words hold (Err (At cause)) reads = hold-says hold (Err cause) reads
  hold-words hold (Err NoMemory) reads = tt

-- The line has these words.
pub line-by : (line : TextLine) (words : List (List ℕ)) (result : Result Event LineFault) → words_said line ≡ Ok words → ReadsWords words result → ReadsLine line result
line-by line words (Ok event) is reads = subst (λ (found : Result (List (List ℕ)) Cause). SaysBy found (Ok event)) (sym is) reads
line-by line words (Err (At cause)) is reads = subst (λ (found : Result (List (List ℕ)) Cause). SaysBy found (Err cause)) (sym is) reads
line-by line words (Err NoMemory) is reads = tt

-- No line is left.
pub read-all : (left all : List (ℕ × TextLine)) → left ≡ [] → (events : List Event) → ((more : List Event) → AreEvents left more → AreEvents all (events ++ more)) → AreEvents all events
read-all left all none events read =
    subst (AreEvents all) (append-nil events) (read [] (subst (λ (lines : List (ℕ × TextLine)). AreEvents lines []) (sym none) tt))
