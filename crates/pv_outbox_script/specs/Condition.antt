-- The texts that are conditions, apart from a script.
use Rattle.std.specs.Prelude.{◌≡◌, ℕ, ℤ, List, Result, Ok, Err, ⊤}
use Rattle.pv_base.specs.Polyvalue.{Case}
use Rattle.pv_lines.specs.Words.{words_said}
use Rattle.pv_lines.specs.declared.cause.LineFault.{LineFault}
use Rattle.pv_lines.specs.declared.cause.LineFault.TheVariants.{At, NoMemory}
use Rattle.pv_outbox_script.specs.Words.{SpellsCondition}

-- The text is a line whose words spell this condition.
abbrev pub IsCondition : List ℕ → List (Case ℤ) → Type 0
IsCondition text when = (words : List (List ℕ)) × (words_said text ≡ Ok words) × SpellsCondition words when

-- What a reading of such a text answers: the condition, or that it is none.
abbrev pub ReadsText : List ℕ → Result (List (Case ℤ)) LineFault → Type 0
ReadsText text (Ok when) = IsCondition text when
ReadsText text (Err (At _)) = (when : List (Case ℤ)) → IsCondition text when → ⊥
ReadsText text (Err NoMemory) = ⊤
