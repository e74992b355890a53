-- The words of a line that counts.
use Rattle.std.specs.Prelude.{ℕ, nat_lt, List, length, map, Result, Ok, Err, if◌then◌else◌}
use Rattle.std.specs.List.{list_all}
use denote.Ref.{Bor}
use Rattle.pv_base.specs.declared.limits.TheConstants.{MAX_LINE}
use Rattle.pv_lines.specs.declared.cause.Cause.{Cause}
use Rattle.pv_lines.specs.declared.cause.Cause.TheVariants.{TooLong, NotText}
use Rattle.pv_model.specs.Text.{TextLine, is_text_byte, words}

-- words in memory, as what they are
abbrev pub texts : List (Bor (List ℕ)) → List (List ℕ)
texts found = map (λ (word : Bor (List ℕ)). word.now) found

-- The words of a line, or what is wrong with it whatever it says: that it has too many bytes, or one that isn't printable and no tab.
abbrev pub words_said : TextLine → Result (List (List ℕ)) Cause
words_said line =
    if nat_lt MAX_LINE (length line) then Err TooLong
    else (if list_all is_text_byte line then Ok (words line) else Err NotText)
