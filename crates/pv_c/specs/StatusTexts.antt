-- What C gets of the text of a status.
use Rattle.std.specs.Prelude.{◌≡◌, ℕ, ◌==◌, List, find, Option, Some, None}
use Rattle.std.specs.Option.{option_map}
use Rattle.pv_c.specs.Run.{PutsText}
use Rattle.pv_c.specs.declared.status_text.TheConstants.{STATUS_TEXTS}

-- the text beside the first such status of the table
unfoldable pub told_text : ℕ → Option (List ℕ)
told_text status = option_map (λ entry. entry.1.now) (find (λ entry. status == entry.0) STATUS_TEXTS)

-- The text goes where there is room for all of it; or there is no such status.
abbrev pub GivesText : Option (List ℕ) → List ℕ → List ℕ → ℕ → ℕ → Type 0
GivesText None room out count number = (number ≡ 19) × (count ≡ 0) × (out ≡ room)
GivesText (Some text) room out count number = PutsText 0 text room out count number
