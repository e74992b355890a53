-- What is written of one entry of a list.
use Rattle.std.specs.Prelude.{ℕ, List}
use Rattle.pv_base.specs.BigEndian.{IsNumber}
use Rattle.pv_format.specs.Spelling.{◌followed_by◌}

-- The bytes are the entry's item, and then what it has besides. Nothing is said of the order of items.
abbrev pub SpellsEntry : {X : Type 0} → (X → List ℕ → Type 0) → (X → ℕ) → X → List ℕ → Type 0
SpellsEntry Spells item_of entry = IsNumber 4 (item_of entry) followed_by Spells entry
