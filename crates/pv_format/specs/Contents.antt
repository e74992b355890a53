-- The records as which the contents of a journal are read.
use Rattle.std.specs.Prelude.{◌≡◌, ℕ, max, List, [], ◌∷◌, take, slice_get, Some, ⊤}
use Rattle.pv_format.specs.Record.{Record, epoch_begun}
use Rattle.pv_format.specs.RecordSpelling.{IsReadAs, SpellsRecord}

-- The bytes are read as no record.
abbrev pub IsNoRecord : List ℕ → Type 0
IsNoRecord bytes = (record_ : Record) → IsReadAs record_ bytes → ⊥

-- There are as many contents as records, and each is read as its record.
abbrev pub SpellRecords : List Record → List (List ℕ) → Type 0
SpellRecords [] [] = ⊤
SpellRecords [] (content ∷ contents) = ⊥
SpellRecords (record_ ∷ records) [] = ⊥
SpellRecords (record_ ∷ records) (content ∷ contents) = IsReadAs record_ content × SpellRecords records contents

-- There are as many contents as records, and each is its record as it is written.
abbrev pub AreWritten : List Record → List (List ℕ) → Type 0
AreWritten [] [] = ⊤
AreWritten [] (content ∷ contents) = ⊥
AreWritten (record_ ∷ records) [] = ⊥
AreWritten (record_ ∷ records) (content ∷ contents) = SpellsRecord record_ content × AreWritten records contents

-- The content at this place is read as no record, and each before it as one.
pub record IsFirstBadContent (contents : List (List ℕ)) (place : ℕ) : Type 0 where
  pub content : List ℕ
  pub there : slice_get contents place ≡ Some content
  pub none : IsNoRecord content
  pub records : List Record
  pub before : SpellRecords records (take place contents)

-- the greatest epoch that is recorded, or 0
abbrev pub greatest_epoch : List Record → ℕ
greatest_epoch [] = 0
greatest_epoch (epoch_begun epoch ∷ records) = max epoch (greatest_epoch records)
greatest_epoch (other ∷ records) = greatest_epoch records
