-- What an opening reads of a journal: all but the contents.
use Rattle.std.specs.Prelude.{◌≡◌, ◌≢◌, ◌⊎◌, ℕ, ◌+◌, ◌^◌, ◌<◌, ◌≤◌, List, [], ◌∷◌, ◌++◌, length, sum_by, All}
use Rattle.std.specs.List.{flat_map}
use Rattle.pv_base.specs.BigEndian.{big_endian}
use Rattle.pv_format.specs.Journal.{header, HasNoHeader}

-- An open gate and a length, for each of these lengths of contents.
abbrev pub outline_of : List ℕ → List ℕ
outline_of lengths = flat_map (λ count. 1 ∷ big_endian 4 count) lengths

-- The place of the gate after records with contents of these lengths.
abbrev pub place_after : List ℕ → ℕ
place_after lengths = 8 + sum_by (λ count. 5 + count) lengths

-- The header, and an open gate and a length for each record up to this place.
pub record OutlinesTo (lengths : List ℕ) (read : List ℕ) (place : ℕ) : Type 0 where
  pub short : All (λ count. count < 2 ^ 32) lengths
  pub is : read ≡ header ++ outline_of lengths
  pub place_is : place ≡ place_after lengths

-- The header, an open gate and a length for each record, and a closed gate, which stands at this place.
pub record OutlinesJournal (read : List ℕ) (place : ℕ) : Type 0 where
  pub lengths : List ℕ
  pub before : List ℕ
  pub to : OutlinesTo lengths before place
  pub gate : ℕ
  pub closed : gate ≢ 1
  pub is : read ≡ before ++ gate ∷ []

-- After the records up to this place comes an open gate, and after it no length, or one that the disk has no bytes for.
pub record OutlinesShort (read : List ℕ) (place : ℕ) : Type 0 where
  pub lengths : List ℕ
  pub before : List ℕ
  pub to : OutlinesTo lengths before place
  pub rest : List ℕ
  pub few : length rest ≤ 4
  pub is : read ≡ before ++ 1 ∷ rest

-- No journal, which shows at this place: in the header, or at an open gate.
abbrev pub OutlinesNone : List ℕ → ℕ → Type 0
OutlinesNone read place = HasNoHeader read place ⊎ OutlinesShort read place
