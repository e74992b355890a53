-- How a journal is read from a disk.
pub use Rattle.pv_law_calls.specs.Reading.{Looks, LooksOn, LooksBy, Gave}
use Rattle.std.specs.Prelude.{◌≡◌, ◌≢◌, ◌⊎◌, ℕ, ◌+◌, ◌^◌, ◌<◌, ◌≤◌, List, [], ◌∷◌, ◌++◌, Option, Some, None, length, Vec}
use Rattle.std.specs.declared.alloc.Global.{Global}
use Rattle.pv_disk_model.specs.Size.{Contents}
use Rattle.pv_base.specs.BigEndian.{big_endian}
use Rattle.pv_format.specs.Journal.{header, framed, record_of, records_of, AreShort, IsCut}
use Rattle.pv_journal.specs.declared.reading.Gate.{Gate}
use Rattle.pv_journal.specs.declared.reading.Gate.TheVariants.{Closed, Open}

-- Up to this place the bytes are the header and records of these contents, and there are more.
pub record ReadsTo (contents : Contents) (bytes : List ℕ) (place : ℕ) : Type 0 where
  pub short : AreShort contents
  pub body : List ℕ
  pub is : bytes ≡ header ++ (records_of contents ++ body)
  pub some : 0 < length body
  pub place_is : place ≡ 8 + length (records_of contents)

-- What stands at a gate: a closed one, or an open one with a content of so many bytes and the next gate after it.
abbrev pub StandsAt : List ℕ → Gate → Type 0
StandsAt rest Closed = (gate : ℕ) × (more : List ℕ) × (gate ≢ 1) × (rest ≡ gate ∷ more)
StandsAt rest (Open count) =
    (content : List ℕ) × (gate : ℕ) × (more : List ℕ) × (length content ≡ count) × (rest ≡ 1 ∷ (framed content ++ gate ∷ more))

-- An open gate, and what follows it is cut.
abbrev pub StandsCut : List ℕ → Type 0
StandsCut bytes = (rest : List ℕ) × (bytes ≡ 1 ∷ rest) × IsCut rest

-- The place after a record whose content has so many bytes is before the end.
abbrev pub EndsBefore : Gate → ℕ → Type 0
EndsBefore Closed left = Unit {0}
EndsBefore (Open count) left = (count + 5 < left) × (count < 2 ^ 32)

-- A closed gate, or an open record with this content and the next gate after it.
abbrev pub HoldsRecord : List ℕ → Option (Vec ℕ Global) → Type 0
HoldsRecord rest None = StandsAt rest Closed
HoldsRecord rest (Some content) = (gate : ℕ) × (more : List ℕ) × (rest ≡ 1 ∷ (framed content.items ++ gate ∷ more))

-- The header and the records of these contents were read, up to this place.
pub record HasRead (contents : Contents) (read : List ℕ) (place : ℕ) : Type 0 where
  pub short : AreShort contents
  pub is : read ≡ header ++ records_of contents
  pub place_is : place ≡ 8 + length (records_of contents)

-- What is read at a gate: a closed one, or an open one with a length after it.
abbrev pub IsGate : List ℕ → Gate → Type 0
IsGate read Closed = (gate : ℕ) × (gate ≢ 1) × (read ≡ gate ∷ [])
IsGate read (Open count) = read ≡ 1 ∷ big_endian 4 count

-- What is read behind an open gate after which no whole record comes, where so many bytes are left from the gate on: no length, for which there is no room; or one for whose
-- content there is none, with the next gate.
abbrev pub RunsPast : List ℕ → ℕ → Type 0
RunsPast rest left = ((rest ≡ []) × (left < 5)) ⊎ ((count : ℕ) × (count < 2 ^ 32) × (rest ≡ big_endian 4 count) × (left ≤ count + 5))

-- What is read at such a gate: it, and what is read behind it, which has at most four bytes.
abbrev pub IsOpenEnd : ℕ → List ℕ → Type 0
IsOpenEnd left read = (rest : List ℕ) × (length rest ≤ 4) × (read ≡ 1 ∷ rest) × RunsPast rest left

-- What is read of a record: a closed gate, or all of the record with this content.
abbrev pub IsRecord : List ℕ → Option (Vec ℕ Global) → Type 0
IsRecord read None = IsGate read Closed
IsRecord read (Some content) = read ≡ record_of content.items
