-- Which bytes are a journal, with which contents, and where it shows that others are none.
use Rattle.std.specs.Prelude.{◌≡◌, ◌≢◌, ◌⊎◌, ℕ, ◌+◌, ◌^◌, ◌<◌, ◌≤◌, List, ◌∷◌, ◌++◌, length, take, slice_index, All, codes}
use Rattle.std.specs.List.{flat_map}
use Rattle.pv_base.specs.BigEndian.{big_endian}
use Rattle.pv_disk_model.specs.Size.{Contents}

-- What a journal begins with.
abbrev pub header : List ℕ
header = codes "PVJRNL01"

-- A content with its length before it.
abbrev pub framed : List ℕ → List ℕ
framed content = big_endian 4 (length content) ++ content

-- An open record: a gate of 1, and a content with its length before it.
abbrev pub record_of : List ℕ → List ℕ
record_of content = 1 ∷ framed content

-- The records of these contents, one after another.
abbrev pub records_of : Contents → List ℕ
records_of contents = flat_map record_of contents

-- Four bytes have room for the length of each content.
abbrev pub AreShort : Contents → Type 0
AreShort contents = All (λ content. length content < 2 ^ 32) contents

-- A journal with these contents: the header, a record for each, a closed gate, and whatever follows.
pub record IsJournal (contents : Contents) (bytes : List ℕ) : Type 0 where
  pub short : AreShort contents
  pub gate : ℕ
  pub rest : List ℕ
  pub closed : gate ≢ 1
  pub is : bytes ≡ header ++ (records_of contents ++ gate ∷ rest)

-- The place of its closed gate.
abbrev pub end_of : Contents → ℕ
end_of contents = 8 + length (records_of contents)

-- Of the header and the first gate this is the first byte that is missing or isn't the header's.
pub record HasNoHeader (bytes : List ℕ) (place : ℕ) : Type 0 where
  pub within : place ≤ 8
  pub before : take place bytes ≡ take place header
  pub reached : place ≤ length bytes
  pub wrong : (length bytes ≡ place) ⊎ ((place < 8) × (slice_index bytes place ≢ slice_index header place))

-- After an open gate no whole record comes, with a gate after it.
abbrev pub IsCut : List ℕ → Type 0
IsCut rest = (content more : List ℕ) (gate : ℕ) → length content < 2 ^ 32 → rest ≡ framed content ++ gate ∷ more → ⊥

-- After these records comes an open gate, at this place, and what follows it is cut.
pub record EndsShort (contents : Contents) (bytes : List ℕ) (place : ℕ) : Type 0 where
  pub short : AreShort contents
  pub rest : List ℕ
  pub is : bytes ≡ header ++ (records_of contents ++ 1 ∷ rest)
  pub cut : IsCut rest
  pub place_is : place ≡ end_of contents

-- No journal, which shows at this place: in the header, or at an open gate.
abbrev pub IsNotOurs : List ℕ → ℕ → Type 0
IsNotOurs bytes place = HasNoHeader bytes place ⊎ ((contents : Contents) × EndsShort contents bytes place)
