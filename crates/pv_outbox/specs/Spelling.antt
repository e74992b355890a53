-- Which bytes spell a record of an outbox.
use Rattle.std.specs.Prelude.{◌≡◌, ℕ, List, [], ◌∷◌, Some, take, slice_get, ⊤}
use Rattle.pv_base.specs.BigEndian.{IsNumber}
use Rattle.pv_disk_model.specs.Size.{Contents}
use Rattle.pv_format.specs.PolyvalueSpelling.{SpellsPolyvalue}
use Rattle.pv_format.specs.Spelling.{◌followed_by◌, IsTruth, SpellsTxn}
use Rattle.pv_law_outbox.specs.State.{Record, held, learnt, taken}

-- the first byte of each kind of record
abbrev pub kind_of : Record → ℕ
kind_of (held output when) = 17
kind_of (learnt txn commits) = 18
kind_of (taken output) = 19

-- what stands after it
abbrev pub SpellsContent : Record → List ℕ → Type 0
SpellsContent (held output when) = IsNumber 4 output followed_by SpellsPolyvalue when
SpellsContent (learnt txn commits) = SpellsTxn txn followed_by IsTruth commits
SpellsContent (taken output) = IsNumber 4 output

-- A record is its kind, and what the kind has: an output and its condition, a transaction and its outcome, or an output.
abbrev pub SpellsRecord : Record → List ℕ → Type 0
SpellsRecord entry bytes = (IsNumber 1 (kind_of entry) followed_by SpellsContent entry) bytes

-- The bytes are what stands in the record after its kind, which is this one.
pub record IsContent (kind : ℕ) (entry : Record) (bytes : List ℕ) : Type 0 where
  pub kind_is : kind_of entry ≡ kind
  pub content : SpellsContent entry bytes

-- The bytes are that of no record of this kind.
abbrev pub IsNoContent : ℕ → List ℕ → Type 0
IsNoContent kind bytes = (entry : Record) → IsContent kind entry bytes → ⊥

-- The bytes spell no record.
abbrev pub IsNoRecord : List ℕ → Type 0
IsNoRecord bytes = (entry : Record) → SpellsRecord entry bytes → ⊥

-- There are as many contents as records, and each spells its record.
abbrev pub SpellRecords : List Record → Contents → Type 0
SpellRecords [] [] = ⊤
SpellRecords [] (content ∷ contents) = ⊥
SpellRecords (entry ∷ entries) [] = ⊥
SpellRecords (entry ∷ entries) (content ∷ contents) = SpellsRecord entry content × SpellRecords entries contents

-- The content at this place spells no record, and each before it spells one.
pub record IsFirstBadContent (contents : Contents) (place : ℕ) : Type 0 where
  pub content : List ℕ
  pub there : slice_get contents place ≡ Some content
  pub none : IsNoRecord content
  pub entries : List Record
  pub before : SpellRecords entries (take place contents)
