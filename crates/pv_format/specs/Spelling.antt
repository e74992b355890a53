-- Which bytes spell a value: what messages and records have in common. Each relation goes by cases on the value.
use Rattle.std.specs.Prelude.{◌≡◌, ℕ, ◌+◌, Bool, nat_lt, nat_le, ◌&&◌, List, [], ◌∷◌, ◌++◌, length, IsTrue, if◌then◌else◌}
use Rattle.pv_base.specs.BigEndian.{IsNumber}
use Rattle.pv_base.specs.declared.grant.GrantId.{GrantId}
use Rattle.pv_base.specs.declared.limits.TheConstants.{MAX_SITES, MAX_ITEMS, MAX_PROGRAM_ITEMS}
use Rattle.pv_base.specs.declared.txn.TxnId.{TxnId}

infixr 20 ◌followed_by◌
-- The bytes are a front that is the one, and then a back that is the other.
pub record ◌followed_by◌ (Front Back : List ℕ → Type 0) (bytes : List ℕ) : Type 0 where
  pub front : List ℕ
  pub back : List ℕ
  pub whole : bytes ≡ front ++ back
  pub first : Front front
  pub second : Back back

-- There are no bytes.
abbrev pub IsEmpty : List ℕ → Type 0
IsEmpty bytes = bytes ≡ []

-- The bytes are the number, in so many bytes, and it is one of those that are allowed.
pub record IsAllowed (size : ℕ) (allows : ℕ → Bool) (number : ℕ) (bytes : List ℕ) : Type 0 where
  pub spelled : IsNumber size number bytes
  pub allowed : IsTrue (allows number)

-- There may be a site of this number.
abbrev pub is_site : ℕ → Bool
is_site number = nat_lt number MAX_SITES

-- The bytes are the number of a site.
abbrev pub IsSite : ℕ → List ℕ → Type 0
IsSite site = IsAllowed 1 is_site site

-- The number stands for a truth value.
abbrev pub is_truth : ℕ → Bool
is_truth number = nat_lt number 2

-- A truth value is 1, or 0 where it is false.
abbrev pub IsTruth : Bool → List ℕ → Type 0
IsTruth truth = IsNumber 1 (if truth then 1 else 0)

-- A transaction is its site, its epoch and its number.
abbrev pub SpellsTxn : TxnId → List ℕ → Type 0
SpellsTxn txn = IsSite txn.site.0 followed_by IsNumber 4 txn.epoch followed_by IsNumber 4 txn.number

-- A grant is its epoch and its number.
abbrev pub SpellsGrant : GrantId → List ℕ → Type 0
SpellsGrant grant = IsNumber 4 grant.epoch followed_by IsNumber 4 grant.number

-- The number is of an item, and at least this one.
abbrev pub is_item_from : ℕ → ℕ → Bool
is_item_from least number = nat_le least number && nat_lt number MAX_ITEMS

-- The number is a count of entries that a program may have, and at least this one.
abbrev pub is_count_from : ℕ → ℕ → Bool
is_count_from fewest number = nat_le fewest number && nat_le number MAX_PROGRAM_ITEMS

module _ {X : Type 0} (Spells : X → List ℕ → Type 0) where
  -- The values, one after another.
  abbrev pub SpellsEach : List X → List ℕ → Type 0
  SpellsEach [] = IsEmpty
  SpellsEach (x ∷ xs) = Spells x followed_by SpellsEach xs

  module _ (item_of : X → ℕ) where
    -- Entries, each with its item in front. The items are ascending, and this is the least that the first may be.
    abbrev pub SpellsEntriesFrom : ℕ → List X → List ℕ → Type 0
    SpellsEntriesFrom least [] = IsEmpty
    SpellsEntriesFrom least (entry ∷ entries) =
        IsAllowed 4 (is_item_from least) (item_of entry) followed_by Spells entry followed_by SpellsEntriesFrom (item_of entry + 1) entries

    -- The count of the entries, at least so many, and then the entries.
    abbrev pub SpellsEntries : ℕ → List X → List ℕ → Type 0
    SpellsEntries fewest entries = IsAllowed 1 (is_count_from fewest) (length entries) followed_by SpellsEntriesFrom 0 entries
