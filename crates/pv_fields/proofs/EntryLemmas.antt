-- Entries, each with its item in front: how they are written one by one.
use Rattle.std.proofs.Common.{ℕ, ◌+◌, List, [], ◌∷◌, ◌++◌, All, refl, sym, ap, ◌∙◌, append_assoc}
use Rattle.std.proofs.lemmas.List.Elements.{All-nil, All-cons}
use Rattle.pv_format.specs.Spelling.{SpellsEach, SpellsEntriesFrom}
use Rattle.pv_fields.specs.Encoding.{SpellsEntry}

module _ {X : Type 0} (Spells : X → List ℕ → Type 0) where
  -- What spells all of them spells each, somewhere.
  pub each_spelled : (xs : List X) (bytes : List ℕ) → SpellsEach Spells xs bytes → All (λ x. (front : List ℕ) × Spells x front) xs
  each_spelled [] bytes spelled = All-nil (λ x. (front : List ℕ) × Spells x front)
  each_spelled (x ∷ xs) bytes spelled =
      All-cons (λ x. (front : List ℕ) × Spells x front) x xs (spelled.front, spelled.first) (each_spelled xs spelled.back spelled.second)

  module _ (item_of : X → ℕ) where
    -- Ascending entries are entries, one after another.
    pub entries_each : (least : ℕ) (xs : List X) (bytes : List ℕ) → SpellsEntriesFrom Spells item_of least xs bytes → SpellsEach (SpellsEntry Spells item_of) xs bytes
    entries_each least [] bytes spelled = spelled
    entries_each least (x ∷ xs) bytes spelled = record {
      front = spelled.front ++ spelled.second.front;
      back = spelled.second.back;
      whole = spelled.whole ∙ ap (λ rest. spelled.front ++ rest) spelled.second.whole ∙ sym (append_assoc spelled.front spelled.second.front spelled.second.back);
      first = record { front = spelled.front; back = spelled.second.front; whole = refl; first = spelled.first.spelled; second = spelled.second.first };
      second = entries_each (item_of x + 1) xs spelled.second.back spelled.second.second;
    }

    -- What an entry has besides its item is spelled, somewhere.
    pub entries_spelled : (xs : List X) (bytes : List ℕ) → SpellsEach (SpellsEntry Spells item_of) xs bytes → All (λ x. (back : List ℕ) × Spells x back) xs
    entries_spelled [] bytes spelled = All-nil (λ x. (back : List ℕ) × Spells x back)
    entries_spelled (x ∷ xs) bytes spelled =
        All-cons (λ x. (back : List ℕ) × Spells x back) x xs (spelled.first.back, spelled.first.second) (entries_spelled xs spelled.back spelled.second)
