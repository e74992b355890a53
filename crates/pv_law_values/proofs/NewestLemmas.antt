-- Where an item's value comes from.
use Rattle.std.proofs.Common.{◌≡◌, ℕ, ℤ, Bool, true, false, ◌&&◌, Some, None, Option, List, [], ◌∷◌, ◌++◌, refl, sym, ap, ◌∙◌}
use Rattle.std.specs.Prelude.{is_some, if◌then◌else◌}
use Rattle.std.proofs.lemmas.List.Elements.{All-cons, All-nil}
use Rattle.pv_base.specs.declared.txn.TxnId.{TxnId}
use Rattle.pv_base.specs.Assignment.{commits}
use Rattle.pv_base.specs.Catalog.{Declared}
use Rattle.pv_base.specs.Polyvalue.{Case}
use Rattle.pv_format.specs.Record.{Record, epoch_begun, prepared, outcome_known}
use Rattle.pv_law_step.proofs.WidthLemmas.{newest-more}
use Rattle.pv_law_values.proofs.ChoiceLemmas.{choice-heeding, heeds-front}
use Rattle.pv_law_values.proofs.SupportLemmas.{newest-same}
use Rattle.pv_law_values.specs.Heeds.{Heeds}
use Rattle.pv_law_values.specs.Newest.{does_write, ComesFrom, nothing, write}
use Rattle.pv_model.specs.Alternatives.{Read, number_at}
use Rattle.pv_protocol.specs.Records.{choice}
use Rattle.pv_protocol.specs.Shown.{written, written_or, value_after, newest, declared_value, item_value}

module _ (item : ℕ) (a : List TxnId) where
  -- What comes from records behind one more comes from them all, if that one writes nothing or they do.
  behind-nothing : (kept : Record) (records : List Record) (old now value : ℤ) → does_write item a kept ≡ false → now ≡ old
      → ComesFrom item a now records value → ComesFrom item a old (kept ∷ records) value
  behind-nothing kept records old now value silent same (nothing none is) =
      nothing (All-cons (λ k. does_write item a k ≡ false) kept records silent none) (is ∙ same)
  behind-nothing kept records old now value silent same (write before after txn writes cases split committed wrote none is) =
      write (kept ∷ before) after txn writes cases (ap (λ rest. kept ∷ rest) split) committed wrote none is

  behind-write : (txn : TxnId) (writes : List Read) (cases : List (Case ℤ)) (records : List Record) (old value : ℤ) → commits a txn ≡ true → written item writes ≡ Some cases
      → ComesFrom item a (number_at cases a) records value → ComesFrom item a old (prepared txn writes ∷ records) value
  behind-write txn writes cases records old value committed wrote (nothing none is) = write [] records txn writes cases refl committed wrote none is
  behind-write txn writes cases records old value committed wrote (write before after other others new split is_in there none is) =
      write (prepared txn writes ∷ before) after other others new (ap (λ rest. prepared txn writes ∷ rest) split) is_in there none is

  behind-promise : (txn : TxnId) (writes : List Read) (records : List Record) (old value : ℤ) (b : Bool) (o : Option (List (Case ℤ))) → commits a txn ≡ b → written item writes ≡ o
      → ComesFrom item a (if b then written_or old o a else old) records value → ComesFrom item a old (prepared txn writes ∷ records) value
  behind-promise txn writes records old value false o out is from =
      behind-nothing (prepared txn writes) records old old value (ap (λ b. b && is_some (written item writes)) out) refl from
  behind-promise txn writes records old value true None committed is from =
      behind-nothing (prepared txn writes) records old old value (ap (λ b. b && is_some (written item writes)) committed ∙ ap is_some is) refl from
  behind-promise txn writes records old value true (Some cases) committed is from = behind-write txn writes cases records old value committed is from

  behind-any : (kept : Record) (records : List Record) (old value : ℤ) → ComesFrom item a (value_after item a old kept) records value → ComesFrom item a old (kept ∷ records) value
  behind-any (epoch_begun epoch) records old value from = behind-nothing (epoch_begun epoch) records old old value refl refl from
  behind-any (prepared txn writes) records old value from = behind-promise txn writes records old value (commits a txn) (written item writes) refl refl from
  behind-any (outcome_known txn outcome) records old value from = behind-nothing (outcome_known txn outcome) records old old value refl refl from

  pub comes-from : (records : List Record) (old : ℤ) → ComesFrom item a old records (newest item a old records)
  comes-from [] old = nothing (All-nil (λ k. does_write item a k ≡ false)) refl
  comes-from (kept ∷ records) old =
      behind-any kept records old (newest item a old (kept ∷ records)) (comes-from records (value_after item a old kept))

-- Where the records are heeded, an item's value is that of the newest write by the assignment itself.
pub item-heeding : (catalog : Declared) (records : List Record) (item : ℕ) (a : List TxnId) → Heeds records a
    → item_value catalog records item a ≡ newest item a (declared_value catalog item) records
item-heeding catalog records item a heeds = newest-same item (choice records a) a (choice-heeding records a heeds) records (declared_value catalog item)

pub item-comes-from : (catalog : Declared) (records : List Record) (item : ℕ) (a : List TxnId) → Heeds records a
    → ComesFrom item a (declared_value catalog item) records (item_value catalog records item a)
item-comes-from catalog records item a heeds = moved (item-heeding catalog records item a heeds) (comes-from item a records (declared_value catalog item))
  where
    moved : {old value other : ℤ} → other ≡ value → ComesFrom item a old records value → ComesFrom item a old records other
    moved same (nothing none is) = nothing none (same ∙ is)
    moved same (write before after txn writes cases split committed wrote none is) = write before after txn writes cases split committed wrote none (same ∙ is)

-- One more record does to the item's value what it does to the newest write, where all records are heeded.
pub item-more : (catalog : Declared) (records : List Record) (more : Record) (item : ℕ) (a : List TxnId) → Heeds (records ++ more ∷ []) a
    → item_value catalog (records ++ more ∷ []) item a ≡ value_after item a (item_value catalog records item a) more
item-more catalog records more item a heeds =
    item-heeding catalog (records ++ more ∷ []) item a heeds
    ∙ newest-more item a records more (declared_value catalog item)
    ∙ ap (λ old. value_after item a old more) (sym (item-heeding catalog records item a (heeds-front records (more ∷ []) a heeds)))
