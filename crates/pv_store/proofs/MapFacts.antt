-- Maps by transaction, in the words of the store.
use Rattle.std.proofs.Common.{◌≡◌, Result, Ok, Err, ℕ, Bool, true, false, cond, Some, Option, List, [], ◌∷◌, length, map, ◌==◌, arith, refl, sym, ap, ap₂, ◌∙◌, ◌||◌, ◌&&◌, None}
use Rattle.std.specs.Prelude.{if◌then◌else◌}
use Rattle.std.specs.List.{list_any}
use Rattle.std.specs.Option.{option_map_or}
use Rattle.std.specs.Result.{IsOk, OnOk}
use Rattle.std.proofs.lemmas.Bool.{false≢true}
use Rattle.std.specs.Map.{lookup}
use Rattle.pv_base.specs.Assignment.{is_same_txn}
use Rattle.pv_base.proofs.AssignmentLemmas.{same-eq, same-refl, same-sym}
use Rattle.pv_law_step.proofs.ShownLemmas.{if-same}
use Rattle.pv_base.specs.declared.catalog.ItemId.{ItemId}
use Rattle.pv_base.specs.declared.txn.TxnId.{TxnId}
use Rattle.pv_base.specs.contracts.txn.TxnIdPartialEq.TheImpl as txn_eq
use Rattle.pv_store.specs.Held.{outcome_in}
use Rattle.pv_store.specs.Kept.{has_place}
use Rattle.pv_store.specs.PlacesView.{items_by}
use Rattle.pv_store.specs.StandingHere.{is_one_of}

-- the test of keys that the maps make
abbrev pub is_key : TxnId → TxnId → Bool
is_key = txn_eq.ghosts.eq

and-assoc : (a b c : Bool) → a && (b && c) ≡ (a && b) && c
and-assoc true b c = refl
and-assoc false b c = refl

pub is_key-same : (t u : TxnId) → is_key t u ≡ is_same_txn t u
is_key-same t u = and-assoc (t.site.0 == u.site.0) (t.epoch == u.epoch) (t.number == u.number)

pub lookup-outcome : (entries : List (TxnId × Bool)) (txn : TxnId) → lookup (is_key txn) entries ≡ outcome_in entries txn
lookup-outcome [] txn = refl
lookup-outcome (entry ∷ entries) txn =
    ap₂ (λ (test : Bool) (rest : Option Bool). cond test (Some entry.1) rest) (is_key-same txn entry.0) (lookup-outcome entries txn)

-- an item among the numbers of items
pub any-map : (item : ℕ) (items : List ItemId) → list_any (λ other. item == other) (map (λ (i : ItemId). i.0) items) ≡ is_one_of item items
any-map item [] = refl
any-map item (first ∷ items) = ap (λ rest. (item == first.0) || rest) (any-map item items)

pub on-ok : {T E P : Type 0} (r : Result T E) → IsOk r → OnOk r P → P
on-ok (Ok x) is p = p
on-ok (Err e) is p = absurd (false≢true is)

pub key-apart : (txn other : TxnId) → is_same_txn other txn ≡ false → is_key txn other ≡ false
key-apart txn other apart = is_key-same txn other ∙ same-sym txn other ∙ apart

-- An index of items by transaction, in which these are the items of an entry.
module _ {X : Type 0} (items : X → List ItemId) where
  -- The item is among those of the entry, if there is one.
  abbrev pub is_found : ℕ → Option X → Bool
  is_found item found = option_map_or (λ (x : X). is_one_of item (items x)) found false

  place-by : (test : Bool) (item : ℕ) (first : X) (rest : Option X) (else_ : Bool) → else_ ≡ is_found item rest
      → (if test then list_any (λ other. item == other) (map (λ (i : ItemId). i.0) (items first)) else else_) ≡ is_found item (cond test (Some first) rest)
  place-by true item first rest else_ same = any-map item (items first)
  place-by false item first rest else_ same = same

  pub place-lookup : (entries : List (TxnId × X)) (txn : TxnId) (item : ℕ) → has_place (items_by items entries) txn item ≡ is_found item (lookup (is_key txn) entries)
  place-lookup [] txn item = refl
  place-lookup (entry ∷ entries) txn item =
      place-by (is_same_txn txn entry.0) item entry.1 (lookup (is_key txn) entries) (has_place (items_by items entries) txn item) (place-lookup entries txn item)
      ∙ ap (λ (test : Bool). is_found item (cond test (Some entry.1) (lookup (is_key txn) entries))) (sym (is_key-same txn entry.0))

  -- Where one transaction has another entry, or none any more, its items are that entry's, and the others' are what they were.
  pub place-update : (old new : List (TxnId × X)) (txn : TxnId) (after : Option X)
      → ((other : TxnId) → lookup (is_key other) new ≡ cond (is_key txn other) after (lookup (is_key other) old))
      → (other : TxnId) (item : ℕ) → has_place (items_by items new) other item
      ≡ (if is_same_txn other txn then is_found item after else has_place (items_by items old) other item)
  place-update old new txn after updates other item =
      place-lookup new other item
      ∙ ap (is_found item) (updates other ∙ ap (λ (test : Bool). cond test after (lookup (is_key other) old)) (is_key-same txn other ∙ same-sym txn other))
      ∙ by-test (is_same_txn other txn)
    where
      by-test : (test : Bool) → is_found item (cond test after (lookup (is_key other) old)) ≡ (if test then is_found item after else has_place (items_by items old) other item)
      by-test true = refl
      by-test false = sym (place-lookup old other item)

  -- Without entries, nothing has a place.
  pub place-nowhere : (entries : List (TxnId × X)) → length entries ≡ 0 → (other : TxnId) (item : ℕ) → has_place (items_by items entries) other item ≡ false
  place-nowhere [] none other item = refl
  place-nowhere (entry ∷ entries) none other item = absurd (omega (arith, none))

  -- What has a place at a transaction is what its entry has.
  pub place-found : (entries : List (TxnId × X)) (txn : TxnId) (found : Option X) → lookup (is_key txn) entries ≡ found
      → (other : TxnId) (item : ℕ) → is_same_txn other txn ≡ true → has_place (items_by items entries) other item ≡ is_found item found
  place-found entries txn found is other item same =
      ap (λ (t : TxnId). has_place (items_by items entries) t item) (same-eq {t = other} {u = txn} same) ∙ place-lookup entries txn item ∙ ap (is_found item) is

  -- Where there is no entry, there is nothing to take away.
  pub place-absent : (entries : List (TxnId × X)) (txn : TxnId) → lookup (is_key txn) entries ≡ None → (stays : ℕ → Bool) → (other : TxnId) (item : ℕ)
      → has_place (items_by items entries) other item
      ≡ (if is_same_txn other txn then stays item && has_place (items_by items entries) other item else has_place (items_by items entries) other item)
  place-absent entries txn none stays other item = by-same (is_same_txn other txn) refl
    where
      and-nothing : (b : Bool) → (b && false) ≡ false
      and-nothing true = refl
      and-nothing false = refl

      by-same : (test : Bool) → is_same_txn other txn ≡ test → has_place (items_by items entries) other item
          ≡ (if test then stays item && has_place (items_by items entries) other item else has_place (items_by items entries) other item)
      by-same true same =
          let nowhere = place-found entries txn None none other item same in
          nowhere ∙ sym (ap (λ (had : Bool). stays item && had) nowhere ∙ and-nothing (stays item))
      by-same false apart = refl

  module _ (old new : List (TxnId × X)) (txn : TxnId) (before after : Option X) (found : lookup (is_key txn) old ≡ before)
      (updates : (other : TxnId) → lookup (is_key other) new ≡ cond (is_key txn other) after (lookup (is_key other) old)) where
    -- What the change makes of the entry's items it makes of the transaction's places.
    pub place-change : (becomes : ℕ → Bool → Bool) → ((item : ℕ) → is_found item after ≡ becomes item (is_found item before)) → (other : TxnId) (item : ℕ)
        → has_place (items_by items new) other item
        ≡ (if is_same_txn other txn then becomes item (has_place (items_by items old) other item) else has_place (items_by items old) other item)
    place-change becomes changes other item = place-update old new txn after updates other item ∙ by-same (is_same_txn other txn) refl
      where
        by-same : (test : Bool) → is_same_txn other txn ≡ test → (if test then is_found item after else has_place (items_by items old) other item)
            ≡ (if test then becomes item (has_place (items_by items old) other item) else has_place (items_by items old) other item)
        by-same true same = changes item ∙ ap (becomes item) (sym (place-found old txn before found other item same))
        by-same false apart = refl

    -- Where the entry has the items that it had, nothing changes.
    pub place-kept : ((item : ℕ) → is_found item after ≡ is_found item before) → (other : TxnId) (item : ℕ)
        → has_place (items_by items new) other item ≡ has_place (items_by items old) other item
    place-kept keeps other item = place-change (λ there had. had) keeps other item ∙ if-same (is_same_txn other txn) (has_place (items_by items old) other item)

    -- Where it has all of them, nothing is lost.
    pub place-more : ((item : ℕ) → is_found item before ≡ true → is_found item after ≡ true) → (other : TxnId) (item : ℕ)
        → has_place (items_by items old) other item ≡ true → has_place (items_by items new) other item ≡ true
    place-more keeps other item is = place-update old new txn after updates other item ∙ by-same (is_same_txn other txn) refl
      where
        by-same : (test : Bool) → is_same_txn other txn ≡ test → (if test then is_found item after else has_place (items_by items old) other item) ≡ true
        by-same true same = keeps item (sym (place-found old txn before found other item same) ∙ is)
        by-same false apart = is

    -- What is among its items has its place there.
    pub place-put : (item : ℕ) → is_found item after ≡ true → has_place (items_by items new) txn item ≡ true
    place-put item is =
        place-update old new txn after updates txn item
        ∙ ap (λ (test : Bool). if test then is_found item after else has_place (items_by items old) txn item) (same-refl txn)
        ∙ is
