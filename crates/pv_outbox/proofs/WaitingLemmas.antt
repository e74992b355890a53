-- Maps by transaction, in the words of what waits.
use Rattle.std.proofs.Common.{◌≡◌, ℕ, Bool, true, false, cond, Some, None, Option, ◌==◌, ◌&&◌, Result, Ok, Err, refl, sym, ap, subst, ◌∙◌}
use Rattle.std.specs.Prelude.{nat_eq}
use Rattle.std.specs.Global.{Vec}
use Rattle.std.specs.List.{list_any}
use Rattle.std.specs.Map.{lookup}
use Rattle.std.specs.Option.{option_map_or}
use Rattle.std.specs.Result.{OnOk}
use Rattle.std.proofs.lemmas.Bool.{false≢true}
use Rattle.pv_base.specs.Assignment.{is_same_txn}
use Rattle.pv_base.specs.contracts.txn.TxnIdPartialEq.TheImpl as txn_eq
use Rattle.pv_base.specs.declared.txn.TxnId.{TxnId}
use Rattle.pv_base.proofs.AssignmentLemmas.{same-eq, same-refl, same-sym}
use Rattle.pv_outbox.specs.Covers.{Waiting, waits_for}

-- the test of keys that the map makes
abbrev pub is_key : TxnId → TxnId → Bool
is_key = txn_eq.ghosts.eq

and-assoc : (a b c : Bool) → a && (b && c) ≡ (a && b) && c
and-assoc true b c = refl
and-assoc false b c = refl

pub is_key-same : (t u : TxnId) → is_key t u ≡ is_same_txn t u
is_key-same t u = and-assoc (t.site.0 == u.site.0) (t.epoch == u.epoch) (t.number == u.number)

pub key-apart : (txn other : TxnId) → is_same_txn other txn ≡ false → is_key txn other ≡ false
key-apart txn other apart = is_key-same txn other ∙ same-sym txn other ∙ apart

-- The place is among these.
abbrev pub is_in : ℕ → Vec ℕ → Bool
is_in place places = list_any (nat_eq place) places.items

-- A map in which one transaction has other places.
module _ (old new : Waiting) (txn : TxnId) (places : Vec ℕ)
    (updates : (other : TxnId) → lookup (is_key other) new ≡ cond (is_key txn other) (Some places) (lookup (is_key other) old)) where
  more-by : (other : TxnId) (place : ℕ) (test : Bool) → is_key txn other ≡ test → ((there : ℕ) → waits_for old txn there ≡ true → is_in there places ≡ true)
      → waits_for old other place ≡ true → option_map_or (is_in place) (cond test (Some places) (lookup (is_key other) old)) false ≡ true
  more-by other place true same kept is =
      kept place (subst (λ (t : TxnId). waits_for old t place ≡ true) (sym (same-eq (sym (is_key-same txn other) ∙ same))) is)
  more-by other place false apart kept is = is

  -- Where it has all that it had, nothing is lost.
  pub waits-more : ((there : ℕ) → waits_for old txn there ≡ true → is_in there places ≡ true)
      → (other : TxnId) (place : ℕ) → waits_for old other place ≡ true → waits_for new other place ≡ true
  waits-more kept other place is =
      ap (λ found. option_map_or (is_in place) found false) (updates other) ∙ more-by other place (is_key txn other) refl kept is

  -- What is among its places waits for it.
  pub waits-put : (place : ℕ) → is_in place places ≡ true → waits_for new txn place ≡ true
  waits-put place is =
      ap (λ found. option_map_or (is_in place) found false)
      (updates txn ∙ ap (λ test. cond test (Some places) (lookup (is_key txn) old)) (is_key-same txn txn ∙ same-refl txn))
      ∙ is

pub ok-then : {T E P Q : Type 0} (result : Result T E) → (P → Q) → OnOk result P → OnOk result Q
ok-then (Ok x) then_ p = then_ p
ok-then (Err e) then_ p = p

-- What is found among places that are there is among them.
pub in-found : (found : Option (Vec ℕ)) (places : Vec ℕ) → found ≡ Some places → (there : ℕ)
    → option_map_or (is_in there) found false ≡ true → is_in there places ≡ true
in-found found places is there h = subst (λ (o : Option (Vec ℕ)). option_map_or (is_in there) o false ≡ true) is h

-- Where there are none, nothing is found.
pub in-none : (found : Option (Vec ℕ)) → found ≡ None → (there : ℕ) → option_map_or (is_in there) found false ≡ true → ⊥
in-none found is there h = false≢true (subst (λ (o : Option (Vec ℕ)). option_map_or (is_in there) o false ≡ true) is h)
