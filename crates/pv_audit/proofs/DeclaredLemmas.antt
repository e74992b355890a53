-- The declared values, which are those before any transaction.
use Rattle.std.proofs.Common.{◌≡◌, ◌⊎◌, ⊎_elim, ℕ, ℤ, zero, suc, Option, Some, None, List, [], ◌∷◌, ◌++◌, length, map, inl, inr, refl, sym, ap, subst, ◌∙◌}
use Rattle.std.specs.List.{slice_get}
use Rattle.std.specs.Option.{option_map}
use Rattle.pv_base.proofs.Basics.{Some_inj}
use Rattle.std.proofs.lemmas.Option.{slice_get-map}
use Rattle.pv_audit.specs.Reports.{Report}
use Rattle.pv_audit.specs.Values.{AreAllValuesAfter}
use Rattle.pv_base.specs.Catalog.{Declared, Item}
use Rattle.pv_base.specs.Polyvalue.{Case, value_at, IsPolyvalue}
use Rattle.pv_base.specs.declared.limits.TheConstants.{HELD_NAMES}
use Rattle.pv_base.specs.declared.txn.TxnId.{TxnId}
use Rattle.pv_law_values.proofs.SerialLemmas.{value-declared}
use Rattle.pv_protocol.specs.Shown.{declared_or_zero, declared_value}

-- Each of the values is the declared one of its item, whatever the outcomes.
pub record AreDeclared (catalog : Declared) (values : List (List (Case ℤ))) : Type 0 where
  pub polyvalues : (n : ℕ) (cases : List (Case ℤ)) → slice_get values n ≡ Some cases → IsPolyvalue HELD_NAMES cases
  pub each : (n : ℕ) (cases : List (Case ℤ)) → slice_get values n ≡ Some cases → (a : List TxnId) → value_at cases a ≡ Some (declared_value catalog n)

pub none-declared : (catalog : Declared) → AreDeclared catalog []
none-declared catalog = record {
  polyvalues = λ n cases is. absurd (let wrong : ⊥ = cc in wrong);
  each = λ n cases is a. absurd (let wrong : ⊥ = cc in wrong);
}

push-cases : {X : Type 0} (xs : List X) (y x : X) (n : ℕ) → slice_get (xs ++ y ∷ []) n ≡ Some x → (slice_get xs n ≡ Some x) ⊎ ((n ≡ length xs) × (y ≡ x))
push-cases [] y x zero is = inr (refl, Some_inj is)
push-cases [] y x (suc n) is = absurd (let wrong : ⊥ = cc in wrong)
push-cases (first ∷ xs) y x zero is = inl is
push-cases (first ∷ xs) y x (suc n) is =
    ⊎_elim (λ there. inl there) (λ last. inr (ap suc last.0, last.1)) (push-cases xs y x n is)

value-there : (catalog : Declared) (n : ℕ) (z : ℤ) → slice_get (map (λ (declared : Item). declared.value) catalog.items) n ≡ Some z → z ≡ declared_value catalog n
value-there catalog n z is = by (slice_get catalog.items n) (sym (slice_get-map (λ (declared : Item). declared.value) catalog.items n) ∙ is)
  where
    by : (o : Option Item) → option_map (λ (declared : Item). declared.value) o ≡ Some z → z ≡ declared_or_zero o
    by None is = absurd (let wrong : ⊥ = cc in wrong)
    by (Some declared) is = sym (Some_inj is)

-- One value more.
pub declared-more : (catalog : Declared) (values : List (List (Case ℤ))) (cases : List (Case ℤ)) (z : ℤ) → AreDeclared catalog values
    → slice_get (map (λ (declared : Item). declared.value) catalog.items) (length values) ≡ Some z → IsPolyvalue HELD_NAMES cases
    → ((a : List TxnId) → value_at cases a ≡ Some z) → AreDeclared catalog (values ++ cases ∷ [])
declared-more catalog values cases z are there polyvalue value = record {
  polyvalues = λ n found is.
      ⊎_elim
      (λ before. are.polyvalues n found before)
      (λ last. subst (λ (cs : List (Case ℤ)). IsPolyvalue HELD_NAMES cs) last.1 polyvalue)
      (push-cases values cases found n is);
  each = λ n found is a.
      ⊎_elim
      (λ before. are.each n found before a)
      (λ last.
      subst (λ (cs : List (Case ℤ)). value_at cs a ≡ Some (declared_value catalog n)) last.1
      (value a ∙ ap (λ (v : ℤ). Some v) (value-there catalog (length values) z there ∙ ap (declared_value catalog) (sym last.0))))
      (push-cases values cases found n is);
}

pub declared-after : (catalog : Declared) (told : Report) (values : List (List (Case ℤ))) → AreDeclared catalog values → length values ≡ length catalog.items
    → AreAllValuesAfter catalog told [] values
declared-after catalog told values are long = record {
  count = long;
  each = λ n cases is. record {
    canonical = (are.polyvalues n cases is).canonical;
    same = λ a. are.each n cases is a ∙ ap (λ (v : ℤ). Some v) (sym (value-declared catalog n));
  };
  few = λ n cases is. (are.polyvalues n cases is).few;
}
