-- Rows of different items in any order: each has its value.
use Rattle.std.proofs.Common.{arith, ◌≡◌, ⊎_elim, ℕ, pos, Bool, true, false, List, [], ◌∷◌, refl, sym, ap, ◌∙◌}
use Rattle.std.specs.Prelude.{◌==◌, if◌then◌else◌}
use Rattle.std.specs.List.{AllPairs, Contains}
use Rattle.std.specs.List.Sorted.{IsPermutation}
use Rattle.std.proofs.lemmas.Bool.{false≢true}
use Rattle.std.proofs.lemmas.Bool.Decides.{nat_tests}
use Rattle.std.proofs.lemmas.List.Sorted.{Contains-permutation, IsPermutation-sym}
use Rattle.pv_base.proofs.ContainsLemmas.{Contains-first, Contains-behind, Contains-nil, Contains-cases}
use Rattle.pv_base.proofs.OrderLemmas.{pairs-first, pairs-tail}
use Rattle.pv_model.specs.Items.{lacks}
use Rattle.pv_model.specs.Meaning.{Row, value_in}
use Rattle.pv_model.specs.ProgramLaws.{HaveSameValues}

-- No two rows have one item.
abbrev pub AreApart : List Row → Type 0
AreApart rows = AllPairs (λ (row later : Row). (row.item == later.item) ≡ false) rows

-- A row of the item, if it isn't lacking.
found : (rows : List Row) (n : ℕ) → lacks rows n ≡ false → (row : Row) × Contains rows row × ((row.item == n) ≡ true)
found [] n there = absurd (false≢true (sym there))
found (row ∷ rows) n there = by (row.item == n) refl there (found rows n) where
  by : (b : Bool) → (row.item == n) ≡ b → (if b then false else lacks rows n) ≡ false → (lacks rows n ≡ false → (later : Row) × Contains rows later × ((later.item == n) ≡ true))
      → (there : Row) × Contains (row ∷ rows) there × ((there.item == n) ≡ true)
  by true is at behind = (row, Contains-first row rows, is)
  by false is at behind = let later = behind at in (later.0, Contains-behind row rows later.0 later.1, later.2)

same_item : (row other : Row) (n : ℕ) → (row.item == n) ≡ true → (other.item == n) ≡ true → (row.item == other.item) ≡ true
same_item row other n is at = grind (arith, nat_tests, is, at)

-- What a list lacks isn't in it.
absent : (rows : List Row) (n : ℕ) → lacks rows n ≡ true → (row : Row) → Contains rows row → (row.item == n) ≡ true → ⊥
absent [] n lacking row there is = Contains-nil row there
absent (first ∷ rows) n lacking row there is = by (first.item == n) refl lacking (λ gone behind. absent rows n gone row behind is) where
  by : (b : Bool) → (first.item == n) ≡ b → (if b then false else lacks rows n) ≡ true → (lacks rows n ≡ true → Contains rows row → ⊥) → ⊥
  by true at gone rest = false≢true gone
  by false at gone rest =
      ⊎_elim (λ same. false≢true (sym at ∙ ap (λ (r : Row). r.item == n) same ∙ is)) (λ behind. rest gone behind) (Contains-cases first rows row there)

-- A lacking item has the value 0.
valueless : (rows : List Row) (n : ℕ) → lacks rows n ≡ true → value_in rows n ≡ pos 0
valueless [] n lacking = refl
valueless (row ∷ rows) n lacking = by (row.item == n) lacking (valueless rows n) where
  by : (b : Bool) → (if b then false else lacks rows n) ≡ true → (lacks rows n ≡ true → value_in rows n ≡ pos 0) → (if b then row.value else value_in rows n) ≡ pos 0
  by true gone rest = absurd (false≢true gone)
  by false gone rest = rest gone

-- A row's value is that of its item.
pub valued : (rows : List Row) (n : ℕ) (row : Row) → AreApart rows → Contains rows row → (row.item == n) ≡ true → value_in rows n ≡ row.value
valued [] n row apart there is = absurd (Contains-nil row there)
valued (first ∷ rows) n row apart there is =
    by (first.item == n) refl (λ behind. valued rows n row (pairs-tail (λ (r later : Row). (r.item == later.item) ≡ false) first rows apart) behind is) where
      by : (b : Bool) → (first.item == n) ≡ b → (Contains rows row → value_in rows n ≡ row.value) → (if b then first.value else value_in rows n) ≡ row.value
      by true at rest =
          ⊎_elim (λ same. ap (λ (r : Row). r.value) same)
          (λ behind. absurd (false≢true (sym (pairs-first (λ (r later : Row). (r.item == later.item) ≡ false) first rows apart row behind) ∙ same_item first row n at is)))
          (Contains-cases first rows row there)
      by false at rest =
          ⊎_elim (λ same. absurd (false≢true (sym at ∙ ap (λ (r : Row). r.item == n) same ∙ is))) (λ behind. rest behind) (Contains-cases first rows row there)

-- Rows of different items in two orders have the same values.
pub same_in_any_order : (rows others : List Row) → AreApart rows → AreApart others → IsPermutation rows others → HaveSameValues rows others
same_in_any_order rows others apart others_apart permuted n = by (lacks rows n) (lacks others n) refl refl where
  by : (b c : Bool) → lacks rows n ≡ b → lacks others n ≡ c → (b ≡ c) × (value_in rows n ≡ value_in others n)
  by true true none no_other = (refl, valueless rows n none ∙ sym (valueless others n no_other))
  by true false none other =
      let there = found others n other in
      absurd (absent rows n none there.0 (Contains-permutation others rows there.0 (IsPermutation-sym rows others permuted) there.1) there.2)
  by false true some no_other =
      let there = found rows n some in
      absurd (absent others n no_other there.0 (Contains-permutation rows others there.0 permuted there.1) there.2)
  by false false some other =
      let there = found rows n some in
      (refl, valued rows n there.0 apart there.1 there.2 ∙ sym (valued others n there.0 others_apart (Contains-permutation rows others there.0 permuted there.1) there.2))
