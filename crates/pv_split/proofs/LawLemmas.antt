-- The rows of the items that a program assigns, and their values.
use Rattle.std.proofs.Common.{◌≡◌, ℕ, ℤ, Bool, true, false, List, [], ◌∷◌, cond, sym, ap, ◌∙◌, refl}
use Rattle.std.specs.Prelude.{◌==◌}
use Rattle.std.proofs.lemmas.Bool.{eqb-true, true≢false}
use Rattle.pv_model.specs.Alternatives.{assigned}
use Rattle.pv_model.specs.Items.{lacks}
use Rattle.pv_model.specs.Meaning.{Row, value_in}
use Rattle.pv_model.specs.ProgramLaws.{assigns}
use Rattle.pv_model.specs.Syntax.{Program}

module _ (program : Program) (n : ℕ) where
  -- One row more in front, by whether it is kept and whether it is of the item.
  value-step : (row : Row) (rows : List Row) (kept is : Bool) → assigns program row.item ≡ kept → (row.item == n) ≡ is → assigns program n ≡ true
      → value_in (assigned program rows) n ≡ value_in rows n → value_in (assigned program (row ∷ rows)) n ≡ value_in (row ∷ rows) n
  value-step row rows true is keeps same does rest =
      ap (λ (b : Bool). value_in (cond b (row ∷ assigned program rows) (assigned program rows)) n) keeps
      ∙ ap (λ (v : ℤ). cond (row.item == n) row.value v) rest
  value-step row rows false true keeps same does rest =
      absurd (true≢false (sym does ∙ ap (assigns program) (sym (eqb-true row.item n same)) ∙ keeps))
  value-step row rows false false keeps same does rest =
      ap (λ (b : Bool). value_in (cond b (row ∷ assigned program rows) (assigned program rows)) n) keeps
      ∙ rest
      ∙ ap (λ (b : Bool). cond b row.value (value_in rows n)) (sym same)

  -- Leaving out the rows of items that aren't assigned keeps the values of those that are.
  pub value-assigned : (rows : List Row) → assigns program n ≡ true → value_in (assigned program rows) n ≡ value_in rows n
  value-assigned [] does = refl
  value-assigned (row ∷ rows) does =
      value-step row rows (assigns program row.item) (row.item == n) refl refl does (value-assigned rows does)

  lacks-step : (row : Row) (rows : List Row) (kept is : Bool) → assigns program row.item ≡ kept → (row.item == n) ≡ is → assigns program n ≡ false
      → lacks (assigned program rows) n ≡ true → lacks (assigned program (row ∷ rows)) n ≡ true
  lacks-step row rows true true keeps same doesnt rest =
      absurd (true≢false (sym keeps ∙ ap (assigns program) (eqb-true row.item n same) ∙ doesnt))
  lacks-step row rows true false keeps same doesnt rest =
      ap (λ (b : Bool). lacks (cond b (row ∷ assigned program rows) (assigned program rows)) n) keeps
      ∙ ap (λ (b : Bool). cond b false (lacks (assigned program rows) n)) same
      ∙ rest
  lacks-step row rows false is keeps same doesnt rest =
      ap (λ (b : Bool). lacks (cond b (row ∷ assigned program rows) (assigned program rows)) n) keeps ∙ rest

  -- No row of an item that isn't assigned is left.
  pub lacks-unassigned : (rows : List Row) → assigns program n ≡ false → lacks (assigned program rows) n ≡ true
  lacks-unassigned [] doesnt = refl
  lacks-unassigned (row ∷ rows) doesnt =
      lacks-step row rows (assigns program row.item) (row.item == n) refl refl doesnt (lacks-unassigned rows doesnt)
