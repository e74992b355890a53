-- The item's first row is at the place.
use Rattle.std.proofs.Common.{◌≡◌, ◌<◌, ℤ, true, List, length, slice_index_or, slice_set, w64, to_z, of_z, ap, sym, subst, ◌∙◌}
use Rattle.std.specs.Prelude.{◌==◌}
use Rattle.std.proofs.lemmas.Int.{to_z-of_z}
use Rattle.pv_model.specs.Meaning.{Row}
use Rattle.pv_ast.proofs.RowLemmas.{changed, with_row-found}
use Rattle.pv_ast.proofs.rows.assign.Goals as goal

pub returns-then-eq : goal.returns-then-eq
returns-then-eq c =
    let rows = c.args.rows.now in
    let place = c.loop-place.place in
    let n = c.args.item.0 in
    let v = c.args.value in
    let row = c.index-rows-place.result in
    let fits = c.ranges.value in
    let invariant = simp to_z-of_z at c.loop-place.invariant in
    let same = invariant.0 in
    let within : place < length rows = c.loop-place-test.true in
    let at = subst (λ (l : List Row). row ≡ slice_index_or l place row) same c.index-rows-place.is in
    let is : (row.item == n) ≡ true = ap (λ (r : Row). r.item == n) (sym c.row.view_is) ∙ sym c.eq.ensures ∙ c.if-eq.true in
    ap (λ (r : Row). slice_set c.loop-place.rows place (changed r (to_z w64 (of_z w64 v)))) c.row.view_is
    ∙ ap (λ (l : List Row). slice_set l place (changed row (to_z w64 (of_z w64 v)))) same
    ∙ ap (λ (z : ℤ). slice_set rows place (changed row z)) (to_z-of_z w64 v fits)
    ∙ sym (invariant.1 ∙ with_row-found rows place n v row within at is)
