-- The one reader has the one item.
use Rattle.std.proofs.Common.{◌≡◌, ℕ, ◌-◌, ◌<◌, List, [], ◌∷◌, length, get_or, vec_len, refl, sym, ap, subst, ◌∙◌, arith}
use Rattle.std.specs.List.{Contains}
use Rattle.pv_base.proofs.Basics.{Some_inj}
use Rattle.pv_protocol.specs.Outcome.{items_from}
use Rattle.pv_shelf.specs.Shelves.{items_of}
use Rattle.pv_shelf.specs.declared.reader.ShelfReader.{ShelfReader}
use Rattle.pv_shelf_tests.proofs.tests.opened.Goals as goal

pub returns-clause-item : goal.returns-clause-item
returns-clause-item g c =
    let reader = c.unwrap-reader.result in
    let readers = c.in_ok-writer.readers in
    let some : 0 < vec_len readers = omega (arith, c.in_ok-writer.ensures.count) in
    let is : get_or readers.items (vec_len readers - 1) reader ≡ reader = Some_inj (sym (c.pop.ensures.value reader some) ∙ c.unwrap-reader.ensures) in
    let its = c.in_ok-writer.ensures.readers (vec_len readers - 1) reader (omega (arith, some, readers.ok.0)) in
    let items : items_of reader ≡ 0 ∷ [] = subst (λ (r : ShelfReader). items_of r ≡ 0 ∷ []) is (its.1 ∙ ap (items_from 0 0) c.in_ok-catalog.ensures) in
    subst (λ (xs : List ℕ). Contains xs 0) (sym items) (0, omega arith, refl)
