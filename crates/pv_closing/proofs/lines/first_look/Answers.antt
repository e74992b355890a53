-- What was declared is what the site read at first.
use Rattle.std.proofs.Common.{◌≡◌, ◌∙◌, ℤ, Some, FitsSigned, w64, to_z, of_z, map, slice_get, sym, ap, subst, arith, rules}
use Rattle.std.proofs.lemmas.Int.{to_z-of_z}
use Rattle.pv_base.specs.Catalog.{Declared, Item}
use Rattle.pv_shelf.specs.declared.face.Face.{Face}
use Rattle.pv_closing.proofs.LookLemmas.{reading-at_first}
use Rattle.pv_closing.proofs.lines.first_look.Goals as goal
use Rattle.pv_closing.specs.Lines.{reading_of}

pub returns-in-Ok-clause-peeked : goal.returns-in-Ok-clause-peeked
returns-in-Ok-clause-peeked g c =
    let of = c.args.of.now in
    let item = c.args.item.0 in
    let value = c.declared.result in
    let fits : FitsSigned w64 value = search rules in
    let here =
    subst (λ (catalog : Declared). slice_get (map (λ (declared : Item). declared.value) catalog.items) item ≡ Some value) (sym c.requires.catalog) c.declared.ensures in (
      omega arith,
      ap (λ (shown : Face). reading_of of.site.me shown) c.in-Ok.ensures
          ∙ reading-at_first of item (to_z w64 (of_z w64 value)) (here ∙ ap (λ (v : ℤ). Some v) (sym (to_z-of_z w64 value fits))),
    )
