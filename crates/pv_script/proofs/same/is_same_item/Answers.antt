-- An item is its name, its site and its value.
use Rattle.std.proofs.Common.{rules, ◌≡◌, FitsSigned, w64, to_z, sym, ap, ◌∙◌}
use Rattle.std.proofs.lemmas.Bool.{false≢true}
use Rattle.std.proofs.lemmas.Int.{to_z-of_z}
use Rattle.std.proofs.lemmas.Slice.Eq.{bytes_eq-Decides}
use Rattle.std.specs.Cmp.{unsigned_Decides}
use Rattle.std.specs.Str.{bytes_eq}
use Rattle.pv_base.specs.Catalog.{Item}
use Rattle.pv_script.proofs.SameLemmas.{alike, differ, ne-false, ne-true}
use Rattle.pv_script.proofs.same.is_same_item.Goals as goal

pub returns-then-ne : goal.returns-then-ne
returns-then-ne c =
    let name = c.name.result.now in
    let other = c.name-2.result.now in (
      λ said. absurd (false≢true said),
      λ same. absurd (differ c.args.one.now.items c.args.other.now.items c.args.item.0 c.requires.one c.requires.other (λ (item : Item). item.name) name other
          c.name.ensures.name c.name-2.ensures.name (ne-true (bytes_eq name other) c.ne.result c.ne.ensures (bytes_eq-Decides name other) c.if-ne.true) same),
    )

pub returns-then-ne-2 : goal.returns-then-ne-2
returns-then-ne-2 c =
    let site = c.site_of.result.0 in
    let other = c.site_of-2.result.0 in (
      λ said. absurd (false≢true said),
      λ same. absurd (differ c.args.one.now.items c.args.other.now.items c.args.item.0 c.requires.one c.requires.other (λ (item : Item). item.site) site other
          c.site_of.ensures c.site_of-2.ensures (ne-true _ c.ne-2.result c.ne-2.ensures (unsigned_Decides site other) c.if-ne-2.true) same),
    )

pub returns : goal.returns
returns c =
    let name = c.name.result.now in
    let other = c.name-2.result.now in
    let site = c.site_of.result.0 in
    let there = c.site_of-2.result.0 in
    let value = c.declared.result in
    let worth = c.declared-2.result in
    let fits : FitsSigned w64 value = search rules in
    let fits_too : FitsSigned w64 worth = search rules in
    let same : value ≡ worth = sym (to_z-of_z w64 value fits) ∙ ap (to_z w64) c.if-declared.false ∙ to_z-of_z w64 worth fits_too in (
      λ said. alike c.args.one.now.items c.args.other.now.items c.args.item.0 c.requires.one c.requires.other name other site there value worth
          c.name.ensures.name c.name-2.ensures.name c.site_of.ensures c.site_of-2.ensures c.declared.ensures c.declared-2.ensures
          (ne-false (bytes_eq name other) c.ne.result c.ne.ensures (bytes_eq-Decides name other) c.if-ne.false)
          (ne-false _ c.ne-2.result c.ne-2.ensures (unsigned_Decides site there) c.if-ne-2.false) same,
      λ said. search rules,
    )
