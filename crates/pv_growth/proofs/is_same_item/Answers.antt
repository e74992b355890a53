-- An item is its name, its site and its value.
use Rattle.std.proofs.Common.{rules, ◌≡◌, FitsSigned, w64, to_z, not, sym, ap, ◌∙◌}
use Rattle.std.proofs.lemmas.Bool.{false≢true, not-false}
use Rattle.std.proofs.lemmas.Int.{to_z-of_z}
use Rattle.std.proofs.lemmas.Slice.Eq.{bytes_eq-Decides}
use Rattle.std.specs.Cmp.{unsigned_Decides}
use Rattle.std.specs.Str.{bytes_eq}
use Rattle.pv_base.specs.Catalog.{Item}
use Rattle.pv_growth.proofs.ItemLemmas.{same-part, told-same}
use Rattle.pv_growth.proofs.is_same_item.Goals as goal

pub returns-then-ne : goal.returns-then-ne
returns-then-ne c =
    let name = c.name.result.now in
    let other = c.name-2.result.now in (
      λ said. absurd (false≢true said),
      λ same.
          let names = same-part (λ (it : Item). it.name) c.args.later.now.items c.args.before.now.items c.args.item.0 name other c.name.ensures.name c.name-2.ensures.name same in
          absurd (false≢true (sym (c.ne.ensures ∙ ap not ((bytes_eq-Decides name other).1 names)) ∙ c.if-ne.true)),
    )

pub returns-then-ne-2 : goal.returns-then-ne-2
returns-then-ne-2 c =
    let site = c.site_of.result.0 in
    let place = c.site_of-2.result.0 in (
      λ said. absurd (false≢true said),
      λ same.
          let sites = same-part (λ (it : Item). it.site) c.args.later.now.items c.args.before.now.items c.args.item.0 site place c.site_of.ensures c.site_of-2.ensures same in
          absurd (false≢true (sym (c.ne-2.ensures ∙ ap not ((unsigned_Decides site place).1 sites)) ∙ c.if-ne-2.true)),
    )

pub returns : goal.returns
returns c =
    let name = c.name.result.now in
    let other = c.name-2.result.now in
    let site = c.site_of.result.0 in
    let place = c.site_of-2.result.0 in
    let value = c.declared.result in
    let first = c.declared-2.result in
    let fits : FitsSigned w64 value = search rules in
    let fits_too : FitsSigned w64 first = search rules in
    let values : value ≡ first = sym (to_z-of_z w64 value fits) ∙ ap (to_z w64) c.if-declared.false ∙ to_z-of_z w64 first fits_too in (
      λ said. told-same c.args.later.now.items c.args.before.now.items c.args.item.0 name other site place value first
          c.name.ensures.name c.name-2.ensures.name c.site_of.ensures c.site_of-2.ensures c.declared.ensures c.declared-2.ensures
          ((bytes_eq-Decides name other).0 (not-false (bytes_eq name other) (sym c.ne.ensures ∙ c.if-ne.false)))
          ((unsigned_Decides site place).0 (not-false _ (sym c.ne-2.ensures ∙ c.if-ne-2.false))) values,
      λ said. search rules,
    )
