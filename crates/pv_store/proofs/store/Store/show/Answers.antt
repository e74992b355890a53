-- The value at an item of the site is the shown one.
use Rattle.std.proofs.Common.{◌≡◌, ◌∙◌, ap, sym, subst}
use Rattle.std.specs.Prelude.{slice_get, IsTrue}
use Rattle.pv_protocol.specs.Lock.{is_home}
use Rattle.pv_protocol.specs.Shown.{shown}
use Rattle.pv_store.specs.Kept.{Kept}
use Rattle.pv_store.proofs.HeldLemmas.{shown-at, some-some}
use Rattle.pv_store.proofs.store.Store.show.Goals as goal

pub value_of-requires : goal.value_of-requires
value_of-requires c =
    let home = subst (λ (kept : Kept). IsTrue (is_home kept.catalog kept.site c.args.item.0)) (sym c.self.view_is) c.requires in
    (_, ap (λ values. slice_get values c.args.item.0) c.deref.ensures.value ∙ shown-at _ _ _ _ _ c.self.invariant.values c.args.item.0 home)

pub returns : goal.returns
returns c =
    let home = subst (λ (kept : Kept). IsTrue (is_home kept.catalog kept.site c.args.item.0)) (sym c.self.view_is) c.requires in
    subst (λ (kept : Kept). c.value.result.now ≡ shown kept.catalog kept.records c.args.item.0) c.self.view_is
    (c.value.ensures ∙ some-some _ _ (sym c.value_of.ensures ∙ ap (λ values. slice_get values c.args.item.0) c.deref.ensures.value
    ∙ shown-at _ _ _ _ _ c.self.invariant.values c.args.item.0 home))
