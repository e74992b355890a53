-- One item after another.
use Rattle.std.proofs.Common.{◌≡◌, ◌∙◌, ◌<◌, ◌∷◌, ◌++◌, [], zero, suc, ℕ, List, length, map, take, get_or, add-one, append_assoc, arith, sym, ap}
use Rattle.std.specs.List.{flat_map}
use Rattle.std.proofs.lemmas.List.{append-nil}
use Rattle.pv_base.specs.declared.catalog.ItemId.{ItemId}
use Rattle.pv_model.specs.Alternatives.{Read}
use Rattle.pv_store.specs.Settling.{settled_at}
use Rattle.pv_store.proofs.settling.settled_values.Goals as goal

flat-next : (f : ℕ → List Read) (items : List ItemId) (i : ℕ) (d : ItemId) → i < length items
    → flat_map f (map (λ (item : ItemId). item.0) (take i items)) ++ f (get_or items i d).0 ≡ flat_map f (map (λ (item : ItemId). item.0) (take (suc i) items))
flat-next f [] i d within = absurd (omega (arith, within))
flat-next f (item ∷ items) zero d within = sym (append-nil (f item.0))
flat-next f (item ∷ items) (suc i) d within =
    append_assoc (f item.0) (flat_map f (map (λ (item : ItemId). item.0) (take i items))) (f (get_or items i d).0)
    ∙ ap (λ rest. f item.0 ++ rest) (flat-next f items i d (omega (arith, within)))

pub loop-item-preserved : goal.loop-item-preserved
loop-item-preserved c = λ catalog site records are.
    let f : ℕ → List Read = settled_at catalog site records c.args.txn c.args.commits in
    c.in_ok-push_settled.ensures catalog site records are
    ∙ ap (λ front. front ++ f (get_or c.args.items.now c.loop-item.item-index (record { 0 = 0 })).0) (c.loop-item.invariant catalog site records are)
    ∙ flat-next f c.args.items.now c.loop-item.item-index (record { 0 = 0 }) c.loop-item-test.true
    ∙ ap (λ k. flat_map f (map (λ (item : ItemId). item.0) (take k c.args.items.now))) (sym (add-one c.loop-item.item-index))
