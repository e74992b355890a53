-- Those of the index that are named, in order.
use Rattle.std.proofs.Common.{◌≡◌, ◌∙◌, ◌≤◌, ◌++◌, ◌∷◌, [], ℕ, List, filter, length, take, add-one, Bool, arith, sym, ap, subst}
use Rattle.std.specs.Prelude.{◌↔◌, slice_get, Some, if◌then◌else◌}
use Rattle.std.specs.List.{Contains}
use Rattle.std.specs.Global.{Vec}
use Rattle.std.proofs.lemmas.List.{append-nil, length-map}
use Rattle.pv_protocol.specs.Outcome.{is_named_here}
use Rattle.pv_base.specs.declared.txn.TxnId.{TxnId}
use Rattle.pv_store.specs.Held.{ArePlaced}
use Rattle.pv_store.specs.Kept.{Kept, IsStoreOf, txns_of}
use Rattle.pv_store.proofs.MentionLemmas.{all-named, filter-next, take-all, placed-of}
use Rattle.pv_store.proofs.store.Store.mentioned.Goals as goal
use Rattle.pv_store.proofs.store.Store.mentioned.Goals.{then-named+in_ok-push, else-named}

pub loop-place-preserved : goal.loop-place-preserved
loop-place-preserved c = λ here of.
    let keys = txns_of c.args.self.now.room.places in
    let place = c.loop-place.place in
    let txn = c.txn_at-txn.result in
    let at : slice_get keys place ≡ Some txn = subst (λ (kept : Kept). slice_get (txns_of kept.room.places) place ≡ Some txn) c.self.view_is c.txn_at-txn.ensures in
    let next = filter-next (is_named_here here) keys place txn at in
    let named = c.named.ensures here of in
    let before = c.loop-place.invariant here of in
    let further = ap (λ k. filter (is_named_here here) (take k keys)) (sym (add-one place)) in
    let with-test = λ (test : Bool). filter (is_named_here here) (take place keys) ++ (if test then txn ∷ [] else []) in
    (elim c.if-named.branch [
      | then-named+in_ok-push w ↦
          ap (λ (txns : Vec TxnId). txns.items) w.txns-is ∙ w.in_ok-push.ensures.items ∙ ap (λ front. front ++ txn ∷ []) before
          ∙ ap with-test (sym w.if-named.true ∙ named) ∙ sym next ∙ further
      | else-named w ↦
          ap (λ (txns : Vec TxnId). txns.items) w.txns-is ∙ before ∙ sym (append-nil (filter (is_named_here here) (take place keys)))
          ∙ ap with-test (sym w.if-named.false ∙ named) ∙ sym next ∙ further
    ])

pub returns : goal.returns
returns c = λ here of.
    let places = c.args.self.now.room.places in
    let keys = txns_of places in
    let own : IsStoreOf here _ = subst (λ (kept : Kept). IsStoreOf here kept) (sym c.self.view_is) of in
    let placed : ArePlaced here.setup.catalog here.me here.records here.records places =
    subst (λ (kept : Kept). ArePlaced here.setup.catalog here.me here.records here.records kept.room.places) c.self.view_is (placed-of _ here own c.self.invariant.placed) in
    let end : length places ≤ c.loop-place.place = omega (arith, c.loop-place-test.false, c.len-place-end.ensures, ap (λ (kept : Kept). length kept.room.places) c.self.view_is) in
    let whole : c.loop-place.txns.items ≡ filter (is_named_here here) keys =
    c.loop-place.invariant here of ∙ ap (filter (is_named_here here)) (take-all keys c.loop-place.place (omega (arith, end, length-map places (λ (place : TxnId × List ℕ). place.0)))) in
    all-named here places placed c.ordered.result.items c.ordered.ensures.ascending
    (subst (λ (txns : List TxnId). (t : TxnId) → Contains c.ordered.result.items t ↔ Contains txns t) whole c.ordered.ensures.same)
