-- The first one that is named ends the search.
use Rattle.std.proofs.Common.{◌≡◌, ◌∙◌, ◌≤◌, ◌||◌, ℕ, length, take, add-one, Bool, List, arith, sym, ap, subst, refl}
use Rattle.std.specs.Prelude.{slice_get, Some}
use Rattle.std.specs.List.{list_any}
use Rattle.std.proofs.lemmas.Bool.{true≢false}
use Rattle.std.proofs.lemmas.List.{length-map}
use Rattle.pv_protocol.specs.Outcome.{is_named_here}
use Rattle.pv_base.specs.declared.txn.TxnId.{TxnId}
use Rattle.pv_store.specs.Held.{ArePlaced}
use Rattle.pv_store.specs.Kept.{Kept, IsStoreOf, txns_of}
use Rattle.pv_store.proofs.MentionLemmas.{any-next, none-named, some-named, take-all, placed-of}
use Rattle.pv_store.proofs.store.Store.any.Goals as goal

pub returns-then-named : goal.returns-then-named
returns-then-named c = λ here of.
    ((λ no. absurd (true≢false no)), (λ none. absurd (some-named here c.txn_at.result (sym (c.named.ensures here of) ∙ c.if-named.true) none)))

pub loop-place-preserved : goal.loop-place-preserved
loop-place-preserved c = λ here of.
    let keys = txns_of c.args.self.now.room.places in
    let at : slice_get keys c.loop-place.place ≡ Some c.txn_at.result = subst (λ (kept : Kept). slice_get (txns_of kept.room.places) c.loop-place.place ≡ Some c.txn_at.result) c.self.view_is c.txn_at.ensures in
    ap (λ k. list_any (is_named_here here) (take k keys)) (add-one c.loop-place.place)
    ∙ any-next (is_named_here here) keys c.loop-place.place c.txn_at.result at
    ∙ ap (λ (rest : Bool). rest || is_named_here here c.txn_at.result) (c.loop-place.invariant here of)
    ∙ sym (c.named.ensures here of) ∙ c.if-named.false

pub returns : goal.returns
returns c = λ here of.
    let places = c.args.self.now.room.places in
    let keys = txns_of places in
    let own : IsStoreOf here _ = subst (λ (kept : Kept). IsStoreOf here kept) (sym c.self.view_is) of in
    let placed : ArePlaced here.setup.catalog here.me here.records here.records places =
    subst (λ (kept : Kept). ArePlaced here.setup.catalog here.me here.records here.records kept.room.places) c.self.view_is (placed-of _ here own c.self.invariant.placed) in
    let end : length places ≤ c.loop-place.place = omega (arith, c.loop-place-test.false, c.len-place-end.ensures, ap (λ (kept : Kept). length kept.room.places) c.self.view_is) in
    let none = ap (list_any (is_named_here here)) (sym (take-all keys c.loop-place.place (omega (arith, end, length-map places (λ (place : TxnId × List ℕ). place.0))))) ∙ c.loop-place.invariant here of in
    ((λ no. none-named here places placed none), (λ none. refl))
