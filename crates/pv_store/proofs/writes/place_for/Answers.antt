-- The place stands at the element of the loop.
use Rattle.std.proofs.Common.{◌≡◌, ◌∙◌, ◌<◌, ◌∷◌, ◌++◌, ◌+◌, Bor, List, map, drop, take, add-one, arith, ap, sym, subst}
use Rattle.std.proofs.lemmas.List.{take-append-drop, length-map}
use Rattle.pv_model.specs.Alternatives.{Read}
use Rattle.pv_store.specs.Writes.{with_write}
use Rattle.pv_store.proofs.WriteLemmas.{before-step, map-at, past-end, with-before, with-end, with-same}
use Rattle.pv_store.proofs.writes.place_for.Goals as goal

pub returns-then-other-item-clause-there : goal.returns-then-other-item-clause-there
returns-then-other-item-clause-there c = λ write is.
    let reads : List Read = map (λ (write : Bor Read). write.now) c.args.found.now in
    let place = c.loop-other.place in
    let other = c.other-item.result.now in
    let here : drop place reads ≡ other ∷ _ =
    ap (λ k. drop k reads) c.loop-other.invariant.at ∙ map-at (λ (write : Bor Read). write.now) c.args.found.now c.loop-other.other-index c.other-item.result c.loop-other-test.true c.other-item.is in
    let same : other.item ≡ c.args.item.0 = subst (λ (read : Read). read.item ≡ c.args.item.0) (ap (λ (write : Bor Read). write.now) c.other.view_is) c.if-other-item.true in
    c.loop-other.invariant.before write is
    ∙ ap (λ left. take place reads ++ left) (ap (with_write write) here ∙ with-same write other _ (is ∙ sym same) ∙ sym here)
    ∙ take-append-drop place reads

pub returns-then-other-item-2-clause-place : goal.returns-then-other-item-2-clause-place
returns-then-other-item-2-clause-place c = λ write is.
    let reads : List Read = map (λ (write : Bor Read). write.now) c.args.found.now in
    let place = c.loop-other.place in
    let other = c.other-item.result.now in
    let here : drop place reads ≡ other ∷ _ =
    ap (λ k. drop k reads) c.loop-other.invariant.at ∙ map-at (λ (write : Bor Read). write.now) c.args.found.now c.loop-other.other-index c.other-item.result c.loop-other-test.true c.other-item.is in
    let above : c.args.item.0 < other.item = subst (λ (read : Read). c.args.item.0 < read.item) (ap (λ (write : Bor Read). write.now) c.other.view_is) c.if-other-item-2.true in
    c.loop-other.invariant.before write is
    ∙ ap (λ left. take place reads ++ left) (ap (with_write write) here ∙ with-before write other _ (omega (arith, is, above)) ∙ ap (λ left. write ∷ left) (sym here))

pub loop-other-preserved : goal.loop-other-preserved
loop-other-preserved c =
    let reads : List Read = map (λ (write : Bor Read). write.now) c.args.found.now in
    let place = c.loop-other.place in
    let here : drop place reads ≡ c.other-item.result.now ∷ _ =
    ap (λ k. drop k reads) c.loop-other.invariant.at ∙ map-at (λ (write : Bor Read). write.now) c.args.found.now c.loop-other.other-index c.other-item.result c.loop-other-test.true c.other-item.is in
    let below : c.other-item.result.now.item < c.args.item.0 = subst (λ (read : Read). read.item < c.args.item.0) (ap (λ (write : Bor Read). write.now) c.other.view_is) (omega (arith, c.if-other-item-2.false, c.if-other-item.false)) in
    record {
      at = ap (λ k. k + 1) c.loop-other.invariant.at;
      before = λ write is. subst (λ k. with_write write reads ≡ take k reads ++ with_write write (drop k reads)) (sym (add-one place))
          (before-step reads place c.other-item.result.now _ write here (omega (arith, below, is)) (c.loop-other.invariant.before write is));
    }

pub returns-clause-place : goal.returns-clause-place
returns-clause-place c = λ write is.
    let reads : List Read = map (λ (write : Bor Read). write.now) c.args.found.now in
    let place = c.loop-other.place in
    c.loop-other.invariant.before write is
    ∙ ap (λ left. take place reads ++ left)
    (with-end write (drop place reads) (past-end reads place (omega (arith, length-map c.args.found.now (λ (write : Bor Read). write.now), c.loop-other.invariant.at, c.loop-other-test.false))))
