-- One write after another, each by the contract of its promise.
use Rattle.std.proofs.Common.{◌≡◌, ◌∙◌, ◌∷◌, ◌++◌, [], suc, ℤ, Bor, List, Some, map, drop, add-one, arith, ap, sym, subst, refl}
use Rattle.std.specs.Prelude.{Err, IsTrue, slice_get}
use Rattle.std.proofs.lemmas.List.{length-map}
use Rattle.std.proofs.lemmas.Result.{err_from_is_err_and}
use Rattle.pv_base.specs.Polyvalue.{Case}
use Rattle.pv_model.specs.Alternatives.{Read}
use Rattle.pv_store.specs.Writes.{is_held}
use Rattle.pv_store.proofs.WriteLemmas.{ArePromised, all-at, held-is, map-at, promise-end, promise-refused, promise-step}
use Rattle.pv_store.proofs.writes.promised_values.Goals as goal

pub value_of-old-requires : goal.value_of-old-requires
value_of-old-requires c =
    let reads : List Read = map (λ (write : Bor Read). write.now) c.args.writes.now in
    let i = c.loop-write.write-index in
    let write : Read = record { item = c.write.inside.now.item.0; cases = c.write.inside.now.value } in
    let rest : List Read = drop (suc i) reads in
    let here : drop i reads ≡ write ∷ rest =
    map-at (λ (write : Bor Read). write.now) c.args.writes.now i c.write-item.result c.loop-write-test.true c.write-item.is
    ∙ ap (λ (read : Read). read ∷ rest) (sym (ap (λ (write : Bor Read). write.now) c.write.view_is)) in
    held-is _ (all-at (λ (read : Read). IsTrue (is_held (slice_get c.args.values.now read.item))) reads i write rest c.requires here)

pub loop-write-init : goal.loop-write-init
loop-write-init c = record {
  made = λ catalog site records front all is first. c.in_ok-new.ensures.items;
  count = λ catalog site records front all is first. refl;
}

pub returns-in_err-value-clause-answer : goal.returns-in_err-value-clause-answer
returns-in_err-value-clause-answer c =
    let reads : List Read = map (λ (write : Bor Read). write.now) c.args.writes.now in
    let i = c.loop-write.write-index in
    let write : Read = record { item = c.write.inside.now.item.0; cases = c.write.inside.now.value } in
    let rest : List Read = drop (suc i) reads in
    let here : drop i reads ≡ write ∷ rest =
    map-at (λ (write : Bor Read). write.now) c.args.writes.now i c.write-item.result c.loop-write-test.true c.write-item.is
    ∙ ap (λ (read : Read). read ∷ rest) (sym (ap (λ (write : Bor Read). write.now) c.write.view_is)) in
    let p = err_from_is_err_and c.from_residual-in_err-value.result c.from_residual-in_err-value.ensures.1 in
    promise-refused c.args.outcomes.now.outcomes c.args.values.now c.args.txn reads i c.loop-write.new.items c.loop-write.invariant write rest here c.value.result.now (c.value_of-old.ensures ∙ ap (λ (cases : List (Case ℤ)). Some (Some cases)) (sym c.value.ensures))
    c.in_err-value.field-0.0 c.from_residual-in_err-value.result (p.1 ∙ ap Err p.2)
    (λ catalog records front item all asked. (c.in_err-value.ensures.answer catalog records front item all asked).refused)

pub loop-write-preserved : goal.loop-write-preserved
loop-write-preserved c =
    let reads : List Read = map (λ (write : Bor Read). write.now) c.args.writes.now in
    let i = c.loop-write.write-index in
    let write : Read = record { item = c.write.inside.now.item.0; cases = c.write.inside.now.value } in
    let rest : List Read = drop (suc i) reads in
    let here : drop i reads ≡ write ∷ rest =
    map-at (λ (write : Bor Read). write.now) c.args.writes.now i c.write-item.result c.loop-write-test.true c.write-item.is
    ∙ ap (λ (read : Read). read ∷ rest) (sym (ap (λ (write : Bor Read). write.now) c.write.view_is)) in
    subst (λ k. ArePromised c.args.outcomes.now.outcomes c.args.values.now c.args.txn reads k c.push.new.self.items) (sym (add-one i))
    (promise-step c.args.outcomes.now.outcomes c.args.values.now c.args.txn reads i c.loop-write.new.items c.loop-write.invariant write rest here c.value.result.now (c.value_of-old.ensures ∙ ap (λ (cases : List (Case ℤ)). Some (Some cases)) (sym c.value.ensures))
    c.in_ok-value.value c.push.new.self.items
    (c.in_ok-push.ensures.items ∙ ap (λ (cases : List (Case ℤ)). c.loop-write.new.items ++ record { item = write.item; cases = cases } ∷ []) c.in_ok-named.ensures) c.in_ok-value.ensures.value
    (λ catalog records front item all asked. (c.in_ok-value.ensures.answer catalog records front item all asked).accepted))

pub returns-clause-values : goal.returns-clause-values
returns-clause-values c = λ catalog site records front all is first.
    let reads : List Read = map (λ (write : Bor Read). write.now) c.args.writes.now in
    (promise-end c.args.outcomes.now.outcomes c.args.values.now c.args.txn reads c.loop-write.write-index c.loop-write.new.items c.loop-write.invariant
    (omega (arith, length-map c.args.writes.now (λ (write : Bor Read). write.now), c.loop-write-test.false)) catalog site records front all is first).0

pub returns-clause-answer : goal.returns-clause-answer
returns-clause-answer c = λ catalog site records front all is first.
    let reads : List Read = map (λ (write : Bor Read). write.now) c.args.writes.now in
    record {
      accepted = (promise-end c.args.outcomes.now.outcomes c.args.values.now c.args.txn reads c.loop-write.write-index c.loop-write.new.items c.loop-write.invariant
          (omega (arith, length-map c.args.writes.now (λ (write : Bor Read). write.now), c.loop-write-test.false)) catalog site records front all is first).1;
      refused = tt;
    }
