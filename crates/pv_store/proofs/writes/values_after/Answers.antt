-- What is found of the writes is what counts of them.
use Rattle.std.proofs.Common.{◌≡◌, ◌∙◌, ◌++◌, ◌∷◌, [], Bor, List, Option, None, ℕ, map, All, ap, sym, subst}
use Rattle.std.specs.Prelude.{Result, Ok, Err, IfOk, IsTrue, slice_get}
use Rattle.std.specs.Global.{Vec}
use Rattle.pv_base.specs.Catalog.{Declared}
use Rattle.pv_base.specs.declared.txn.TxnId.{TxnId}
use Rattle.pv_format.specs.Record.{Record, prepared}
use Rattle.pv_model.specs.Alternatives.{Read}
use Rattle.pv_store.specs.declared.error.StoreError.{StoreError}
use Rattle.pv_store.specs.Refusals.{IsRefusedFor, first_too_many}
use Rattle.pv_store.specs.Writes.{AreAfter, AreFirst, after_write, held_writes, is_held, items_of}
use Rattle.pv_store.proofs.PlanLemmas.{are-first, count-written, found-held, values-after}
use Rattle.pv_store.proofs.writes.values_after.Goals as goal

pub promised_values-requires : goal.promised_values-requires
promised_values-requires c =
    let now = λ (write : Bor Read). write.now in
    subst (λ (reads : List Read). All (λ (write : Read). IsTrue (is_held (slice_get c.args.values.now write.item))) reads)
    (sym (ap (map now) c.deref.ensures.value ∙ c.in_ok-found.ensures)) (found-held c.args.values.now c.args.writes.now)

after-by : (catalog : Declared) (site : ℕ) (records front : List Record) (txn : TxnId) (writes firsts : List Read) (result : Result (Vec Read) StoreError)
    → IfOk result (λ new. new.items ≡ map (after_write catalog records front txn writes) firsts)
    → IsRefusedFor (first_too_many catalog records (front ++ prepared txn writes ∷ []) (items_of firsts)) result
    → ((new : List Read) → new ≡ map (after_write catalog records front txn writes) firsts → first_too_many catalog records (front ++ prepared txn writes ∷ []) (items_of firsts) ≡ None
    → AreAfter catalog site records front txn writes new) → IfOk result (λ new. AreAfter catalog site records front txn writes new.items)
after-by catalog site records front txn writes firsts (Ok new) made answer after = after new.items made answer.accepted
after-by catalog site records front txn writes firsts (Err e) made answer after = tt

pub returns-clause-values : goal.returns-clause-values
returns-clause-values c = λ catalog site records front is.
    let now = λ (write : Bor Read). write.now in
    let firsts : map now c.deref.result.now ≡ held_writes c.args.values.now [] c.args.writes.now = ap (map now) c.deref.ensures.value ∙ c.in_ok-found.ensures in
    let first = subst (AreFirst catalog site c.args.writes.now) (sym firsts) (are-first catalog site records front c.args.txn c.args.writes.now c.args.outcomes.now.outcomes c.args.values.now is) in
    after-by catalog site records front c.args.txn c.args.writes.now (map now c.deref.result.now) c.promised_values.result
    (c.promised_values.ensures.values catalog site records front c.args.writes.now is first)
    (c.promised_values.ensures.answer catalog site records front c.args.writes.now is first)
    (subst (λ (reads : List Read). (new : List Read) → new ≡ map (after_write catalog records front c.args.txn c.args.writes.now) reads
    → first_too_many catalog records (front ++ prepared c.args.txn c.args.writes.now ∷ []) (items_of reads) ≡ None → AreAfter catalog site records front c.args.txn c.args.writes.now new) (sym firsts)
    (values-after catalog site records front c.args.txn c.args.writes.now c.args.outcomes.now.outcomes c.args.values.now is))

pub returns-clause-answer : goal.returns-clause-answer
returns-clause-answer c = λ catalog site records front is.
    let now = λ (write : Bor Read). write.now in
    let firsts : map now c.deref.result.now ≡ held_writes c.args.values.now [] c.args.writes.now = ap (map now) c.deref.ensures.value ∙ c.in_ok-found.ensures in
    let first = subst (AreFirst catalog site c.args.writes.now) (sym firsts) (are-first catalog site records front c.args.txn c.args.writes.now c.args.outcomes.now.outcomes c.args.values.now is) in
    subst (λ (cause : Option ℕ). IsRefusedFor cause c.promised_values.result)
    (ap (λ (reads : List Read). first_too_many catalog records (front ++ prepared c.args.txn c.args.writes.now ∷ []) (items_of reads)) firsts
    ∙ sym (count-written catalog site records front c.args.txn c.args.writes.now c.args.outcomes.now.outcomes c.args.values.now is))
    (c.promised_values.ensures.answer catalog site records front c.args.writes.now is first)
