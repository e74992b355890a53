-- What each kind has.
use Rattle.std.proofs.Common.{◌≡◌, ℕ, inl, inr, IfOk, IfErr, sym, subst, arith}
use Rattle.std.proofs.lemmas.Bool.Decides.{nat_tests}
use Rattle.std.proofs.lemmas.Result.{IfOk-weaker}
use Rattle.pv_format.specs.Layout.{content_layout}
use Rattle.pv_fields.specs.Decoding.{Passes, Stops}
use Rattle.pv_replay.specs.Content.{IsPromise, SpellsContentOf}
use Rattle.pv_replay.specs.Faults.{fault_of}
use Rattle.pv_replay.specs.Values.{record_of}
use Rattle.pv_replay.proofs.ContentLemmas.{promise_has}
use Rattle.pv_replay.proofs.record.take_content.Goals as goal

pub returns-then-kind-eq2-clause-kind : goal.returns-then-kind-eq2-clause-kind
returns-then-kind-eq2-clause-kind c =
    IfOk-weaker c.take_prepared.result (λ value. IsPromise (record_of value)) _ (λ value promise. promise_has c.args.kind (record_of value) promise (inl c.if-kind-eq2.true))
    c.take_prepared.ensures.promise

pub returns-then-kind-eq2-clause-passes : goal.returns-then-kind-eq2-clause-passes
returns-then-kind-eq2-clause-passes c =
    subst (λ (kind : ℕ). IfOk c.take_prepared.result (λ value. Passes (SpellsContentOf kind (record_of value)) (content_layout kind) c.args.take.now c.take_prepared.new.take)) (sym c.if-kind-eq2.true)
    c.take_prepared.ensures.passes

pub returns-then-kind-eq2-clause-stops : goal.returns-then-kind-eq2-clause-stops
returns-then-kind-eq2-clause-stops c =
    subst (λ (kind : ℕ). IfErr c.take_prepared.result (λ e. Stops (content_layout kind) c.args.take.now (fault_of e))) (sym c.if-kind-eq2.true) c.take_prepared.ensures.stops

pub returns-clause-kind : goal.returns-clause-kind
returns-clause-kind c =
    let four : c.args.kind ≡ 4 = grind (arith, nat_tests) in
    IfOk-weaker c.take_prepared-2.result (λ value. IsPromise (record_of value)) _ (λ value promise. promise_has c.args.kind (record_of value) promise (inr four))
    c.take_prepared-2.ensures.promise

pub returns-clause-passes : goal.returns-clause-passes
returns-clause-passes c =
    let four : c.args.kind ≡ 4 = grind (arith, nat_tests) in
    subst (λ (kind : ℕ). IfOk c.take_prepared-2.result (λ value. Passes (SpellsContentOf kind (record_of value)) (content_layout kind) c.args.take.now c.take_prepared-2.new.take)) (sym four)
    c.take_prepared-2.ensures.passes

pub returns-clause-stops : goal.returns-clause-stops
returns-clause-stops c =
    let four : c.args.kind ≡ 4 = grind (arith, nat_tests) in
    subst (λ (kind : ℕ). IfErr c.take_prepared-2.result (λ e. Stops (content_layout kind) c.args.take.now (fault_of e))) (sym four) c.take_prepared-2.ensures.stops
