-- What the known outcomes settle.
use Rattle.std.proofs.Common.{◌≡◌, ◌∙◌, [], ◌∷◌, List, length, arith, ap, sym, subst, refl, rules}
use Rattle.std.proofs.lemmas.Bool.{eqb-true}
use Rattle.std.proofs.lemmas.Result.{IfOk-weaker}
use Rattle.pv_base.specs.Polyvalue.{AreOutcomes, IsSettled, value_at, with_outcomes}
use Rattle.pv_cases.proofs.SureCases.{one-case-is}
use Rattle.pv_protocol.specs.Records.{choice}
use Rattle.pv_store.specs.Promise.{known_among}
use Rattle.pv_store.proofs.PromiseLemmas.{known-ascend, settled-value}
use Rattle.pv_store.proofs.promise.settled.Goals as goal

no-more : {X : Type 0} (xs : List X) → length xs ≡ 0 → xs ≡ []
no-more [] none = refl
no-more (x ∷ xs) none = absurd (omega (arith, none))

pub returns-then-is_sure-clause-value : goal.returns-then-is_sure-clause-value
returns-then-is_sure-clause-value g c = λ records are.
    let sure = one-case-is c.cases.result.now (sym c.is_sure.ensures ∙ c.if-is_sure.true) in
    let only = sym c.cases.ensures.cases ∙ sure.1 in
    IfOk-weaker c.copy.result (λ copy. copy ≡ c.args.value.now) _
    (λ copy same assignment. ap (λ cases. value_at cases assignment) (same ∙ only) ∙ sym (ap (λ cases. value_at cases (choice records assignment)) only)) c.copy.ensures.equal

pub returns-then-is_empty-clause-value : goal.returns-then-is_empty-clause-value
returns-then-is_empty-clause-value g c = λ records are.
    let outcomes = c.args.outcomes.now.outcomes in
    let txns = c.in_ok-txns.txns.items in
    let known = c.in_ok-known.known in
    let named = c.in_ok-txns.ensures.names in
    let none : known.items ≡ [] = no-more known.items (sym known.ok.0 ∙ eqb-true known.len 0 (sym c.if-is_empty.ensures)) in
    let empty : known_among outcomes txns ≡ [] = ap (known_among outcomes) (sym c.deref.ensures.value) ∙ sym c.in_ok-known.ensures ∙ none in
    IfOk-weaker c.copy-then-is_empty.result (λ copy. copy ≡ c.args.value.now) _
    (λ copy same assignment. ap (λ cases. value_at cases assignment) same
    ∙ ap (λ literals. value_at c.args.value.now (with_outcomes literals assignment)) (sym empty)
    ∙ settled-value outcomes records are c.args.value.now txns named assignment) c.copy-then-is_empty.ensures.equal

-- The value fits in memory, as one of its type does wherever it is, and the known outcomes ascend.
pub settle_all-requires : goal.settle_all-requires
settle_all-requires g c =
    let outcomes = c.args.outcomes.now.outcomes in
    let txns = c.in_ok-txns.txns.items in
    let ascend : AreOutcomes c.deref-2.result.now =
    subst AreOutcomes (ap (known_among outcomes) (sym c.deref.ensures.value) ∙ sym c.in_ok-known.ensures ∙ sym c.deref-2.ensures.value)
    (known-ascend outcomes txns c.in_ok-txns.ensures.names.ascending) in
    (search rules, ascend)

pub returns-clause-value : goal.returns-clause-value
returns-clause-value g c = λ records are.
    let outcomes = c.args.outcomes.now.outcomes in
    let txns = c.in_ok-txns.txns.items in
    let named = c.in_ok-txns.ensures.names in
    let literals = ap (known_among outcomes) (sym c.deref.ensures.value) ∙ sym c.in_ok-known.ensures ∙ sym c.deref-2.ensures.value in
    IfOk-weaker c.settle_all.result (IsSettled c.deref-2.result.now c.args.value.now) _
    (λ after is assignment. is.same assignment
    ∙ ap (λ literals. value_at c.args.value.now (with_outcomes literals assignment)) (sym literals)
    ∙ settled-value outcomes records are c.args.value.now txns named assignment) c.settle_all.ensures.settled
