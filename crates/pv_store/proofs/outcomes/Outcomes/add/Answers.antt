-- An outcome that isn't known yet is put in.
use Rattle.std.proofs.Common.{◌≡◌, ◌∙◌, ◌<◌, Bool, true, false, cond, Some, None, Option, refl, sym, ap, ap₂, subst}
use Rattle.std.specs.Prelude.{◌&&◌, is_none, not}
use Rattle.std.specs.Option.{is_some}
use Rattle.pv_base.specs.declared.txn.TxnId.{TxnId}
use Rattle.pv_base.proofs.AssignmentLemmas.{same-sym}
use Rattle.pv_store.specs.Held.{KnownOutcomes, outcome_in}
use Rattle.pv_store.proofs.MapFacts.{is_key-same, lookup-outcome, on-ok}
use Rattle.pv_store.proofs.outcomes.Outcomes.add.Goals as goal

and-true : (b c : Bool) → c ≡ true → b ≡ b && c
and-true true c is = sym is
and-true false c is = refl

none-by : (outcome : Option Bool) (b : Bool) → is_some outcome ≡ not b → b ≡ true → is_none outcome ≡ true
none-by None b says is = refl
none-by (Some outcome) true says is = sym says
none-by (Some outcome) false says is = is

pub returns-then-is_none-clause-added : goal.returns-then-is_none-clause-added
returns-then-is_none-clause-added c = λ other.
    let old = c.self.inside.outcomes in
    let same = ap (λ (view : KnownOutcomes). outcome_in view.outcomes) c.self.view_is in
    let unknown : is_none (outcome_in c.args.self.now.outcomes c.args.txn) ≡ true =
    none-by _ c.is_none.result (subst (λ found. is_some found ≡ not c.is_none.result) c.get.ensures c.is_none.ensures) c.if-is_none.true in
    let room = subst (λ (view : KnownOutcomes). 0 < view.room) (sym c.self.view_is) c.requires in
    let updates = on-ok _ (c.insert.ensures.succeeds room) c.insert.ensures.updates in
    sym (lookup-outcome c.insert.new.self.entries other)
    ∙ updates.0 other
    ∙ ap₂ (λ (test : Bool) (rest : Option Bool). cond test (Some c.args.commits) rest)
    (is_key-same c.args.txn other ∙ same-sym c.args.txn other ∙ and-true _ _ unknown)
    (lookup-outcome old.entries other ∙ ap (λ (f : TxnId → Option Bool). f other) same)
