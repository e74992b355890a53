use Rattle.std.proofs.Common.{◌≡◌, None, Ok, ◌∙◌, sym, ap, subst, arith}
use Rattle.std.proofs.lemmas.Bool.Decides.{nat_tests}
use Rattle.pv_locks.proofs.AnswerLemmas.{IsAnswer, answered-fresh, fresh, no-memory}
use Rattle.pv_locks.proofs.locks.Locks.plan_grant.Goals as goal
use Rattle.pv_locks.specs.GrantAnswer.{standing_answer}
use Rattle.pv_locks.specs.Planned.{new_grant}
use Rattle.pv_locks.specs.LockTable.{LockTable}
use Rattle.pv_locks.specs.declared.plan.GrantPlan.TheVariants.{Fresh}
use Rattle.pv_protocol.specs.State.{Grant}

-- Nothing stands in the way of the grant.
pub returns-in-Ok-clause-answer : goal.returns-in-Ok-clause-answer
returns-in-Ok-clause-answer c =
    let table = c.args.self.now in
    let grants = ap (λ (t : LockTable). t.grants) c.self.view_is in
    let none : standing_answer table.grants c.args.txn c.args.wants.now ≡ None =
    ap (λ l. standing_answer l c.args.txn c.args.wants.now) (sym (c.deref.ensures.value ∙ grants)) ∙ sym c.standing_answer.ensures ∙ c.in_default.is in
    subst (λ (g : Grant). IsAnswer table c.args.txn c.args.wants.now (Ok (Fresh g))) (sym c.in-Ok.ensures.grant)
    (answered-fresh table c.args.txn c.args.wants.now none (let next = ap (λ (t : LockTable). t.next) c.self.view_is in grind (arith, nat_tests, next, c.if-self.false)))

pub returns-in-Err-clause-answer : goal.returns-in-Err-clause-answer
returns-in-Err-clause-answer c = no-memory c.args.self.now c.args.txn c.args.wants.now

-- There was no memory for it.
pub returns-in-Err-clause-memory : goal.returns-in-Err-clause-memory
returns-in-Err-clause-memory c =
    let table = c.args.self.now in
    let grants = ap (λ (t : LockTable). t.grants) c.self.view_is in
    let none : standing_answer table.grants c.args.txn c.args.wants.now ≡ None =
    ap (λ l. standing_answer l c.args.txn c.args.wants.now) (sym (c.deref.ensures.value ∙ grants)) ∙ sym c.standing_answer.ensures ∙ c.in_default.is in
    λ _. (
      new_grant table c.args.txn c.args.wants.now,
      fresh table c.args.txn c.args.wants.now none (let next = ap (λ (t : LockTable). t.next) c.self.view_is in grind (arith, nat_tests, next, c.if-self.false)),
    )
