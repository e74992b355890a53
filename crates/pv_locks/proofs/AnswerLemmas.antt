-- What a transaction is answered is the one answer that there is.
use Rattle.std.proofs.Common.{◌≡◌, inl, inr, ◌+◌, ◌<◌, ◌≤◌, length, true, false, Option, Some, None, Result, Ok, Err, List, refl, sym, ap, ◌∙◌}
use Rattle.std.specs.Prelude.{◌==◌, if◌then◌else◌}
use Rattle.pv_base.proofs.AnswerLemmas.{answered}
use Rattle.pv_base.specs.Answer.{Answers, HasOneAnswer}
use Rattle.pv_base.specs.Want.{Want}
use Rattle.pv_base.specs.declared.limits.TheConstants.{NEVER_GIVEN}
use Rattle.pv_base.specs.declared.txn.TxnId.{TxnId}
use Rattle.pv_locks.specs.GrantAnswer.{answer_to, at_conflict, at_standing, cause_of, standing_answer, unless_answered}
use Rattle.pv_locks.specs.LockTable.{AreWantsAscending, LockTable, Room}
use Rattle.pv_locks.specs.Planned.{IsPlanned, new_grant, wants_held}
use Rattle.pv_locks.specs.declared.plan.GrantPlan.{GrantPlan}
use Rattle.pv_locks.specs.declared.plan.GrantPlan.TheVariants.{Fresh}
use Rattle.pv_locks.specs.declared.plan.LockError.{LockError}
use Rattle.pv_locks.specs.declared.plan.LockError.TheVariants.{Spent, NoMemory}
use Rattle.pv_protocol.specs.Keyed.{of_txn}
use Rattle.pv_protocol.specs.Lock.{Conflict, first_conflict}
use Rattle.pv_protocol.specs.State.{Grant}

-- Where nothing stands in the way of a grant, there is none of the transaction and no conflict.

none-conflict : (o : Option Conflict) → at_conflict o ≡ None → o ≡ None
none-conflict None none = refl
none-conflict (Some conflict) none = absurd (let no_way : ⊥ = cc in no_way)

none-parts-by : (grants : List Grant) (wants : List Want) (o : Option Grant) → at_standing grants wants o ≡ None → (o ≡ None) × (first_conflict grants wants ≡ None)
none-parts-by grants wants None none = (refl, none-conflict (first_conflict grants wants) none)
none-parts-by grants wants (Some grant) none = absurd (let no_way : ⊥ = cc in no_way)

pub none-parts : (grants : List Grant) (txn : TxnId) (wants : List Want) → standing_answer grants txn wants ≡ None
    → (of_txn (λ (g : Grant). g.txn) txn grants ≡ None) × (first_conflict grants wants ≡ None)
none-parts grants txn wants none = none-parts-by grants wants (of_txn (λ (g : Grant). g.txn) txn grants) none

-- Then the next grant is planned, if there is a number and memory for it.
pub planned-next : (table : LockTable) (room : Room) (txn : TxnId) (wants : List Want) → AreWantsAscending wants → standing_answer table.grants txn wants ≡ None
    → table.next < NEVER_GIVEN → length table.grants < room.grants → wants_held table.grants + length wants ≤ room.wants
    → IsPlanned (record table { room = room }) (new_grant table txn wants)
planned-next table room txn wants ascending none given place places =
    let parts = none-parts table.grants txn wants none in
    record { next = refl; given = given; ascending = ascending; new = parts.0; free = parts.1; place = place; places = places }

-- A result is one answer.
one-answer : {V F : Type 0} (result : Result V F) → HasOneAnswer (λ (value : V). result ≡ Ok value) (λ (fault : F). result ≡ Err fault)
one-answer {V} {F} (Ok x) = record {
  some = inl (x, refl);
  one_value = λ value other is also. let same : ◌≡◌ {A = Result V F} (Ok value) (Ok other) = sym is ∙ also in cc;
  one_fault = λ fault other is also. absurd (let wrong : ◌≡◌ {A = Result V F} (Ok x) (Err fault) = is in cc);
  not_both = λ value fault is also. let wrong : ◌≡◌ {A = Result V F} (Ok x) (Err fault) = also in cc;
}
one-answer {V} {F} (Err e) = record {
  some = inr (e, refl);
  one_value = λ value other is also. absurd (let wrong : ◌≡◌ {A = Result V F} (Err e) (Ok value) = is in cc);
  one_fault = λ fault other is also. let same : ◌≡◌ {A = Result V F} (Err fault) (Err other) = sym is ∙ also in cc;
  not_both = λ value fault is also. let wrong : ◌≡◌ {A = Result V F} (Err e) (Ok value) = is in cc;
}

module _ (table : LockTable) (txn : TxnId) (wants : List Want) where
  -- The result is what the transaction is answered, or want of memory.
  abbrev pub IsAnswer : Result GrantPlan LockError → Type 0
  IsAnswer result = Answers (λ plan. answer_to table txn wants ≡ Ok plan) (λ cause. answer_to table txn wants ≡ Err cause) (λ plan. plan) cause_of result

  pub gives : (plan : GrantPlan) → answer_to table txn wants ≡ Ok plan → IsAnswer (Ok plan)
  gives plan is = answered _ _ (one-answer (answer_to table txn wants)) (λ plan. plan) cause_of (Ok plan) is tt

  pub refuses : answer_to table txn wants ≡ Err Spent → IsAnswer (Err Spent)
  refuses is = answered _ _ (one-answer (answer_to table txn wants)) (λ plan. plan) cause_of (Err Spent) tt is

  pub no-memory : IsAnswer (Err NoMemory)
  no-memory = answered _ _ (one-answer (answer_to table txn wants)) (λ plan. plan) cause_of (Err NoMemory) tt tt

  pub answered-now : (plan : GrantPlan) → standing_answer table.grants txn wants ≡ Some plan → IsAnswer (Ok plan)
  answered-now plan some = gives plan (ap (unless_answered table (new_grant table txn wants)) some)

  pub fresh : standing_answer table.grants txn wants ≡ None → (table.next == NEVER_GIVEN) ≡ false → answer_to table txn wants ≡ Ok (Fresh (new_grant table txn wants))
  fresh none isnt = ap (unless_answered table (new_grant table txn wants)) none ∙ ap (λ b. if b then Err Spent else Ok (Fresh (new_grant table txn wants))) isnt

  pub answered-fresh : standing_answer table.grants txn wants ≡ None → (table.next == NEVER_GIVEN) ≡ false → IsAnswer (Ok (Fresh (new_grant table txn wants)))
  answered-fresh none isnt = gives (Fresh (new_grant table txn wants)) (fresh none isnt)

  pub answered-spent : standing_answer table.grants txn wants ≡ None → (table.next == NEVER_GIVEN) ≡ true → IsAnswer (Err Spent)
  answered-spent none is =
      refuses (ap (unless_answered table (new_grant table txn wants)) none ∙ ap (λ b. if b then Err Spent else Ok (Fresh (new_grant table txn wants))) is)
