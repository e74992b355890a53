-- What a transaction is answered that asks for locks.
use Rattle.std.specs.Prelude.{Option, Some, None, Result, Ok, Err, List, ◌==◌, if◌then◌else◌, ⊤}
use Rattle.pv_base.specs.Want.{Want}
use Rattle.pv_base.specs.declared.limits.TheConstants.{NEVER_GIVEN}
use Rattle.pv_base.specs.declared.txn.TxnId.{TxnId}
use Rattle.pv_protocol.specs.Keyed.{of_txn}
use Rattle.pv_protocol.specs.Lock as protocol
use Rattle.pv_protocol.specs.Lock.{are_same_wants, first_conflict}
use Rattle.pv_protocol.specs.State.{Grant}
use Rattle.pv_locks.specs.declared.plan.GrantPlan.{GrantPlan}
use Rattle.pv_locks.specs.declared.plan.GrantPlan.TheVariants.{Standing, Misfit, Conflict, Fresh}
use Rattle.pv_locks.specs.declared.plan.LockError.{LockError}
use Rattle.pv_locks.specs.declared.plan.LockError.TheVariants.{Spent, NoMemory}
use Rattle.pv_locks.specs.LockTable.{LockTable}
use Rattle.pv_locks.specs.Planned.{IsPlanned, new_grant}

-- what is answered where there is this conflict
abbrev pub at_conflict : Option protocol.Conflict → Option GrantPlan
at_conflict None = None
at_conflict (Some conflict) = Some (Conflict (record { 0 = conflict.item }) conflict.holder)

-- what is answered where the transaction has this grant, or where none of it stands
abbrev pub at_standing : List Grant → List Want → Option Grant → Option GrantPlan
at_standing grants wants None = at_conflict (first_conflict grants wants)
at_standing grants wants (Some grant) = Some (if are_same_wants wants grant.wants then Standing grant.id else Misfit)

-- what is answered where no grant can be made
abbrev pub standing_answer : List Grant → TxnId → List Want → Option GrantPlan
standing_answer grants txn wants = at_standing grants wants (of_txn (λ (grant : Grant). grant.txn) txn grants)

-- Where a grant can be made, it is, unless there is no number left.
abbrev pub unless_answered : LockTable → Grant → Option GrantPlan → Result GrantPlan LockError
unless_answered table grant (Some plan) = Ok plan
unless_answered table grant None = if table.next == NEVER_GIVEN then Err Spent else Ok (Fresh grant)

-- what the transaction is answered
abbrev pub answer_to : LockTable → TxnId → List Want → Result GrantPlan LockError
answer_to table txn wants = unless_answered table (new_grant table txn wants) (standing_answer table.grants txn wants)

-- The cause of the error, where it has one.
abbrev pub cause_of : LockError → Option LockError
cause_of Spent = Some Spent
cause_of NoMemory = None

-- A grant that is answered may be made.
abbrev pub CanBeMade : LockTable → GrantPlan → Type 0
CanBeMade table (Standing id) = ⊤
CanBeMade table Misfit = ⊤
CanBeMade table (Conflict item holder) = ⊤
CanBeMade table (Fresh change) = IsPlanned table change
