-- The cases of a site's steps on requests and on locks, each with what it comes from and the step that it is.
use Rattle.std.specs.Prelude.{◌≡◌, ℕ, true, false, ◌==◌, ◌+◌, List, Some, None}
use Rattle.pv_base.specs.declared.limits.TheConstants.{NEVER_GIVEN}
use Rattle.pv_base.specs.declared.txn.TxnId.{TxnId}
use Rattle.pv_base.specs.Want.{Want}
use Rattle.pv_format.specs.Message.{denied}
use Rattle.pv_model.specs.Syntax.{Program}
use Rattle.pv_protocol.specs.Here.{Here, nothing, sending, noting, only_to, grant_of, with_grant}
use Rattle.pv_protocol.specs.Lock.{next_txn, beginning, is_lock_ignored, are_same_wants, Conflict, first_conflict, granting, next_grant}
use Rattle.pv_protocol.specs.State.{Grant, spent, Step}

-- The cases of a request.
pub data SubmitCase (here : Here) (program : Program) : Step → Type 0 where
  no_number_left : (here.running.next_txn == NEVER_GIVEN) ≡ true → SubmitCase here program (noting here spent)
  begins : (here.running.next_txn == NEVER_GIVEN) ≡ false → SubmitCase here program (beginning here program (next_txn here))

-- The transaction may ask for these locks, has no grant here, and nobody is in the way.
pub record IsGrantable (here : Here) (from : ℕ) (txn : TxnId) (wants : List Want) : Type 0 where
  pub heard : is_lock_ignored here from txn wants ≡ false
  pub none : grant_of here.running txn ≡ None
  pub free : first_conflict here.running.grants wants ≡ None

-- The cases of a lock message.
pub data LockCase (here : Here) (from : ℕ) (txn : TxnId) (wants : List Want) : Step → Type 0 where
  ignored : is_lock_ignored here from txn wants ≡ true → LockCase here from txn wants (nothing here)
  granted_again : (grant : Grant) → is_lock_ignored here from txn wants ≡ false → grant_of here.running txn ≡ Some grant
      → are_same_wants wants grant.wants ≡ true → LockCase here from txn wants (granting here here.running grant)
  misfits : (grant : Grant) → is_lock_ignored here from txn wants ≡ false → grant_of here.running txn ≡ Some grant
      → are_same_wants wants grant.wants ≡ false → LockCase here from txn wants (nothing here)
  denies : (conflict : Conflict) → is_lock_ignored here from txn wants ≡ false → grant_of here.running txn ≡ None
      → first_conflict here.running.grants wants ≡ Some conflict
      → LockCase here from txn wants (sending here.running (only_to txn.site.0 (denied txn conflict.item conflict.holder)))
  no_grant_left : IsGrantable here from txn wants → (here.running.next_grant == NEVER_GIVEN) ≡ true
      → LockCase here from txn wants (noting here spent)
  grants : IsGrantable here from txn wants → (here.running.next_grant == NEVER_GIVEN) ≡ false
      → LockCase here from txn wants
      (granting here (with_grant (record here.running { next_grant = here.running.next_grant + 1 }) (next_grant here txn wants)) (next_grant here txn wants))
