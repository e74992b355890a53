-- The cases of a coordinator's steps on answers to locks, each with what it comes from and the step that it is.
use Rattle.std.specs.Prelude.{◌≡◌, ℕ, ◌||◌, not, nat_lt, length, true, false, List, Some, None}
use Rattle.pv_base.specs.declared.grant.GrantId.{GrantId}
use Rattle.pv_base.specs.declared.txn.TxnId.{TxnId}
use Rattle.pv_model.specs.Alternatives.{Read}
use Rattle.pv_protocol.specs.Coordinate.{locking_entry, has_all_grants, names_taken, doubts}
use Rattle.pv_protocol.specs.Granted.{asked_of, is_unawaited, is_grant_ignored, taking, at_lock_point, first_uncertain, is_wanted}
use Rattle.pv_protocol.specs.Here.{Here, remembering, nothing, with_entry, refusing}
use Rattle.pv_protocol.specs.State.{Entry, conflict, outcome_limit, uncertain, Step}

-- The coordinator has this entry, and takes this grant.
pub record IsTaken (here : Here) (from : ℕ) (txn : TxnId) (values : List Read) (entry : Entry) : Type 0 where
  pub found : locking_entry here.running txn ≡ Some entry
  pub heard : is_grant_ignored here entry from values ≡ false

-- With this grant, the entry has those of all participants.
pub record IsLastGrant (here : Here) (from : ℕ) (txn : TxnId) (grant : GrantId) (values : List Read) (entry : Entry) : Type 0 where
  pub taken : IsTaken here from txn values entry
  pub whole : has_all_grants here (taking entry from grant values) ≡ true

-- The cases of a granted message.
pub data GrantedCase (here : Here) (from : ℕ) (txn : TxnId) (grant : GrantId) (values : List Read) : Step → Type 0 where
  no_entry : locking_entry here.running txn ≡ None → GrantedCase here from txn grant values (nothing here)
  ignored : (entry : Entry) → locking_entry here.running txn ≡ Some entry → is_grant_ignored here entry from values ≡ true
      → GrantedCase here from txn grant values (nothing here)
  waits : (entry : Entry) → IsTaken here from txn values entry → has_all_grants here (taking entry from grant values) ≡ false
      → GrantedCase here from txn grant values (remembering (with_entry here.running (taking entry from grant values)))
  too_wide : (entry : Entry) → IsLastGrant here from txn grant values entry
      → nat_lt here.setup.read_names (length (names_taken (taking entry from grant values))) ≡ true
      → GrantedCase here from txn grant values
      (refusing here (taking entry from grant values) (outcome_limit (length (names_taken (taking entry from grant values)))))
  in_doubt : (entry : Entry) (item : ℕ) → IsLastGrant here from txn grant values entry
      → nat_lt here.setup.read_names (length (names_taken (taking entry from grant values))) ≡ false
      → first_uncertain here (taking entry from grant values) ≡ Some item
      → GrantedCase here from txn grant values
      (refusing here (taking entry from grant values) (uncertain item (doubts here.records (taking entry from grant values) item)))
  reaches_lock_point : (entry : Entry) → IsLastGrant here from txn grant values entry
      → nat_lt here.setup.read_names (length (names_taken (taking entry from grant values))) ≡ false
      → first_uncertain here (taking entry from grant values) ≡ None
      → GrantedCase here from txn grant values (at_lock_point here (taking entry from grant values))

-- The cases of a denied message.
pub data DeniedCase (here : Here) (from : ℕ) (txn : TxnId) (item : ℕ) (holder : TxnId) : Step → Type 0 where
  no_entry : locking_entry here.running txn ≡ None → DeniedCase here from txn item holder (nothing here)
  ignored : (entry : Entry) → locking_entry here.running txn ≡ Some entry
      → is_unawaited here entry from || not (is_wanted (asked_of here entry from) item) ≡ true
      → DeniedCase here from txn item holder (nothing here)
  refuses : (entry : Entry) → locking_entry here.running txn ≡ Some entry
      → is_unawaited here entry from || not (is_wanted (asked_of here entry from) item) ≡ false
      → DeniedCase here from txn item holder (refusing here entry (conflict from item holder))
