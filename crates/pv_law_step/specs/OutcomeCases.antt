-- The cases of a site's steps on outcomes and on questions for them, each with what it comes from and the step that it is.
use Rattle.std.specs.Prelude.{◌≡◌, ◌≢◌, ℕ, ◌==◌, Bool, true, false, Some}
use Rattle.pv_base.specs.declared.txn.TxnId.{TxnId}
use Rattle.pv_format.specs.Message.{outcome_reported}
use Rattle.pv_format.specs.Record.{outcome_known}
use Rattle.pv_protocol.specs.Here.{Here, remembering, nothing, sending, noting, only_to, without_grant, length_with, is_full}
use Rattle.pv_protocol.specs.Outcome.{is_needed, learning, is_issued, works_on}
use Rattle.pv_protocol.specs.Records.{known, is_undecided}
use Rattle.pv_protocol.specs.State.{full, Step}

-- The transaction's own site reports it, and it isn't known here.
pub record IsNews (here : Here) (from : ℕ) (txn : TxnId) : Type 0 where
  pub own : (from == txn.site.0) ≡ true
  pub unknown : is_undecided here.records txn ≡ true

-- The cases of an outcome.
pub data OutcomeCase (here : Here) (from : ℕ) (txn : TxnId) (commits : Bool) : Step → Type 0 where
  not_its_site : (from == txn.site.0) ≡ false → OutcomeCase here from txn commits (nothing here)
  known_already : is_undecided here.records txn ≡ false → OutcomeCase here from txn commits (nothing here)
  no_room : IsNews here from txn → is_needed here txn ≡ true → is_full here (outcome_known txn commits) ≡ true
      → OutcomeCase here from txn commits (noting here (full (length_with here (outcome_known txn commits))))
  learns : IsNews here from txn → is_needed here txn ≡ true → is_full here (outcome_known txn commits) ≡ false
      → OutcomeCase here from txn commits (learning here txn commits)
  nothing_to_do : IsNews here from txn → is_needed here txn ≡ false → commits ≡ true → OutcomeCase here from txn commits (nothing here)
  releases : IsNews here from txn → is_needed here txn ≡ false → commits ≡ false
      → OutcomeCase here from txn commits (remembering (without_grant here.running txn))

-- The cases of a question.
pub data AskCase (here : Here) (from : ℕ) (txn : TxnId) : Step → Type 0 where
  not_issued : is_issued here txn ≡ false → AskCase here from txn (nothing here)
  has_committed : is_issued here txn ≡ true → known here.records txn ≡ Some true
      → AskCase here from txn (sending here.running (only_to from (outcome_reported txn true)))
  still_works : is_issued here txn ≡ true → known here.records txn ≢ Some true → works_on here.running txn ≡ true → AskCase here from txn (nothing here)
  will_not_commit : is_issued here txn ≡ true → known here.records txn ≢ Some true → works_on here.running txn ≡ false
      → AskCase here from txn (sending here.running (only_to from (outcome_reported txn false)))
