-- What each step appends, and that its numbers only rise.
use Rattle.std.proofs.Common.{◌≡◌, ℕ, Bool, true, false, Some, None, Option, List, [], ◌∷◌, refl, sym, subst, arith}
use Rattle.std.specs.Prelude.{◌≤◌, if◌then◌else◌}
use Rattle.pv_base.specs.declared.grant.GrantId.{GrantId}
use Rattle.pv_base.specs.declared.txn.TxnId.{TxnId}
use Rattle.pv_base.specs.Want.{Want}
use Rattle.pv_format.specs.Message.{Message, lock, granted, denied, prepare, vote_yes, vote_no, outcome_reported, ask, NoCause}
use Rattle.pv_format.specs.Record.{prepared}
use Rattle.pv_law_step.proofs.StepCases.{submit-case, lock-case, granted-case, denied-case, prepare-case, yes-case, no-case, outcome-case, ask-case}
use Rattle.pv_law_step.specs.Appends.{Appends, nothing_at_all, an_outcome, a_promise, Rises}
use Rattle.pv_law_step.specs.GrantCases as of_grants
use Rattle.pv_law_step.specs.LockCases as of_locks
use Rattle.pv_law_step.specs.OutcomeCases as of_outcomes
use Rattle.pv_law_step.specs.VoteCases as of_votes
use Rattle.pv_model.specs.Alternatives.{Read}
use Rattle.pv_model.specs.Syntax.{Program}
use Rattle.pv_protocol.specs.Here.{Here, grant_of, is_full}
use Rattle.pv_protocol.specs.Records.{is_prepared}
use Rattle.pv_protocol.specs.Vote.{are_writes_ignored, promising}
use Rattle.pv_protocol.specs.State.{Grant, Running, Input, submit, receive, tick, Step}
use Rattle.pv_protocol.specs.Step.{on_message, step_on}
use Rattle.pv_protocol.specs.Tick.{on_tick}
use Rattle.std.specs.List.{find}
use Rattle.pv_base.specs.Assignment.{is_same_txn}
use Rattle.pv_base.proofs.AssignmentLemmas.{same-eq}

-- What is found passes the test.

found-by : {X : Type 0} (p : X → Bool) (b : Bool) (y x : X) (rest : Option X) → p y ≡ b → (rest ≡ Some x → p x ≡ true) → (if b then Some y else rest) ≡ Some x → p x ≡ true
found-by p true y x rest passes later is = let same : y ≡ x = cc in subst (λ z. p z ≡ true) same passes
found-by p false y x rest passes later is = later is

pub found-passes : {X : Type 0} (p : X → Bool) (xs : List X) (x : X) → find p xs ≡ Some x → p x ≡ true
found-passes p [] x is = absurd (let wrong : ⊥ = cc in wrong)
found-passes p (y ∷ ys) x is = found-by p (p y) y x (find p ys) refl (λ later. found-passes p ys x later) is

-- A transaction's grant is of the transaction.
pub grant-txn : (running : Running) (txn : TxnId) (grant : Grant) → grant_of running txn ≡ Some grant → txn ≡ grant.txn
grant-txn running txn grant found = same-eq (found-passes (λ (x : Grant). is_same_txn txn x.txn) running.grants grant found)

-- The step appends what it may, and its numbers only rise.
pub record IsSteady (here : Here) (step : Step) : Type 0 where
  pub appends : Appends here step.appended
  pub rises : Rises here.running step.running

still : (here : Here) (step : Step) → step.appended ≡ None → step.running.epoch ≡ here.running.epoch → here.running.next_txn ≤ step.running.next_txn
    → here.running.next_grant ≤ step.running.next_grant → IsSteady here step
still here step none epoch txns grants = record {
  appends = subst (Appends here) (sym none) nothing_at_all;
  rises = record { epoch = epoch; txns = txns; grants = grants };
}

module _ (here : Here) where
  submit-steady : (program : Program) (step : Step) → of_locks.SubmitCase here program step → IsSteady here step
  submit-steady program step (of_locks.no_number_left h) = still here step refl refl (omega arith) (omega arith)
  submit-steady program step (of_locks.begins h) = still here step refl refl (omega arith) (omega arith)

  lock-steady : (from : ℕ) (txn : TxnId) (wants : List Want) (step : Step) → of_locks.LockCase here from txn wants step → IsSteady here step
  lock-steady from txn wants step (of_locks.ignored h) = still here step refl refl (omega arith) (omega arith)
  lock-steady from txn wants step (of_locks.granted_again grant h i j) = still here step refl refl (omega arith) (omega arith)
  lock-steady from txn wants step (of_locks.misfits grant h i j) = still here step refl refl (omega arith) (omega arith)
  lock-steady from txn wants step (of_locks.denies conflict h i j) = still here step refl refl (omega arith) (omega arith)
  lock-steady from txn wants step (of_locks.no_grant_left h i) = still here step refl refl (omega arith) (omega arith)
  lock-steady from txn wants step (of_locks.grants h i) = still here step refl refl (omega arith) (omega arith)

  granted-steady : (from : ℕ) (txn : TxnId) (grant : GrantId) (values : List Read) (step : Step) → of_grants.GrantedCase here from txn grant values step → IsSteady here step
  granted-steady from txn grant values step (of_grants.no_entry h) = still here step refl refl (omega arith) (omega arith)
  granted-steady from txn grant values step (of_grants.ignored entry h i) = still here step refl refl (omega arith) (omega arith)
  granted-steady from txn grant values step (of_grants.waits entry h i) = still here step refl refl (omega arith) (omega arith)
  granted-steady from txn grant values step (of_grants.too_wide entry h i) = still here step refl refl (omega arith) (omega arith)
  granted-steady from txn grant values step (of_grants.in_doubt entry least h i doubt) = still here step refl refl (omega arith) (omega arith)
  granted-steady from txn grant values step (of_grants.reaches_lock_point entry h i certain) = still here step refl refl (omega arith) (omega arith)

  denied-steady : (from : ℕ) (txn : TxnId) (item : ℕ) (holder : TxnId) (step : Step) → of_grants.DeniedCase here from txn item holder step → IsSteady here step
  denied-steady from txn item holder step (of_grants.no_entry h) = still here step refl refl (omega arith) (omega arith)
  denied-steady from txn item holder step (of_grants.ignored entry h i) = still here step refl refl (omega arith) (omega arith)
  denied-steady from txn item holder step (of_grants.refuses entry h i) = still here step refl refl (omega arith) (omega arith)

  promise-steady : (txn : TxnId) (grant : Grant) (writes : List Read) → grant_of here.running txn ≡ Some grant → is_prepared here.records txn ≡ false
      → are_writes_ignored here grant writes ≡ false → is_full here (prepared grant.txn writes) ≡ false → IsSteady here (promising here grant writes)
  promise-steady txn grant writes stands unprepared right room =
      let same : txn ≡ grant.txn = grant-txn here.running txn grant stands in
      record {
        appends = a_promise grant.txn writes
            (record {
              grant = grant;
              stands = subst (λ t. grant_of here.running t ≡ Some grant) same stands;
              unprepared = subst (λ t. is_prepared here.records t ≡ false) same unprepared;
              right = right;
            })
            room;
        rises = record { epoch = refl; txns = omega arith; grants = omega arith };
      }

  prepare-steady : (from : ℕ) (txn : TxnId) (grant : GrantId) (writes : List Read) (step : Step) → of_votes.PrepareCase here from txn grant writes step → IsSteady here step
  prepare-steady from txn grant writes step (of_votes.not_its_site h) = still here step refl refl (omega arith) (omega arith)
  prepare-steady from txn grant writes step (of_votes.again h i) = still here step refl refl (omega arith) (omega arith)
  prepare-steady from txn grant writes step (of_votes.none_stands h i) = still here step refl refl (omega arith) (omega arith)
  prepare-steady from txn grant writes step (of_votes.other_stands standing h i j) = still here step refl refl (omega arith) (omega arith)
  prepare-steady from txn grant writes step (of_votes.ignored standing h i j) = still here step refl refl (omega arith) (omega arith)
  prepare-steady from txn grant writes step (of_votes.no_room standing h i j k) = still here step refl refl (omega arith) (omega arith)
  prepare-steady from txn grant writes step (of_votes.promises standing h i j k) = promise-steady txn standing writes i.found h.unprepared j k

  yes-steady : (from : ℕ) (txn : TxnId) (step : Step) → of_votes.YesCase here from txn step → IsSteady here step
  yes-steady from txn step (of_votes.no_entry h) = still here step refl refl (omega arith) (omega arith)
  yes-steady from txn step (of_votes.ignored entry h i) = still here step refl refl (omega arith) (omega arith)
  yes-steady from txn step (of_votes.waits entry h i) = still here step refl refl (omega arith) (omega arith)
  yes-steady from txn step (of_votes.no_room entry h i j) = still here step refl refl (omega arith) (omega arith)
  yes-steady from txn step (of_votes.commits entry h i j) = record { appends = an_outcome entry.txn true j; rises = record { epoch = refl; txns = omega arith; grants = omega arith } }

  no-steady : (from : ℕ) (txn : TxnId) (cause : NoCause) (step : Step) → of_votes.NoCase here from txn cause step → IsSteady here step
  no-steady from txn cause step (of_votes.no_entry h) = still here step refl refl (omega arith) (omega arith)
  no-steady from txn cause step (of_votes.ignored entry h i) = still here step refl refl (omega arith) (omega arith)
  no-steady from txn cause step (of_votes.refuses entry h) = still here step refl refl (omega arith) (omega arith)

  outcome-steady : (from : ℕ) (txn : TxnId) (commits : Bool) (step : Step) → of_outcomes.OutcomeCase here from txn commits step → IsSteady here step
  outcome-steady from txn commits step (of_outcomes.not_its_site h) = still here step refl refl (omega arith) (omega arith)
  outcome-steady from txn commits step (of_outcomes.known_already h) = still here step refl refl (omega arith) (omega arith)
  outcome-steady from txn commits step (of_outcomes.no_room h i j) = still here step refl refl (omega arith) (omega arith)
  outcome-steady from txn commits step (of_outcomes.learns h i j) = record { appends = an_outcome txn commits j; rises = record { epoch = refl; txns = omega arith; grants = omega arith } }
  outcome-steady from txn commits step (of_outcomes.nothing_to_do h i j) = still here step refl refl (omega arith) (omega arith)
  outcome-steady from txn commits step (of_outcomes.releases h i j) = still here step refl refl (omega arith) (omega arith)

  ask-steady : (from : ℕ) (txn : TxnId) (step : Step) → of_outcomes.AskCase here from txn step → IsSteady here step
  ask-steady from txn step (of_outcomes.not_issued h) = still here step refl refl (omega arith) (omega arith)
  ask-steady from txn step (of_outcomes.has_committed h i) = still here step refl refl (omega arith) (omega arith)
  ask-steady from txn step (of_outcomes.still_works h i j) = still here step refl refl (omega arith) (omega arith)
  ask-steady from txn step (of_outcomes.will_not_commit h i j) = still here step refl refl (omega arith) (omega arith)

  tick-steady : IsSteady here (on_tick here)
  unfolding on_tick
  tick-steady = still here (on_tick here) refl refl (omega arith) (omega arith)

  message-steady : (from : ℕ) (message : Message) → IsSteady here (on_message here from message)
  message-steady from (lock txn wants) = lock-steady from txn wants _ (lock-case here from txn wants)
  message-steady from (granted txn grant values) = granted-steady from txn grant values _ (granted-case here from txn grant values)
  message-steady from (denied txn item holder) = denied-steady from txn item holder _ (denied-case here from txn item holder)
  message-steady from (prepare txn grant writes) = prepare-steady from txn grant writes _ (prepare-case here from txn grant writes)
  message-steady from (vote_yes txn) = yes-steady from txn _ (yes-case here from txn)
  message-steady from (vote_no txn cause) = no-steady from txn cause _ (no-case here from txn cause)
  message-steady from (outcome_reported txn commits) = outcome-steady from txn commits _ (outcome-case here from txn commits)
  message-steady from (ask txn) = ask-steady from txn _ (ask-case here from txn)

  pub steady : (input : Input) → IsSteady here (step_on here input)
  steady (submit program) = submit-steady program _ (submit-case here program)
  steady (receive from message) = message-steady from message
  steady tick = tick-steady
