-- Each case of these steps says so.
use Rattle.std.proofs.Common.{◌≡◌, ℕ, None, List, refl}
use Rattle.pv_base.specs.declared.grant.GrantId.{GrantId}
use Rattle.pv_base.specs.declared.txn.TxnId.{TxnId}
use Rattle.pv_base.specs.Want.{Want}
use Rattle.pv_format.specs.Message.{NoCause}
use Rattle.pv_law_step.proofs.StepCases.{submit-case, lock-case, granted-case, denied-case, no-case, ask-case}
use Rattle.pv_law_step.proofs.steps.few_inputs_append.Goals as goal
use Rattle.pv_law_step.specs.GrantCases as of_grants
use Rattle.pv_law_step.specs.LockCases as of_locks
use Rattle.pv_law_step.specs.OutcomeCases as of_outcomes
use Rattle.pv_law_step.specs.VoteCases as of_votes
use Rattle.pv_model.specs.Alternatives.{Read}
use Rattle.pv_model.specs.Syntax.{Program}
use Rattle.pv_protocol.specs.Here.{Here}
use Rattle.pv_protocol.specs.State.{Step}
use Rattle.pv_protocol.specs.Tick.{on_tick}

module _ (here : Here) where
  submit-none : (program : Program) (step : Step) → of_locks.SubmitCase here program step → step.appended ≡ None
  submit-none program step (of_locks.no_number_left h) = refl
  submit-none program step (of_locks.begins h) = refl

  lock-none : (from : ℕ) (txn : TxnId) (wants : List Want) (step : Step) → of_locks.LockCase here from txn wants step → step.appended ≡ None
  lock-none from txn wants step (of_locks.ignored h) = refl
  lock-none from txn wants step (of_locks.granted_again grant h i j) = refl
  lock-none from txn wants step (of_locks.misfits grant h i j) = refl
  lock-none from txn wants step (of_locks.denies conflict h i j) = refl
  lock-none from txn wants step (of_locks.no_grant_left h i) = refl
  lock-none from txn wants step (of_locks.grants h i) = refl

  granted-none : (from : ℕ) (txn : TxnId) (grant : GrantId) (values : List Read) (step : Step) → of_grants.GrantedCase here from txn grant values step → step.appended ≡ None
  granted-none from txn grant values step (of_grants.no_entry h) = refl
  granted-none from txn grant values step (of_grants.ignored entry h i) = refl
  granted-none from txn grant values step (of_grants.waits entry h i) = refl
  granted-none from txn grant values step (of_grants.too_wide entry h i) = refl
  granted-none from txn grant values step (of_grants.in_doubt entry least h i doubt) = refl
  granted-none from txn grant values step (of_grants.reaches_lock_point entry h i certain) = refl

  denied-none : (from : ℕ) (txn : TxnId) (item : ℕ) (holder : TxnId) (step : Step) → of_grants.DeniedCase here from txn item holder step → step.appended ≡ None
  denied-none from txn item holder step (of_grants.no_entry h) = refl
  denied-none from txn item holder step (of_grants.ignored entry h i) = refl
  denied-none from txn item holder step (of_grants.refuses entry h i) = refl

  no-none : (from : ℕ) (txn : TxnId) (cause : NoCause) (step : Step) → of_votes.NoCase here from txn cause step → step.appended ≡ None
  no-none from txn cause step (of_votes.no_entry h) = refl
  no-none from txn cause step (of_votes.ignored entry h i) = refl
  no-none from txn cause step (of_votes.refuses entry h) = refl

  ask-none : (from : ℕ) (txn : TxnId) (step : Step) → of_outcomes.AskCase here from txn step → step.appended ≡ None
  ask-none from txn step (of_outcomes.not_issued h) = refl
  ask-none from txn step (of_outcomes.has_committed h i) = refl
  ask-none from txn step (of_outcomes.still_works h i j) = refl
  ask-none from txn step (of_outcomes.will_not_commit h i j) = refl

  tick-none : (on_tick here).appended ≡ None
  unfolding on_tick
  tick-none = refl

pub returns : goal.returns
returns c = record {
  requests = λ here program. submit-none here program _ (submit-case here program);
  locks = λ here from txn wants. lock-none here from txn wants _ (lock-case here from txn wants);
  grants = λ here from txn grant values. granted-none here from txn grant values _ (granted-case here from txn grant values);
  denials = λ here from txn item holder. denied-none here from txn item holder _ (denied-case here from txn item holder);
  refusals = λ here from txn cause. no-none here from txn cause _ (no-case here from txn cause);
  questions = λ here from txn. ask-none here from txn _ (ask-case here from txn);
  ticks = tick-none;
}
