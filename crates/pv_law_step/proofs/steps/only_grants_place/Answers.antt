-- Each case of these steps says so.
use Rattle.std.proofs.Common.{◌≡◌, ℕ, Bool, Some, None, List, refl, sym, ap}
use Rattle.std.proofs.lemmas.Option.{none-some}
use Rattle.pv_base.proofs.Basics.{Some_inj}
use Rattle.pv_base.specs.declared.grant.GrantId.{GrantId}
use Rattle.pv_base.specs.declared.txn.TxnId.{TxnId}
use Rattle.pv_base.specs.Want.{Want}
use Rattle.pv_format.specs.Message.{NoCause}
use Rattle.pv_law_step.proofs.StepCases.{submit-case, lock-case, granted-case, denied-case, prepare-case, yes-case, no-case, outcome-case, ask-case}
use Rattle.pv_law_step.proofs.steps.only_grants_place.Goals as goal
use Rattle.pv_law_step.specs.GrantCases as of_grants
use Rattle.pv_law_step.specs.LockCases as of_locks
use Rattle.pv_law_step.specs.OutcomeCases as of_outcomes
use Rattle.pv_law_step.specs.VoteCases as of_votes
use Rattle.pv_model.specs.Alternatives.{Read}
use Rattle.pv_model.specs.Syntax.{Program}
use Rattle.pv_protocol.specs.Granted.{grants_taken, taking}
use Rattle.pv_protocol.specs.Here.{Here}
use Rattle.pv_protocol.specs.State.{Entry, Placed, Step}
use Rattle.pv_protocol.specs.Tick.{on_tick}

module _ (here : Here) where
  submit-none : (program : Program) (step : Step) → of_locks.SubmitCase here program step → step.placed ≡ None
  submit-none program step (of_locks.no_number_left h) = refl
  submit-none program step (of_locks.begins h) = refl

  lock-none : (from : ℕ) (txn : TxnId) (wants : List Want) (step : Step) → of_locks.LockCase here from txn wants step → step.placed ≡ None
  lock-none from txn wants step (of_locks.ignored h) = refl
  lock-none from txn wants step (of_locks.granted_again grant h i j) = refl
  lock-none from txn wants step (of_locks.misfits grant h i j) = refl
  lock-none from txn wants step (of_locks.denies conflict h i j) = refl
  lock-none from txn wants step (of_locks.no_grant_left h i) = refl
  lock-none from txn wants step (of_locks.grants h i) = refl

  granted-last : (from : ℕ) (txn : TxnId) (grant : GrantId) (values : List Read) (step : Step) → of_grants.GrantedCase here from txn grant values step
      → (placed : Placed) → step.placed ≡ Some placed
      → (entry : Entry) × of_grants.IsLastGrant here from txn grant values entry × (placed.grants ≡ grants_taken (taking entry from grant values))
  granted-last from txn grant values step (of_grants.no_entry h) placed is = absurd (none-some _ is)
  granted-last from txn grant values step (of_grants.ignored entry h i) placed is = absurd (none-some _ is)
  granted-last from txn grant values step (of_grants.waits entry h i) placed is = absurd (none-some _ is)
  granted-last from txn grant values step (of_grants.too_wide entry h i) placed is = absurd (none-some _ is)
  granted-last from txn grant values step (of_grants.in_doubt entry least h i doubt) placed is = absurd (none-some _ is)
  granted-last from txn grant values step (of_grants.reaches_lock_point entry last few certain) placed is =
      (entry, last, ap (λ (p : Placed). p.grants) (sym (Some_inj is)))

  denied-none : (from : ℕ) (txn : TxnId) (item : ℕ) (holder : TxnId) (step : Step) → of_grants.DeniedCase here from txn item holder step → step.placed ≡ None
  denied-none from txn item holder step (of_grants.no_entry h) = refl
  denied-none from txn item holder step (of_grants.ignored entry h i) = refl
  denied-none from txn item holder step (of_grants.refuses entry h i) = refl

  prepare-none : (from : ℕ) (txn : TxnId) (grant : GrantId) (writes : List Read) (step : Step) → of_votes.PrepareCase here from txn grant writes step → step.placed ≡ None
  prepare-none from txn grant writes step (of_votes.not_its_site h) = refl
  prepare-none from txn grant writes step (of_votes.again h i) = refl
  prepare-none from txn grant writes step (of_votes.none_stands h i) = refl
  prepare-none from txn grant writes step (of_votes.other_stands standing h i j) = refl
  prepare-none from txn grant writes step (of_votes.ignored standing h i j) = refl
  prepare-none from txn grant writes step (of_votes.no_room standing h i j k) = refl
  prepare-none from txn grant writes step (of_votes.promises standing h i j k) = refl

  yes-none : (from : ℕ) (txn : TxnId) (step : Step) → of_votes.YesCase here from txn step → step.placed ≡ None
  yes-none from txn step (of_votes.no_entry h) = refl
  yes-none from txn step (of_votes.ignored entry h i) = refl
  yes-none from txn step (of_votes.waits entry h i) = refl
  yes-none from txn step (of_votes.no_room entry h i j) = refl
  yes-none from txn step (of_votes.commits entry h i j) = refl

  no-none : (from : ℕ) (txn : TxnId) (cause : NoCause) (step : Step) → of_votes.NoCase here from txn cause step → step.placed ≡ None
  no-none from txn cause step (of_votes.no_entry h) = refl
  no-none from txn cause step (of_votes.ignored entry h i) = refl
  no-none from txn cause step (of_votes.refuses entry h) = refl

  outcome-none : (from : ℕ) (txn : TxnId) (commits : Bool) (step : Step) → of_outcomes.OutcomeCase here from txn commits step → step.placed ≡ None
  outcome-none from txn commits step (of_outcomes.not_its_site h) = refl
  outcome-none from txn commits step (of_outcomes.known_already h) = refl
  outcome-none from txn commits step (of_outcomes.no_room h i j) = refl
  outcome-none from txn commits step (of_outcomes.learns h i j) = refl
  outcome-none from txn commits step (of_outcomes.nothing_to_do h i j) = refl
  outcome-none from txn commits step (of_outcomes.releases h i j) = refl

  ask-none : (from : ℕ) (txn : TxnId) (step : Step) → of_outcomes.AskCase here from txn step → step.placed ≡ None
  ask-none from txn step (of_outcomes.not_issued h) = refl
  ask-none from txn step (of_outcomes.has_committed h i) = refl
  ask-none from txn step (of_outcomes.still_works h i j) = refl
  ask-none from txn step (of_outcomes.will_not_commit h i j) = refl

  tick-none : (on_tick here).placed ≡ None
  unfolding on_tick
  tick-none = refl

pub returns : goal.returns
returns c = record {
  requests = λ here program. submit-none here program _ (submit-case here program);
  locks = λ here from txn wants. lock-none here from txn wants _ (lock-case here from txn wants);
  grants = λ here from txn grant values. granted-last here from txn grant values _ (granted-case here from txn grant values);
  denials = λ here from txn item holder. denied-none here from txn item holder _ (denied-case here from txn item holder);
  prepares = λ here from txn grant writes. prepare-none here from txn grant writes _ (prepare-case here from txn grant writes);
  votes = λ here from txn. yes-none here from txn _ (yes-case here from txn);
  refusals = λ here from txn cause. no-none here from txn cause _ (no-case here from txn cause);
  outcomes = λ here from txn commits. outcome-none here from txn commits _ (outcome-case here from txn commits);
  questions = λ here from txn. ask-none here from txn _ (ask-case here from txn);
  ticks = tick-none;
}
