-- A transaction that reaches its lock point in a step is in range.
use Rattle.std.proofs.Common.{◌≡◌, ℕ, Bool, Some, List}
use Rattle.pv_base.specs.Want.{Want}
use Rattle.pv_base.specs.declared.grant.GrantId.{GrantId}
use Rattle.pv_base.specs.declared.txn.TxnId.{TxnId}
use Rattle.pv_format.specs.Message.{Message, lock, granted, denied, prepare, vote_yes, vote_no, outcome_reported, ask, NoCause}
use Rattle.pv_format.specs.Range.{IsTxnWithin}
use Rattle.pv_law_step.proofs.Kept.{find-of}
use Rattle.pv_law_step.proofs.Lists.{OfSome, of-some}
use Rattle.pv_law_step.proofs.StepCases.{submit-case, lock-case, granted-case, denied-case, prepare-case, yes-case, no-case, outcome-case, ask-case}
use Rattle.pv_law_step.specs.GrantCases as of_grants
use Rattle.pv_law_step.specs.LockCases as of_locks
use Rattle.pv_law_step.specs.OutcomeCases as of_outcomes
use Rattle.pv_law_step.specs.VoteCases as of_votes
use Rattle.pv_model.specs.Alternatives.{Read}
use Rattle.pv_model.specs.Syntax.{Program}
use Rattle.pv_protocol.specs.Coordinate.{locking_entry}
use Rattle.pv_protocol.specs.Here.{Here}
use Rattle.pv_protocol.specs.Sound.{IsEntryInRange, IsRunningInRange}
use Rattle.pv_protocol.specs.State.{Entry, Input, Placed, Step, receive, submit, tick}
use Rattle.pv_protocol.specs.Step.{on_message, step_on}
use Rattle.pv_protocol.specs.Tick.{on_tick}

module _ (sites : ℕ) (here : Here) (running : IsRunningInRange sites here.setup.catalog here.me here.running) where
  abbrev Places : Step → Type 0
  Places step = OfSome (λ (placed : Placed). IsTxnWithin sites placed.txn) step.placed

  entry-is : (txn : TxnId) (entry : Entry) → locking_entry here.running txn ≡ Some entry → IsTxnWithin sites entry.txn
  entry-is txn entry is =
      (of-some (IsEntryInRange sites here.setup.catalog) (locking_entry here.running txn) entry (find-of (IsEntryInRange sites here.setup.catalog) _ here.running.entries running.entries) is).txn

  submit-places : (program : Program) (step : Step) → of_locks.SubmitCase here program step → Places step
  submit-places program step (of_locks.no_number_left h) = tt
  submit-places program step (of_locks.begins h) = tt

  lock-places : (from : ℕ) (txn : TxnId) (wants : List Want) (step : Step) → of_locks.LockCase here from txn wants step → Places step
  lock-places from txn wants step (of_locks.ignored h) = tt
  lock-places from txn wants step (of_locks.granted_again grant h i j) = tt
  lock-places from txn wants step (of_locks.misfits grant h i j) = tt
  lock-places from txn wants step (of_locks.denies clash h i j) = tt
  lock-places from txn wants step (of_locks.no_grant_left h i) = tt
  lock-places from txn wants step (of_locks.grants h i) = tt

  granted-places : (from : ℕ) (txn : TxnId) (grant : GrantId) (values : List Read) (step : Step) → of_grants.GrantedCase here from txn grant values step → Places step
  granted-places from txn grant values step (of_grants.no_entry h) = tt
  granted-places from txn grant values step (of_grants.ignored entry h i) = tt
  granted-places from txn grant values step (of_grants.waits entry h i) = tt
  granted-places from txn grant values step (of_grants.too_wide entry h i) = tt
  granted-places from txn grant values step (of_grants.in_doubt entry item h i doubt) = tt
  granted-places from txn grant values step (of_grants.reaches_lock_point entry last i certain) = entry-is txn entry last.taken.found

  denied-places : (from : ℕ) (txn : TxnId) (item : ℕ) (holder : TxnId) (step : Step) → of_grants.DeniedCase here from txn item holder step → Places step
  denied-places from txn item holder step (of_grants.no_entry h) = tt
  denied-places from txn item holder step (of_grants.ignored entry h i) = tt
  denied-places from txn item holder step (of_grants.refuses entry h i) = tt

  prepare-places : (from : ℕ) (txn : TxnId) (grant : GrantId) (writes : List Read) (step : Step) → of_votes.PrepareCase here from txn grant writes step → Places step
  prepare-places from txn grant writes step (of_votes.not_its_site h) = tt
  prepare-places from txn grant writes step (of_votes.again h i) = tt
  prepare-places from txn grant writes step (of_votes.none_stands h i) = tt
  prepare-places from txn grant writes step (of_votes.other_stands standing h i j) = tt
  prepare-places from txn grant writes step (of_votes.ignored standing h i j) = tt
  prepare-places from txn grant writes step (of_votes.no_room standing h i j k) = tt
  prepare-places from txn grant writes step (of_votes.promises standing h i j k) = tt

  yes-places : (from : ℕ) (txn : TxnId) (step : Step) → of_votes.YesCase here from txn step → Places step
  yes-places from txn step (of_votes.no_entry h) = tt
  yes-places from txn step (of_votes.ignored entry h i) = tt
  yes-places from txn step (of_votes.waits entry h i) = tt
  yes-places from txn step (of_votes.no_room entry h i j) = tt
  yes-places from txn step (of_votes.commits entry h i j) = tt

  no-places : (from : ℕ) (txn : TxnId) (cause : NoCause) (step : Step) → of_votes.NoCase here from txn cause step → Places step
  no-places from txn cause step (of_votes.no_entry h) = tt
  no-places from txn cause step (of_votes.ignored entry h i) = tt
  no-places from txn cause step (of_votes.refuses entry h) = tt

  outcome-places : (from : ℕ) (txn : TxnId) (commits : Bool) (step : Step) → of_outcomes.OutcomeCase here from txn commits step → Places step
  outcome-places from txn commits step (of_outcomes.not_its_site h) = tt
  outcome-places from txn commits step (of_outcomes.known_already h) = tt
  outcome-places from txn commits step (of_outcomes.no_room h i j) = tt
  outcome-places from txn commits step (of_outcomes.learns h i j) = tt
  outcome-places from txn commits step (of_outcomes.nothing_to_do h i j) = tt
  outcome-places from txn commits step (of_outcomes.releases h i j) = tt

  ask-places : (from : ℕ) (txn : TxnId) (step : Step) → of_outcomes.AskCase here from txn step → Places step
  ask-places from txn step (of_outcomes.not_issued h) = tt
  ask-places from txn step (of_outcomes.has_committed h i) = tt
  ask-places from txn step (of_outcomes.still_works h i j) = tt
  ask-places from txn step (of_outcomes.will_not_commit h i j) = tt

  tick-places : Places (on_tick here)
  unfolding on_tick
  tick-places = tt

  message-places : (from : ℕ) (message : Message) → Places (on_message here from message)
  message-places from (lock txn wants) = lock-places from txn wants _ (lock-case here from txn wants)
  message-places from (granted txn grant values) = granted-places from txn grant values _ (granted-case here from txn grant values)
  message-places from (denied txn item holder) = denied-places from txn item holder _ (denied-case here from txn item holder)
  message-places from (prepare txn grant writes) = prepare-places from txn grant writes _ (prepare-case here from txn grant writes)
  message-places from (vote_yes txn) = yes-places from txn _ (yes-case here from txn)
  message-places from (vote_no txn cause) = no-places from txn cause _ (no-case here from txn cause)
  message-places from (outcome_reported txn commits) = outcome-places from txn commits _ (outcome-case here from txn commits)
  message-places from (ask txn) = ask-places from txn _ (ask-case here from txn)

  pub placed-within : (input : Input) → Places (step_on here input)
  placed-within (submit program) = submit-places program _ (submit-case here program)
  placed-within (receive from message) = message-places from message
  placed-within tick = tick-places
