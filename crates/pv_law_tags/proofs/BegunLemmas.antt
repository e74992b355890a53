-- A step notes that a transaction has begun where it is of a request, and then that alone.
use Rattle.std.proofs.Common.{◌≡◌, ℕ, Bool, List, [], ◌∷◌, map, refl}
use Rattle.std.specs.Prelude.{option_to_list}
use Rattle.std.specs.List.{flat_map}
use Rattle.pv_base.specs.Want.{Want}
use Rattle.pv_base.specs.declared.grant.GrantId.{GrantId}
use Rattle.pv_base.specs.declared.txn.TxnId.{TxnId}
use Rattle.pv_embed.specs.Requests.{begun_by, begun_first}
use Rattle.pv_format.specs.Message.{Message, lock, granted, denied, prepare, vote_yes, vote_no, outcome_reported, ask, NoCause}
use Rattle.pv_law_step.proofs.StepCases.{submit-case, lock-case, granted-case, denied-case, prepare-case, yes-case, no-case, outcome-case, ask-case}
use Rattle.pv_law_step.specs.GrantCases as of_grants
use Rattle.pv_law_step.specs.LockCases as of_locks
use Rattle.pv_law_step.specs.OutcomeCases as of_outcomes
use Rattle.pv_law_step.specs.VoteCases as of_votes
use Rattle.pv_model.specs.Alternatives.{Read}
use Rattle.pv_model.specs.Syntax.{Program}
use Rattle.pv_protocol.specs.Here.{Here}
use Rattle.pv_protocol.specs.State.{Entry, Note, refused, expired, Step, submit}
use Rattle.pv_protocol.specs.Step.{on_message, step_on}
use Rattle.pv_protocol.specs.Tick.{on_tick, older_entries, expired_entries, awaited}

-- the transactions that notes say have begun
abbrev pub begun_notes : List Note → List TxnId
begun_notes notes = flat_map (λ (noted : Note). option_to_list (begun_by noted)) notes

refused-none : (here : Here) (entries : List Entry) → begun_notes (map (λ (entry : Entry). refused entry.txn (expired (awaited here entry))) entries) ≡ []
refused-none here [] = refl
refused-none here (entry ∷ entries) = refused-none here entries

module _ (here : Here) where
  abbrev None-begun : Step → Type 0
  None-begun step = begun_notes step.notes ≡ []

  pub submit-begun : (program : Program) → begun_notes (step_on here (submit program)).notes ≡ option_to_list (begun_first (step_on here (submit program)).notes)
  submit-begun program = by _ (submit-case here program) where
    by : (step : Step) → of_locks.SubmitCase here program step → begun_notes step.notes ≡ option_to_list (begun_first step.notes)
    by step (of_locks.no_number_left h) = refl
    by step (of_locks.begins h) = refl

  lock-none : (from : ℕ) (txn : TxnId) (wants : List Want) (step : Step) → of_locks.LockCase here from txn wants step → None-begun step
  lock-none from txn wants step (of_locks.ignored h) = refl
  lock-none from txn wants step (of_locks.granted_again grant h i j) = refl
  lock-none from txn wants step (of_locks.misfits grant h i j) = refl
  lock-none from txn wants step (of_locks.denies conflict h i j) = refl
  lock-none from txn wants step (of_locks.no_grant_left h i) = refl
  lock-none from txn wants step (of_locks.grants h i) = refl

  granted-none : (from : ℕ) (txn : TxnId) (grant : GrantId) (values : List Read) (step : Step) → of_grants.GrantedCase here from txn grant values step → None-begun step
  granted-none from txn grant values step (of_grants.no_entry h) = refl
  granted-none from txn grant values step (of_grants.ignored entry h i) = refl
  granted-none from txn grant values step (of_grants.waits entry h i) = refl
  granted-none from txn grant values step (of_grants.too_wide entry h i) = refl
  granted-none from txn grant values step (of_grants.in_doubt entry least h i doubt) = refl
  granted-none from txn grant values step (of_grants.reaches_lock_point entry h i certain) = refl

  denied-none : (from : ℕ) (txn : TxnId) (item : ℕ) (holder : TxnId) (step : Step) → of_grants.DeniedCase here from txn item holder step → None-begun step
  denied-none from txn item holder step (of_grants.no_entry h) = refl
  denied-none from txn item holder step (of_grants.ignored entry h i) = refl
  denied-none from txn item holder step (of_grants.refuses entry h i) = refl

  prepare-none : (from : ℕ) (txn : TxnId) (grant : GrantId) (writes : List Read) (step : Step) → of_votes.PrepareCase here from txn grant writes step → None-begun step
  prepare-none from txn grant writes step (of_votes.not_its_site h) = refl
  prepare-none from txn grant writes step (of_votes.again h i) = refl
  prepare-none from txn grant writes step (of_votes.none_stands h i) = refl
  prepare-none from txn grant writes step (of_votes.other_stands standing h i j) = refl
  prepare-none from txn grant writes step (of_votes.ignored standing h i j) = refl
  prepare-none from txn grant writes step (of_votes.no_room standing h i j k) = refl
  prepare-none from txn grant writes step (of_votes.promises standing h i j k) = refl

  yes-none : (from : ℕ) (txn : TxnId) (step : Step) → of_votes.YesCase here from txn step → None-begun step
  yes-none from txn step (of_votes.no_entry h) = refl
  yes-none from txn step (of_votes.ignored entry h i) = refl
  yes-none from txn step (of_votes.waits entry h i) = refl
  yes-none from txn step (of_votes.no_room entry h i j) = refl
  yes-none from txn step (of_votes.commits entry h i j) = refl

  no-none : (from : ℕ) (txn : TxnId) (cause : NoCause) (step : Step) → of_votes.NoCase here from txn cause step → None-begun step
  no-none from txn cause step (of_votes.no_entry h) = refl
  no-none from txn cause step (of_votes.ignored entry h i) = refl
  no-none from txn cause step (of_votes.refuses entry h) = refl

  outcome-none : (from : ℕ) (txn : TxnId) (outcome : Bool) (step : Step) → of_outcomes.OutcomeCase here from txn outcome step → None-begun step
  outcome-none from txn outcome step (of_outcomes.not_its_site h) = refl
  outcome-none from txn outcome step (of_outcomes.known_already h) = refl
  outcome-none from txn outcome step (of_outcomes.no_room h i j) = refl
  outcome-none from txn outcome step (of_outcomes.learns h i j) = refl
  outcome-none from txn outcome step (of_outcomes.nothing_to_do h i j) = refl
  outcome-none from txn outcome step (of_outcomes.releases h i j) = refl

  ask-none : (from : ℕ) (txn : TxnId) (step : Step) → of_outcomes.AskCase here from txn step → None-begun step
  ask-none from txn step (of_outcomes.not_issued h) = refl
  ask-none from txn step (of_outcomes.has_committed h i) = refl
  ask-none from txn step (of_outcomes.still_works h i j) = refl
  ask-none from txn step (of_outcomes.will_not_commit h i j) = refl

  pub tick-none : begun_notes (on_tick here).notes ≡ []
  unfolding on_tick
  tick-none = refused-none here (expired_entries (older_entries here.running.entries))

  pub message-none : (from : ℕ) (message : Message) → begun_notes (on_message here from message).notes ≡ []
  message-none from (lock txn wants) = lock-none from txn wants _ (lock-case here from txn wants)
  message-none from (granted txn grant values) = granted-none from txn grant values _ (granted-case here from txn grant values)
  message-none from (denied txn item holder) = denied-none from txn item holder _ (denied-case here from txn item holder)
  message-none from (prepare txn grant writes) = prepare-none from txn grant writes _ (prepare-case here from txn grant writes)
  message-none from (vote_yes txn) = yes-none from txn _ (yes-case here from txn)
  message-none from (vote_no txn cause) = no-none from txn cause _ (no-case here from txn cause)
  message-none from (outcome_reported txn outcome) = outcome-none from txn outcome _ (outcome-case here from txn outcome)
  message-none from (ask txn) = ask-none from txn _ (ask-case here from txn)
