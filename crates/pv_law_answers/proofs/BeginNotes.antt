-- Which step notes that a transaction has begun: that on its request alone.
use Rattle.std.proofs.Common.{◌≡◌, ⊎_elim, ℕ, Bool, List, [], ◌∷◌, refl, sym}
use Rattle.std.specs.List.{Contains}
use Rattle.pv_base.proofs.ContainsLemmas.{Contains-nil, Contains-cases}
use Rattle.pv_base.proofs.MapLemmas.{Contains-unmap}
use Rattle.pv_base.specs.Want.{Want}
use Rattle.pv_base.specs.declared.grant.GrantId.{GrantId}
use Rattle.pv_base.specs.declared.txn.TxnId.{TxnId}
use Rattle.pv_format.specs.Message.{Message, lock, granted, denied, prepare, vote_yes, vote_no, outcome_reported, ask, NoCause}
use Rattle.pv_law_step.proofs.StepCases.{submit-case, lock-case, granted-case, denied-case, prepare-case, yes-case, no-case, outcome-case, ask-case}
use Rattle.pv_law_step.specs.GrantCases as of_grants
use Rattle.pv_law_step.specs.LockCases as of_locks
use Rattle.pv_law_step.specs.OutcomeCases as of_outcomes
use Rattle.pv_law_step.specs.VoteCases as of_votes
use Rattle.pv_model.specs.Alternatives.{Read}
use Rattle.pv_model.specs.Syntax.{Program}
use Rattle.pv_protocol.specs.Here.{Here}
use Rattle.pv_protocol.specs.Lock.{next_txn, beginning}
use Rattle.pv_protocol.specs.State.{Entry, Cause, Input, submit, receive, tick, Note, began, refused, full, spent, expired, Step}
use Rattle.pv_protocol.specs.Step.{on_message, step_on}
use Rattle.pv_protocol.specs.Tick.{on_tick, older_entries, expired_entries, awaited}

-- The site gives its next number to a transaction.
pub record IsBeginning (here : Here) (input : Input) (txn : TxnId) : Type 0 where
  pub program : Program
  pub own : txn ≡ next_txn here
  pub step : step_on here input ≡ beginning here program (next_txn here)

module _ (here : Here) (t : TxnId) where
  abbrev Notes : Step → Type 0
  Notes step = Contains step.notes (began t)

  none-noted : Contains [] (began t) → ⊥
  none-noted h = Contains-nil (began t) h

  other-noted : (note : Note) → (note ≡ began t → ⊥) → Contains (note ∷ []) (began t) → ⊥
  other-noted note other h = ⊎_elim other none-noted (Contains-cases note [] (began t) h)

  refused-noted : (txn : TxnId) (cause : Cause) → Contains (refused txn cause ∷ []) (began t) → ⊥
  refused-noted txn cause = other-noted (refused txn cause) (λ same. let wrong : ⊥ = cc in wrong)

  full-noted : (length : ℕ) → Contains (full length ∷ []) (began t) → ⊥
  full-noted length = other-noted (full length) (λ same. let wrong : ⊥ = cc in wrong)

  spent-noted : Contains (spent ∷ []) (began t) → ⊥
  spent-noted = other-noted spent (λ same. let wrong : ⊥ = cc in wrong)

  submit-noted : (program : Program) (step : Step) → of_locks.SubmitCase here program step → step ≡ step_on here (submit program) → Notes step → IsBeginning here (submit program) t
  submit-noted program step (of_locks.no_number_left h) same noted = absurd (spent-noted noted)
  submit-noted program step (of_locks.begins h) same noted =
      let is : began (next_txn here) ≡ began t = ⊎_elim (λ one. one) (λ none. absurd (none-noted none)) (Contains-cases (began (next_txn here)) [] (began t) noted) in
      let own : next_txn here ≡ t = cc in
      record { program = program; own = sym own; step = sym same }

  lock-none : (from : ℕ) (txn : TxnId) (wants : List Want) (step : Step) → of_locks.LockCase here from txn wants step → Notes step → ⊥
  lock-none from txn wants step (of_locks.ignored h) = none-noted
  lock-none from txn wants step (of_locks.granted_again grant h i j) = none-noted
  lock-none from txn wants step (of_locks.misfits grant h i j) = none-noted
  lock-none from txn wants step (of_locks.denies conflict h i j) = none-noted
  lock-none from txn wants step (of_locks.no_grant_left h i) = spent-noted
  lock-none from txn wants step (of_locks.grants h i) = none-noted

  granted-none : (from : ℕ) (txn : TxnId) (grant : GrantId) (values : List Read) (step : Step) → of_grants.GrantedCase here from txn grant values step → Notes step → ⊥
  granted-none from txn grant values step (of_grants.no_entry h) = none-noted
  granted-none from txn grant values step (of_grants.ignored entry h i) = none-noted
  granted-none from txn grant values step (of_grants.waits entry h i) = none-noted
  granted-none from txn grant values step (of_grants.too_wide entry h i) = refused-noted _ _
  granted-none from txn grant values step (of_grants.in_doubt entry least h i doubt) = refused-noted _ _
  granted-none from txn grant values step (of_grants.reaches_lock_point entry h i certain) = none-noted

  denied-none : (from : ℕ) (txn : TxnId) (item : ℕ) (holder : TxnId) (step : Step) → of_grants.DeniedCase here from txn item holder step → Notes step → ⊥
  denied-none from txn item holder step (of_grants.no_entry h) = none-noted
  denied-none from txn item holder step (of_grants.ignored entry h i) = none-noted
  denied-none from txn item holder step (of_grants.refuses entry h i) = refused-noted _ _

  prepare-none : (from : ℕ) (txn : TxnId) (grant : GrantId) (writes : List Read) (step : Step) → of_votes.PrepareCase here from txn grant writes step → Notes step → ⊥
  prepare-none from txn grant writes step (of_votes.not_its_site h) = none-noted
  prepare-none from txn grant writes step (of_votes.again h i) = none-noted
  prepare-none from txn grant writes step (of_votes.none_stands h i) = none-noted
  prepare-none from txn grant writes step (of_votes.other_stands standing h i j) = none-noted
  prepare-none from txn grant writes step (of_votes.ignored standing h i j) = none-noted
  prepare-none from txn grant writes step (of_votes.no_room standing h i j k) = none-noted
  prepare-none from txn grant writes step (of_votes.promises standing h i j k) = none-noted

  yes-none : (from : ℕ) (txn : TxnId) (step : Step) → of_votes.YesCase here from txn step → Notes step → ⊥
  yes-none from txn step (of_votes.no_entry h) = none-noted
  yes-none from txn step (of_votes.ignored entry h i) = none-noted
  yes-none from txn step (of_votes.waits entry h i) = none-noted
  yes-none from txn step (of_votes.no_room entry h i j) = refused-noted _ _
  yes-none from txn step (of_votes.commits entry h i j) = other-noted _ (λ same. let wrong : ⊥ = cc in wrong)

  no-none : (from : ℕ) (txn : TxnId) (cause : NoCause) (step : Step) → of_votes.NoCase here from txn cause step → Notes step → ⊥
  no-none from txn cause step (of_votes.no_entry h) = none-noted
  no-none from txn cause step (of_votes.ignored entry h i) = none-noted
  no-none from txn cause step (of_votes.refuses entry h) = refused-noted _ _

  outcome-none : (from : ℕ) (txn : TxnId) (outcome : Bool) (step : Step) → of_outcomes.OutcomeCase here from txn outcome step → Notes step → ⊥
  outcome-none from txn outcome step (of_outcomes.not_its_site h) = none-noted
  outcome-none from txn outcome step (of_outcomes.known_already h) = none-noted
  outcome-none from txn outcome step (of_outcomes.no_room h i j) = full-noted _
  outcome-none from txn outcome step (of_outcomes.learns h i j) = none-noted
  outcome-none from txn outcome step (of_outcomes.nothing_to_do h i j) = none-noted
  outcome-none from txn outcome step (of_outcomes.releases h i j) = none-noted

  ask-none : (from : ℕ) (txn : TxnId) (step : Step) → of_outcomes.AskCase here from txn step → Notes step → ⊥
  ask-none from txn step (of_outcomes.not_issued h) = none-noted
  ask-none from txn step (of_outcomes.has_committed h i) = none-noted
  ask-none from txn step (of_outcomes.still_works h i j) = none-noted
  ask-none from txn step (of_outcomes.will_not_commit h i j) = none-noted

  tick-none : Notes (on_tick here) → ⊥
  unfolding on_tick
  tick-none h =
      let found = Contains-unmap (λ (entry : Entry). refused entry.txn (expired (awaited here entry))) (expired_entries (older_entries here.running.entries)) (began t) h in
      let same : refused found.0.txn (expired (awaited here found.0)) ≡ began t = found.1.1 in
      let wrong : ⊥ = cc in wrong

  message-none : (from : ℕ) (message : Message) → Notes (on_message here from message) → ⊥
  message-none from (lock txn wants) = lock-none from txn wants _ (lock-case here from txn wants)
  message-none from (granted txn grant values) = granted-none from txn grant values _ (granted-case here from txn grant values)
  message-none from (denied txn item holder) = denied-none from txn item holder _ (denied-case here from txn item holder)
  message-none from (prepare txn grant writes) = prepare-none from txn grant writes _ (prepare-case here from txn grant writes)
  message-none from (vote_yes txn) = yes-none from txn _ (yes-case here from txn)
  message-none from (vote_no txn cause) = no-none from txn cause _ (no-case here from txn cause)
  message-none from (outcome_reported txn outcome) = outcome-none from txn outcome _ (outcome-case here from txn outcome)
  message-none from (ask txn) = ask-none from txn _ (ask-case here from txn)

  pub begin-noted : (input : Input) → Notes (step_on here input) → IsBeginning here input t
  begin-noted (submit program) noted = submit-noted program _ (submit-case here program) refl noted
  begin-noted (receive from message) noted = absurd (message-none from message noted)
  begin-noted tick noted = absurd (tick-none noted)
