-- Which step notes that a transaction has committed.
use Rattle.std.proofs.Common.{◌≡◌, ⊎_elim, ℕ, Bool, true, List, [], ◌∷◌, ◌++◌, refl, sym}
use Rattle.std.specs.List.{Contains}
use Rattle.pv_base.proofs.ContainsLemmas.{Contains-nil, Contains-cases}
use Rattle.pv_base.proofs.MapLemmas.{Contains-unmap}
use Rattle.pv_base.specs.Want.{Want}
use Rattle.pv_base.specs.declared.grant.GrantId.{GrantId}
use Rattle.pv_base.specs.declared.reply.Reply.{Reply}
use Rattle.pv_base.specs.declared.txn.TxnId.{TxnId}
use Rattle.pv_format.specs.Message.{Message, lock, granted, denied, prepare, vote_yes, vote_no, outcome_reported, ask, NoCause}
use Rattle.pv_format.specs.Record.{outcome_known}
use Rattle.pv_law_step.proofs.StepCases.{submit-case, lock-case, granted-case, denied-case, prepare-case, yes-case, no-case, outcome-case, ask-case}
use Rattle.pv_law_step.specs.GrantCases as of_grants
use Rattle.pv_law_step.specs.LockCases as of_locks
use Rattle.pv_law_step.specs.OutcomeCases as of_outcomes
use Rattle.pv_law_step.specs.VoteCases as of_votes
use Rattle.pv_law_step.specs.VoteCases.{voted, IsVote}
use Rattle.pv_model.specs.Alternatives.{Read}
use Rattle.pv_model.specs.Syntax.{Program}
use Rattle.pv_protocol.specs.Coordinate.{replies_of}
use Rattle.pv_protocol.specs.Here.{Here}
use Rattle.pv_protocol.specs.State.{Entry, Input, submit, receive, tick, Note, committed, refused, expired, Step}
use Rattle.pv_protocol.specs.Step.{on_message, step_on}
use Rattle.pv_protocol.specs.Tick.{on_tick, older_entries, expired_entries, awaited}
use Rattle.pv_protocol.specs.Vote.{committing}

-- The last vote comes, and the transaction commits.
pub record IsCommitting (here : Here) (input : Input) (txn : TxnId) (replies : List Reply) : Type 0 where
  pub from : ℕ
  pub asked : TxnId
  pub is_yes : input ≡ receive from (vote_yes asked)
  pub entry : Entry
  pub vote : IsVote here from asked entry
  pub is : entry.txn ≡ txn
  pub answers : replies ≡ replies_of (here.records ++ outcome_known entry.txn true ∷ []) (voted entry from)
  pub step : step_on here input ≡ committing here (voted entry from)

module _ (here : Here) (t : TxnId) (replies : List Reply) where
  abbrev Notes : Step → Type 0
  Notes step = Contains step.notes (committed t replies)

  none-noted : Contains [] (committed t replies) → ⊥
  none-noted h = Contains-nil (committed t replies) h

  other-noted : (note : Note) → (note ≡ committed t replies → ⊥) → Contains (note ∷ []) (committed t replies) → ⊥
  other-noted note other h = ⊎_elim other none-noted (Contains-cases note [] (committed t replies) h)

  submit-none : (program : Program) (step : Step) → of_locks.SubmitCase here program step → Notes step → ⊥
  submit-none program step (of_locks.no_number_left h) = other-noted _ (λ same. let wrong : ⊥ = cc in wrong)
  submit-none program step (of_locks.begins h) = other-noted _ (λ same. let wrong : ⊥ = cc in wrong)

  lock-none : (from : ℕ) (txn : TxnId) (wants : List Want) (step : Step) → of_locks.LockCase here from txn wants step → Notes step → ⊥
  lock-none from txn wants step (of_locks.ignored h) = none-noted
  lock-none from txn wants step (of_locks.granted_again grant h i j) = none-noted
  lock-none from txn wants step (of_locks.misfits grant h i j) = none-noted
  lock-none from txn wants step (of_locks.denies conflict h i j) = none-noted
  lock-none from txn wants step (of_locks.no_grant_left h i) = other-noted _ (λ same. let wrong : ⊥ = cc in wrong)
  lock-none from txn wants step (of_locks.grants h i) = none-noted

  granted-none : (from : ℕ) (txn : TxnId) (grant : GrantId) (values : List Read) (step : Step) → of_grants.GrantedCase here from txn grant values step → Notes step → ⊥
  granted-none from txn grant values step (of_grants.no_entry h) = none-noted
  granted-none from txn grant values step (of_grants.ignored entry h i) = none-noted
  granted-none from txn grant values step (of_grants.waits entry h i) = none-noted
  granted-none from txn grant values step (of_grants.too_wide entry h i) = other-noted _ (λ same. let wrong : ⊥ = cc in wrong)
  granted-none from txn grant values step (of_grants.in_doubt entry least h i doubt) = other-noted _ (λ same. let wrong : ⊥ = cc in wrong)
  granted-none from txn grant values step (of_grants.reaches_lock_point entry h i certain) = none-noted

  denied-none : (from : ℕ) (txn : TxnId) (item : ℕ) (holder : TxnId) (step : Step) → of_grants.DeniedCase here from txn item holder step → Notes step → ⊥
  denied-none from txn item holder step (of_grants.no_entry h) = none-noted
  denied-none from txn item holder step (of_grants.ignored entry h i) = none-noted
  denied-none from txn item holder step (of_grants.refuses entry h i) = other-noted _ (λ same. let wrong : ⊥ = cc in wrong)

  prepare-none : (from : ℕ) (txn : TxnId) (grant : GrantId) (writes : List Read) (step : Step) → of_votes.PrepareCase here from txn grant writes step → Notes step → ⊥
  prepare-none from txn grant writes step (of_votes.not_its_site h) = none-noted
  prepare-none from txn grant writes step (of_votes.again h i) = none-noted
  prepare-none from txn grant writes step (of_votes.none_stands h i) = none-noted
  prepare-none from txn grant writes step (of_votes.other_stands standing h i j) = none-noted
  prepare-none from txn grant writes step (of_votes.ignored standing h i j) = none-noted
  prepare-none from txn grant writes step (of_votes.no_room standing h i j k) = none-noted
  prepare-none from txn grant writes step (of_votes.promises standing h i j k) = none-noted

  no-none : (from : ℕ) (txn : TxnId) (cause : NoCause) (step : Step) → of_votes.NoCase here from txn cause step → Notes step → ⊥
  no-none from txn cause step (of_votes.no_entry h) = none-noted
  no-none from txn cause step (of_votes.ignored entry h i) = none-noted
  no-none from txn cause step (of_votes.refuses entry h) = other-noted _ (λ same. let wrong : ⊥ = cc in wrong)

  outcome-none : (from : ℕ) (txn : TxnId) (outcome : Bool) (step : Step) → of_outcomes.OutcomeCase here from txn outcome step → Notes step → ⊥
  outcome-none from txn outcome step (of_outcomes.not_its_site h) = none-noted
  outcome-none from txn outcome step (of_outcomes.known_already h) = none-noted
  outcome-none from txn outcome step (of_outcomes.no_room h i j) = other-noted _ (λ same. let wrong : ⊥ = cc in wrong)
  outcome-none from txn outcome step (of_outcomes.learns h i j) = none-noted
  outcome-none from txn outcome step (of_outcomes.nothing_to_do h i j) = none-noted
  outcome-none from txn outcome step (of_outcomes.releases h i j) = none-noted

  ask-none : (from : ℕ) (txn : TxnId) (step : Step) → of_outcomes.AskCase here from txn step → Notes step → ⊥
  ask-none from txn step (of_outcomes.not_issued h) = none-noted
  ask-none from txn step (of_outcomes.has_committed h i) = none-noted
  ask-none from txn step (of_outcomes.still_works h i j) = none-noted
  ask-none from txn step (of_outcomes.will_not_commit h i j) = none-noted

  tick-none : Notes (on_tick here) → ⊥
  unfolding on_tick
  tick-none h =
      let found = Contains-unmap (λ (entry : Entry). refused entry.txn (expired (awaited here entry))) (expired_entries (older_entries here.running.entries)) (committed t replies) h in
      let same : refused found.0.txn (expired (awaited here found.0)) ≡ committed t replies = found.1.1 in
      let wrong : ⊥ = cc in wrong

  -- A yes that is noted as a commit is the last one.
  yes-noted : (from : ℕ) (txn : TxnId) (step : Step) → of_votes.YesCase here from txn step → step ≡ step_on here (receive from (vote_yes txn)) → Notes step
      → IsCommitting here (receive from (vote_yes txn)) t replies
  yes-noted from txn step (of_votes.no_entry h) same noted = absurd (none-noted noted)
  yes-noted from txn step (of_votes.ignored entry h i) same noted = absurd (none-noted noted)
  yes-noted from txn step (of_votes.waits entry h i) same noted = absurd (none-noted noted)
  yes-noted from txn step (of_votes.no_room entry h i j) same noted = absurd (other-noted _ (λ is. let wrong : ⊥ = cc in wrong) noted)
  yes-noted from txn step (of_votes.commits entry h i j) same noted =
      let answers = replies_of (here.records ++ outcome_known entry.txn true ∷ []) (voted entry from) in
      let is : committed entry.txn answers ≡ committed t replies = ⊎_elim (λ one. one) (λ none. absurd (none-noted none)) (Contains-cases (committed entry.txn answers) [] (committed t replies) noted) in
      let own : entry.txn ≡ t = cc in
      let reported : answers ≡ replies = cc in
      record { from = from; asked = txn; is_yes = refl; entry = entry; vote = h; is = own; answers = sym reported; step = sym same }

  message-noted : (from : ℕ) (message : Message) → Notes (on_message here from message) → IsCommitting here (receive from message) t replies
  message-noted from (lock txn wants) noted = absurd (lock-none from txn wants _ (lock-case here from txn wants) noted)
  message-noted from (granted txn grant values) noted = absurd (granted-none from txn grant values _ (granted-case here from txn grant values) noted)
  message-noted from (denied txn item holder) noted = absurd (denied-none from txn item holder _ (denied-case here from txn item holder) noted)
  message-noted from (prepare txn grant writes) noted = absurd (prepare-none from txn grant writes _ (prepare-case here from txn grant writes) noted)
  message-noted from (vote_yes txn) noted = yes-noted from txn _ (yes-case here from txn) refl noted
  message-noted from (vote_no txn cause) noted = absurd (no-none from txn cause _ (no-case here from txn cause) noted)
  message-noted from (outcome_reported txn outcome) noted = absurd (outcome-none from txn outcome _ (outcome-case here from txn outcome) noted)
  message-noted from (ask txn) noted = absurd (ask-none from txn _ (ask-case here from txn) noted)

  -- A commit is noted where the last vote comes.
  pub commit-noted : (input : Input) → Notes (step_on here input) → IsCommitting here input t replies
  commit-noted (submit program) noted = absurd (submit-none program _ (submit-case here program) noted)
  commit-noted (receive from message) noted = message-noted from message noted
  commit-noted tick noted = absurd (tick-none noted)
