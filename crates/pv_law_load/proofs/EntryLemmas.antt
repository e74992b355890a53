-- A step adds one entry to those of the coordinator at most.
use Rattle.std.proofs.lemmas.List.{length-map}
use Rattle.std.proofs.Common.{◌≡◌, ℕ, suc, ◌+◌, ◌≤◌, Bool, List, [], ◌∷◌, length, filter, not, arith}
use Rattle.std.specs.Prelude.{nat_lt}
use Rattle.pv_base.specs.Assignment.{is_same_txn, precedes}
use Rattle.pv_base.specs.declared.grant.GrantId.{GrantId}
use Rattle.pv_base.specs.declared.limits.TheConstants.{TICKS}
use Rattle.pv_base.specs.declared.txn.TxnId.{TxnId}
use Rattle.pv_base.specs.Want.{Want}
use Rattle.pv_format.specs.Message.{Message, lock, granted, denied, prepare, vote_yes, vote_no, outcome_reported, ask, NoCause}
use Rattle.pv_law_step.proofs.StepCases.{if_case, submit-case, lock-case, granted-case, denied-case, prepare-case, yes-case, no-case, outcome-case, ask-case}
use Rattle.pv_law_step.specs.GrantCases as of_grants
use Rattle.pv_law_step.specs.LockCases as of_locks
use Rattle.pv_law_step.specs.OutcomeCases as of_outcomes
use Rattle.pv_law_step.specs.VoteCases as of_votes
use Rattle.pv_model.specs.Alternatives.{Read}
use Rattle.pv_model.specs.Syntax.{Program}
use Rattle.pv_protocol.specs.Here.{Here}
use Rattle.pv_protocol.specs.Keyed.{with_one, without}
use Rattle.pv_protocol.specs.State.{Entry, Input, submit, receive, tick, Step}
use Rattle.pv_protocol.specs.Step.{on_message, step_on}
use Rattle.pv_protocol.specs.Tick.{on_tick, lasting_entries, older_entries}

with-one-few : (entry : Entry) (entries : List Entry) → length (with_one (λ (other : Entry). other.txn) entry entries) ≤ length entries + 1
with-one-few entry [] = omega arith
with-one-few entry (first ∷ rest) =
    if_case (λ (all : List Entry). length all ≤ suc (length rest) + 1) (is_same_txn entry.txn first.txn) (λ same. omega arith)
    (λ other. if_case (λ (all : List Entry). length all ≤ suc (length rest) + 1) (precedes entry.txn first.txn) (λ before. omega arith)
    (λ behind. let more = with-one-few entry rest in omega arith))

filter-few : (test : Entry → Bool) (entries : List Entry) → length (filter test entries) ≤ length entries
filter-few test [] = omega arith
filter-few test (first ∷ rest) =
    let more = filter-few test rest in
    if_case (λ (all : List Entry). length all ≤ suc (length rest)) (test first) (λ kept. omega arith) (λ left. omega arith)

module _ (here : Here) where
  abbrev AddsFew : Step → Type 0
  AddsFew step = length step.running.entries ≤ length here.running.entries + 1

  entered : (entry : Entry) → length (with_one (λ (other : Entry). other.txn) entry here.running.entries) ≤ length here.running.entries + 1
  entered entry = with-one-few entry here.running.entries

  left : (txn : TxnId) → length (without (λ (entry : Entry). entry.txn) txn here.running.entries) ≤ length here.running.entries + 1
  left txn = let fewer = filter-few (λ entry. not (is_same_txn txn entry.txn)) here.running.entries in omega arith

  submit-few : (program : Program) (step : Step) → of_locks.SubmitCase here program step → AddsFew step
  submit-few program step (of_locks.no_number_left h) = omega arith
  submit-few program step (of_locks.begins h) = entered _

  lock-few : (from : ℕ) (txn : TxnId) (wants : List Want) (step : Step) → of_locks.LockCase here from txn wants step → AddsFew step
  lock-few from txn wants step (of_locks.ignored h) = omega arith
  lock-few from txn wants step (of_locks.granted_again grant h is i) = omega arith
  lock-few from txn wants step (of_locks.misfits grant h is i) = omega arith
  lock-few from txn wants step (of_locks.denies conflict h none is) = omega arith
  lock-few from txn wants step (of_locks.no_grant_left free h) = omega arith
  lock-few from txn wants step (of_locks.grants free h) = omega arith

  granted-few : (from : ℕ) (txn : TxnId) (grant : GrantId) (values : List Read) (step : Step) → of_grants.GrantedCase here from txn grant values step → AddsFew step
  granted-few from txn grant values step (of_grants.no_entry h) = omega arith
  granted-few from txn grant values step (of_grants.ignored entry h i) = omega arith
  granted-few from txn grant values step (of_grants.waits entry taken i) = entered _
  granted-few from txn grant values step (of_grants.too_wide entry last i) = left entry.txn
  granted-few from txn grant values step (of_grants.in_doubt entry least last i doubt) = left entry.txn
  granted-few from txn grant values step (of_grants.reaches_lock_point entry last i certain) = entered _

  denied-few : (from : ℕ) (txn : TxnId) (item : ℕ) (holder : TxnId) (step : Step) → of_grants.DeniedCase here from txn item holder step → AddsFew step
  denied-few from txn item holder step (of_grants.no_entry h) = omega arith
  denied-few from txn item holder step (of_grants.ignored entry h i) = omega arith
  denied-few from txn item holder step (of_grants.refuses entry h i) = left entry.txn

  prepare-few : (from : ℕ) (txn : TxnId) (grant : GrantId) (writes : List Read) (step : Step) → of_votes.PrepareCase here from txn grant writes step → AddsFew step
  prepare-few from txn grant writes step (of_votes.not_its_site h) = omega arith
  prepare-few from txn grant writes step (of_votes.again h i) = omega arith
  prepare-few from txn grant writes step (of_votes.none_stands asked h) = omega arith
  prepare-few from txn grant writes step (of_votes.other_stands standing asked h i) = omega arith
  prepare-few from txn grant writes step (of_votes.ignored standing asked h i) = omega arith
  prepare-few from txn grant writes step (of_votes.no_room standing asked h i j) = omega arith
  prepare-few from txn grant writes step (of_votes.promises standing asked h i j) = omega arith

  yes-few : (from : ℕ) (txn : TxnId) (step : Step) → of_votes.YesCase here from txn step → AddsFew step
  yes-few from txn step (of_votes.no_entry h) = omega arith
  yes-few from txn step (of_votes.ignored entry h i) = omega arith
  yes-few from txn step (of_votes.waits entry vote i) = entered _
  yes-few from txn step (of_votes.no_room entry vote i j) = left entry.txn
  yes-few from txn step (of_votes.commits entry vote i j) = left entry.txn

  no-few : (from : ℕ) (txn : TxnId) (cause : NoCause) (step : Step) → of_votes.NoCase here from txn cause step → AddsFew step
  no-few from txn cause step (of_votes.no_entry h) = omega arith
  no-few from txn cause step (of_votes.ignored entry h i) = omega arith
  no-few from txn cause step (of_votes.refuses entry vote) = left entry.txn

  outcome-few : (from : ℕ) (txn : TxnId) (commits : Bool) (step : Step) → of_outcomes.OutcomeCase here from txn commits step → AddsFew step
  outcome-few from txn commits step (of_outcomes.not_its_site h) = omega arith
  outcome-few from txn commits step (of_outcomes.known_already h) = omega arith
  outcome-few from txn commits step (of_outcomes.no_room news h i) = omega arith
  outcome-few from txn commits step (of_outcomes.learns news h i) = omega arith
  outcome-few from txn commits step (of_outcomes.nothing_to_do news h i) = omega arith
  outcome-few from txn commits step (of_outcomes.releases news h i) = omega arith

  ask-few : (from : ℕ) (txn : TxnId) (step : Step) → of_outcomes.AskCase here from txn step → AddsFew step
  ask-few from txn step (of_outcomes.not_issued h) = omega arith
  ask-few from txn step (of_outcomes.has_committed h i) = omega arith
  ask-few from txn step (of_outcomes.still_works h i j) = omega arith
  ask-few from txn step (of_outcomes.will_not_commit h i j) = omega arith

  message-few : (from : ℕ) (message : Message) → AddsFew (on_message here from message)
  message-few from (lock txn wants) = lock-few from txn wants _ (lock-case here from txn wants)
  message-few from (granted txn grant values) = granted-few from txn grant values _ (granted-case here from txn grant values)
  message-few from (denied txn item holder) = denied-few from txn item holder _ (denied-case here from txn item holder)
  message-few from (prepare txn grant writes) = prepare-few from txn grant writes _ (prepare-case here from txn grant writes)
  message-few from (vote_yes txn) = yes-few from txn _ (yes-case here from txn)
  message-few from (vote_no txn cause) = no-few from txn cause _ (no-case here from txn cause)
  message-few from (outcome_reported txn commits) = outcome-few from txn commits _ (outcome-case here from txn commits)
  message-few from (ask txn) = ask-few from txn _ (ask-case here from txn)

  tick-few : AddsFew (on_tick here)
  unfolding on_tick
  tick-few =
      let entries = here.running.entries in
      let fewer : length (lasting_entries (older_entries entries)) ≤ length (older_entries entries) = filter-few (λ entry. nat_lt entry.age TICKS) (older_entries entries) in
      let same : length (older_entries entries) ≡ length entries = length-map entries (λ (entry : Entry). record entry { age = entry.age + 1 }) in
      omega arith

  pub entries-grow : (input : Input) → AddsFew (step_on here input)
  entries-grow (submit program) = submit-few program _ (submit-case here program)
  entries-grow (receive from message) = message-few from message
  entries-grow tick = tick-few
