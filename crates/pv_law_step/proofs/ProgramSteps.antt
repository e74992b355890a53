-- What a site works on, and what it puts into the order, runs the program of the request that it began by.
use Rattle.std.proofs.Common.{◌≡◌, ℕ, Bool, Some, None, Option, List, [], refl, ◌+◌}
use Rattle.std.specs.Prelude.{All, ⊤, nat_lt}
use Rattle.std.specs.List.{Contains}
use Rattle.std.proofs.lemmas.List.Elements.{All-filter, All-map, All-weaker}
use Rattle.pv_base.proofs.ContainsLemmas.{Contains-first}
use Rattle.pv_base.specs.Want.{Want}
use Rattle.pv_base.specs.declared.grant.GrantId.{GrantId}
use Rattle.pv_base.specs.declared.limits.TheConstants.{TICKS}
use Rattle.pv_base.specs.declared.txn.TxnId.{TxnId}
use Rattle.pv_format.specs.Message.{Message, lock, granted, denied, prepare, vote_yes, vote_no, outcome_reported, ask, NoCause}
use Rattle.pv_law_step.proofs.Kept.{find-of, with-one-all, without-all}
use Rattle.pv_law_step.proofs.Lists.{OfSome, of-some}
use Rattle.pv_law_step.proofs.StepCases.{submit-case, lock-case, granted-case, denied-case, prepare-case, yes-case, no-case, outcome-case, ask-case}
use Rattle.pv_law_step.specs.GrantCases as of_grants
use Rattle.pv_law_step.specs.LockCases as of_locks
use Rattle.pv_law_step.specs.OutcomeCases as of_outcomes
use Rattle.pv_law_step.specs.VoteCases as of_votes
use Rattle.pv_model.specs.Alternatives.{Read}
use Rattle.pv_model.specs.Syntax.{Program}
use Rattle.pv_protocol.specs.Coordinate.{locking_entry, voting_entry}
use Rattle.pv_protocol.specs.Granted.{taking}
use Rattle.pv_protocol.specs.Here.{Here, with_entry, without_entry}
use Rattle.pv_protocol.specs.Lock.{next_txn}
use Rattle.pv_protocol.specs.State.{locking, voting, Entry, Input, submit, receive, tick, began, Placed, Step}
use Rattle.pv_protocol.specs.Step.{on_message, step_on}
use Rattle.pv_protocol.specs.Tick.{older_entries, on_tick}

-- Programs of transactions.
module _ (P : TxnId → Program → Type 0) where
  abbrev pub Works : Entry → Type 0
  Works entry = P entry.txn entry.program

  abbrev pub IsPlaced : Placed → Type 0
  IsPlaced placed = P placed.txn placed.program

  -- It holds of all that the step leaves in memory, and of what it puts into the order.
  pub record IsOwn (step : Step) : Type 0 where
    pub entries : All Works step.running.entries
    pub placed : OfSome IsPlaced step.placed

  -- What begins by the input has its program.
  abbrev pub BeginsOwn : Here → Input → Type 0
  BeginsOwn here (submit program) = (txn : TxnId) → Contains (step_on here (submit program)).notes (began txn) → P txn program
  BeginsOwn here (receive from message) = ⊤
  BeginsOwn here tick = ⊤

  module _ (here : Here) (works : All Works here.running.entries) where
    plain : (step : Step) → All Works step.running.entries → step.placed ≡ None → IsOwn step
    plain step all none = record { entries = all; placed = by step.placed none } where
      by : (placed : Option Placed) → placed ≡ None → OfSome IsPlaced placed
      by None is = tt
      by (Some placed) is = absurd cc

    locking-works : (other : TxnId) (entry : Entry) → locking_entry here.running other ≡ Some entry → Works entry
    locking-works other entry found = of-some Works (locking_entry here.running other) entry (find-of Works _ here.running.entries works) found

    voting-works : (other : TxnId) (entry : Entry) → voting_entry here.running other ≡ Some entry → Works entry
    voting-works other entry found = of-some Works (voting_entry here.running other) entry (find-of Works _ here.running.entries works) found

    with-works : (entry : Entry) → Works entry → All Works (with_entry here.running entry).entries
    with-works entry own = with-one-all Works (λ (e : Entry). e.txn) entry here.running.entries own works

    without-works : (other : TxnId) → All Works (without_entry here.running other).entries
    without-works other = without-all Works (λ (e : Entry). e.txn) other here.running.entries works

    submit-own : (program : Program) (step : Step) → of_locks.SubmitCase here program step → ((txn : TxnId) → Contains step.notes (began txn) → P txn program) → IsOwn step
    submit-own program step (of_locks.no_number_left h) begins = plain _ works refl
    submit-own program step (of_locks.begins h) begins =
        plain _
        (with-one-all Works (λ (e : Entry). e.txn) (record { txn = next_txn here; program = program; stage = locking; age = 0; taken = []; votes = [] }) here.running.entries
        (begins (next_txn here) (Contains-first (began (next_txn here)) [])) works)
        refl

    lock-own : (from : ℕ) (other : TxnId) (wants : List Want) (step : Step) → of_locks.LockCase here from other wants step → IsOwn step
    lock-own from other wants step (of_locks.ignored h) = plain _ works refl
    lock-own from other wants step (of_locks.granted_again grant h i j) = plain _ works refl
    lock-own from other wants step (of_locks.misfits grant h i j) = plain _ works refl
    lock-own from other wants step (of_locks.denies clash h i j) = plain _ works refl
    lock-own from other wants step (of_locks.no_grant_left h i) = plain _ works refl
    lock-own from other wants step (of_locks.grants h i) = plain _ works refl

    granted-own : (from : ℕ) (other : TxnId) (grant : GrantId) (values : List Read) (step : Step) → of_grants.GrantedCase here from other grant values step → IsOwn step
    granted-own from other grant values step (of_grants.no_entry h) = plain _ works refl
    granted-own from other grant values step (of_grants.ignored entry h i) = plain _ works refl
    granted-own from other grant values step (of_grants.waits entry taken i) =
        plain _ (with-works (taking entry from grant values) (locking-works other entry taken.found)) refl
    granted-own from other grant values step (of_grants.too_wide entry last i) = plain _ (without-works _) refl
    granted-own from other grant values step (of_grants.in_doubt entry item last few doubt) = plain _ (without-works _) refl
    granted-own from other grant values step (of_grants.reaches_lock_point entry last few certain) =
        let own = locking-works other entry last.taken.found in
        record { entries = with-works (record (taking entry from grant values) { stage = voting; age = 0 }) own; placed = own }

    denied-own : (from : ℕ) (other : TxnId) (item : ℕ) (holder : TxnId) (step : Step) → of_grants.DeniedCase here from other item holder step → IsOwn step
    denied-own from other item holder step (of_grants.no_entry h) = plain _ works refl
    denied-own from other item holder step (of_grants.ignored entry h i) = plain _ works refl
    denied-own from other item holder step (of_grants.refuses entry found i) = plain _ (without-works _) refl

    prepare-own : (from : ℕ) (other : TxnId) (grant : GrantId) (writes : List Read) (step : Step) → of_votes.PrepareCase here from other grant writes step → IsOwn step
    prepare-own from other grant writes step (of_votes.not_its_site h) = plain _ works refl
    prepare-own from other grant writes step (of_votes.again h i) = plain _ works refl
    prepare-own from other grant writes step (of_votes.none_stands h i) = plain _ works refl
    prepare-own from other grant writes step (of_votes.other_stands standing h i j) = plain _ works refl
    prepare-own from other grant writes step (of_votes.ignored standing h i j) = plain _ works refl
    prepare-own from other grant writes step (of_votes.no_room standing h stands j k) = plain _ works refl
    prepare-own from other grant writes step (of_votes.promises standing h stands j k) = plain _ works refl

    yes-own : (from : ℕ) (other : TxnId) (step : Step) → of_votes.YesCase here from other step → IsOwn step
    yes-own from other step (of_votes.no_entry h) = plain _ works refl
    yes-own from other step (of_votes.ignored entry h i) = plain _ works refl
    yes-own from other step (of_votes.waits entry vote i) = plain _ (with-works (of_votes.voted entry from) (voting-works other entry vote.found)) refl
    yes-own from other step (of_votes.no_room entry vote i j) = plain _ (without-works _) refl
    yes-own from other step (of_votes.commits entry vote i j) = plain _ (without-works _) refl

    no-own : (from : ℕ) (other : TxnId) (cause : NoCause) (step : Step) → of_votes.NoCase here from other cause step → IsOwn step
    no-own from other cause step (of_votes.no_entry h) = plain _ works refl
    no-own from other cause step (of_votes.ignored entry h i) = plain _ works refl
    no-own from other cause step (of_votes.refuses entry vote) = plain _ (without-works _) refl

    outcome-own : (from : ℕ) (other : TxnId) (commits : Bool) (step : Step) → of_outcomes.OutcomeCase here from other commits step → IsOwn step
    outcome-own from other commits step (of_outcomes.not_its_site h) = plain _ works refl
    outcome-own from other commits step (of_outcomes.known_already h) = plain _ works refl
    outcome-own from other commits step (of_outcomes.no_room h i j) = plain _ works refl
    outcome-own from other commits step (of_outcomes.learns h i j) = plain _ works refl
    outcome-own from other commits step (of_outcomes.nothing_to_do h i j) = plain _ works refl
    outcome-own from other commits step (of_outcomes.releases h i j) = plain _ works refl

    ask-own : (from : ℕ) (other : TxnId) (step : Step) → of_outcomes.AskCase here from other step → IsOwn step
    ask-own from other step (of_outcomes.not_issued h) = plain _ works refl
    ask-own from other step (of_outcomes.has_committed h found) = plain _ works refl
    ask-own from other step (of_outcomes.still_works h i j) = plain _ works refl
    ask-own from other step (of_outcomes.will_not_commit h i j) = plain _ works refl

    older-works : All Works (older_entries here.running.entries)
    older-works =
        All-map Works (λ (entry : Entry). record entry { age = entry.age + 1 }) here.running.entries
        (All-weaker Works (λ (entry : Entry). Works (record entry { age = entry.age + 1 })) (λ entry own. own) here.running.entries works)

    tick-own : IsOwn (on_tick here)
    unfolding on_tick
    tick-own = plain _ (All-filter (λ (entry : Entry). nat_lt entry.age TICKS) Works (older_entries here.running.entries) older-works) refl

    message-own : (from : ℕ) (message : Message) → IsOwn (on_message here from message)
    message-own from (lock other wants) = lock-own from other wants _ (lock-case here from other wants)
    message-own from (granted other grant values) = granted-own from other grant values _ (granted-case here from other grant values)
    message-own from (denied other item holder) = denied-own from other item holder _ (denied-case here from other item holder)
    message-own from (prepare other grant writes) = prepare-own from other grant writes _ (prepare-case here from other grant writes)
    message-own from (vote_yes other) = yes-own from other _ (yes-case here from other)
    message-own from (vote_no other cause) = no-own from other cause _ (no-case here from other cause)
    message-own from (outcome_reported other commits) = outcome-own from other commits _ (outcome-case here from other commits)
    message-own from (ask other) = ask-own from other _ (ask-case here from other)

    pub step-own : (input : Input) → BeginsOwn here input → IsOwn (step_on here input)
    step-own (submit program) begins = submit-own program _ (submit-case here program) begins
    step-own (receive from message) begins = message-own from message
    step-own tick begins = tick-own
