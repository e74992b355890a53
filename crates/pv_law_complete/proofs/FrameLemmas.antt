-- By the cases of a step: what it changes and sends is of the transaction that its input is about.
use Rattle.std.proofs.Common.{◌≡◌, ⊎_elim, ℕ, Bool, true, false, Some, None, Option, List, [], ◌∷◌, ◌++◌, refl, sym, ap, subst, ◌∙◌}
use Rattle.std.specs.Prelude.{not, ◌&&◌, ◌||◌, option_to_list, if◌then◌else◌}
use Rattle.std.specs.List.{Contains}
use Rattle.std.proofs.lemmas.Bool.{and_parts}
use Rattle.std.proofs.lemmas.List.{append-nil}
use Rattle.std.proofs.lemmas.List.Elements.{All-contains}
use Rattle.pv_base.proofs.AssignmentLemmas.{same-eq, different}
use Rattle.pv_base.proofs.ContainsLemmas.{Contains-nil, Contains-cases}
use Rattle.pv_base.proofs.MapLemmas.{Contains-unmap}
use Rattle.pv_base.specs.Assignment.{is_same_txn}
use Rattle.pv_base.specs.Want.{Want}
use Rattle.pv_base.specs.declared.grant.GrantId.{GrantId}
use Rattle.pv_base.specs.declared.txn.TxnId.{TxnId}
use Rattle.pv_format.specs.Message.{Message, lock, granted, denied, prepare, vote_yes, vote_no, outcome_reported, ask, NoCause, txn_of}
use Rattle.pv_format.specs.Record.{Record, epoch_begun, prepared, outcome_known}
use Rattle.pv_law_acts.specs.Acts.{voting_of}
use Rattle.pv_law_complete.specs.Frames.{IsOther, Frames}
use Rattle.pv_law_step.proofs.Appended.{found-passes, grant-txn}
use Rattle.pv_law_step.proofs.Kept.{filter-map-all}
use Rattle.pv_law_step.proofs.KeyedLemmas.{of-with, of-without}
use Rattle.pv_law_step.proofs.Lists.{OfSome}
use Rattle.pv_law_step.proofs.StepCases.{submit-case, lock-case, granted-case, denied-case, prepare-case, yes-case, no-case, outcome-case, ask-case}
use Rattle.pv_law_step.specs.GrantCases as of_grants
use Rattle.pv_law_step.specs.LockCases as of_locks
use Rattle.pv_law_step.specs.OutcomeCases as of_outcomes
use Rattle.pv_law_step.specs.VoteCases as of_votes
use Rattle.pv_law_step.specs.VoteCases.{voted}
use Rattle.pv_model.specs.Alternatives.{Read}
use Rattle.pv_model.specs.Check.{Part}
use Rattle.pv_model.specs.Plan.{plan_of}
use Rattle.pv_model.specs.Syntax.{Program}
use Rattle.pv_protocol.specs.Coordinate.{is_locking, locking_entry, voting_entry}
use Rattle.pv_protocol.specs.Granted.{taking, prepare_under, prepare_sends, taken_from}
use Rattle.pv_protocol.specs.Here.{Here, only_to, outcome_sends, participants, grant_of, with_entry, without_entry}
use Rattle.pv_protocol.specs.Keyed.{of_txn, with_one, without}
use Rattle.pv_protocol.specs.Lock.{next_txn, lock_sends}
use Rattle.pv_protocol.specs.Records.{is_prepared}
use Rattle.pv_protocol.specs.State.{Grant, Taken, Entry, Running, Input, submit, receive, tick, Outgoing, Step}
use Rattle.pv_protocol.specs.Step.{on_message, step_on}
use Rattle.pv_protocol.specs.Vote.{others_than}

module _ (txn : TxnId) where
  -- What is put in or taken out of another transaction changes nothing of this one.
  module _ {X : Type 0} (key : X → TxnId) where
    put-other : (x : X) (xs : List X) → (key x ≡ txn → ⊥) → of_txn key txn (with_one key x xs) ≡ of_txn key txn xs
    put-other x xs apart =
        of-with key txn x xs ∙ ap (λ (b : Bool). if b then Some x else of_txn key txn xs) (different {t = txn} {u = key x} (λ same. apart (sym same)))

    left-other : (other : TxnId) (xs : List X) → (other ≡ txn → ⊥) → of_txn key txn (without key other xs) ≡ of_txn key txn xs
    left-other other xs apart =
        of-without key txn other xs ∙ ap (λ (b : Bool). if b then None else of_txn key txn xs) (different {t = txn} {u = other} (λ same. apart (sym same)))

  -- A record of another transaction's promise, or of an outcome, prepares nothing.
  unprepared-more : (records : List Record) (more : Record) → is_prepared (more ∷ []) txn ≡ false → is_prepared (records ++ more ∷ []) txn ≡ is_prepared records txn
  unprepared-more [] more none = none
  unprepared-more (epoch_begun epoch ∷ records) more none = unprepared-more records more none
  unprepared-more (outcome_known decided commits ∷ records) more none = unprepared-more records more none
  unprepared-more (prepared promised writes ∷ records) more none = ap (λ (b : Bool). is_same_txn txn promised || b) (unprepared-more records more none)

  other-promise : (other : TxnId) (writes : List Read) → (other ≡ txn → ⊥) → is_prepared (prepared other writes ∷ []) txn ≡ false
  other-promise other writes apart = ap (λ (b : Bool). b || false) (different {t = txn} {u = other} (λ same. apart (sym same)))

  -- Nothing is sent of the transaction.
  abbrev Silent : List Outgoing → Type 0
  Silent sends = (sent : Outgoing) → Contains sends sent → txn_of sent.message ≡ txn → ⊥

  none-sent : Silent []
  none-sent sent h same = Contains-nil sent h

  one-sent : (to : ℕ) (message : Message) → (txn_of message ≡ txn → ⊥) → Silent (only_to to message)
  one-sent to message apart sent h same =
      ⊎_elim (λ is. apart (ap (λ (o : Outgoing). txn_of o.message) is ∙ same)) (λ wrong. Contains-nil sent wrong) (Contains-cases (record { to = to; message = message }) [] sent h)

  outcomes-sent : (other : TxnId) (commits : Bool) (sites : List ℕ) → (other ≡ txn → ⊥) → Silent (outcome_sends other commits sites)
  outcomes-sent other commits sites apart sent h same =
      let which = Contains-unmap (λ site. record { to = site; message = outcome_reported other commits }) sites sent h in
      apart (ap (λ (o : Outgoing). txn_of o.message) which.1.1 ∙ same)

  locks-sent : (other : TxnId) (parts : List Part) → (other ≡ txn → ⊥) → Silent (lock_sends other parts)
  locks-sent other parts apart sent h same =
      let which = Contains-unmap (λ (part : Part). record { to = part.site; message = lock other part.wants }) parts sent h in
      apart (ap (λ (o : Outgoing). txn_of o.message) which.1.1 ∙ same)

  votes-sent : (here : Here) (entry : Entry) → (entry.txn ≡ txn → ⊥) → Silent (prepare_sends here entry)
  votes-sent here entry apart sent h =
      All-contains (λ (o : Outgoing). txn_of o.message ≡ txn → ⊥) (prepare_sends here entry) sent
      (filter-map-all (λ (o : Outgoing). txn_of o.message ≡ txn → ⊥) (λ site. prepare_under here entry (taken_from entry site)) (participants here entry)
      (λ site listed. by (taken_from entry site))) h where
        by : (taken : Option Taken) → OfSome (λ (o : Outgoing). txn_of o.message ≡ txn → ⊥) (prepare_under here entry taken)
        by None = tt
        by (Some taken) = apart

  module _ (here : Here) where
    -- nothing changes but for what is sent
    sends-alone : (sends : List Outgoing) → Silent sends → (step : Step) → step.running ≡ here.running → step.appended ≡ None → step.sends ≡ sends → Frames here txn step
    sends-alone sends silent step running none sent = record {
      grant = ap (λ (r : Running). grant_of r txn) running;
      entry = ap (λ (r : Running). of_txn (λ (e : Entry). e.txn) txn r.entries) running;
      prepared = ap (λ (o : Option Record). is_prepared (here.records ++ option_to_list o) txn) none ∙ ap (λ (rs : List Record). is_prepared rs txn) (append-nil here.records);
      silent = subst Silent (sym sent) silent;
    }

    idle : (step : Step) → step.running ≡ here.running → step.appended ≡ None → step.sends ≡ [] → Frames here txn step
    idle step = sends-alone [] none-sent step

    still : is_prepared (here.records ++ []) txn ≡ is_prepared here.records txn
    still = ap (λ (rs : List Record). is_prepared rs txn) (append-nil here.records)

    locking-own : (other : TxnId) (entry : Entry) → locking_entry here.running other ≡ Some entry → other ≡ entry.txn
    locking-own other entry found =
        same-eq {t = other} {u = entry.txn}
        (and_parts (is_same_txn other entry.txn) (is_locking entry.stage) (found-passes (λ (e : Entry). is_same_txn other e.txn && is_locking e.stage) here.running.entries entry found)).0

    voting-own : (other : TxnId) (entry : Entry) → voting_entry here.running other ≡ Some entry → other ≡ entry.txn
    voting-own other entry found =
        same-eq {t = other} {u = entry.txn}
        (and_parts (is_same_txn other entry.txn) (not (is_locking entry.stage)) (found-passes (λ (e : Entry). is_same_txn other e.txn && not (is_locking e.stage)) here.running.entries entry found)).0

    -- an entry is put in, or taken out with a refusal
    entry-put : (entry : Entry) (sends : List Outgoing) → (entry.txn ≡ txn → ⊥) → Silent sends → (step : Step) → step.running ≡ with_entry here.running entry → step.appended ≡ None → step.sends ≡ sends
        → Frames here txn step
    entry-put entry sends apart silent step running none sent = record {
      grant = ap (λ (r : Running). grant_of r txn) running;
      entry = ap (λ (r : Running). of_txn (λ (e : Entry). e.txn) txn r.entries) running ∙ put-other (λ (e : Entry). e.txn) entry here.running.entries apart;
      prepared = ap (λ (o : Option Record). is_prepared (here.records ++ option_to_list o) txn) none ∙ still;
      silent = subst Silent (sym sent) silent;
    }

    entry-left : (other : TxnId) (sends : List Outgoing) → (other ≡ txn → ⊥) → Silent sends → (step : Step) → step.running ≡ without_entry here.running other → step.appended ≡ None → step.sends ≡ sends
        → Frames here txn step
    entry-left other sends apart silent step running none sent = record {
      grant = ap (λ (r : Running). grant_of r txn) running;
      entry = ap (λ (r : Running). of_txn (λ (e : Entry). e.txn) txn r.entries) running ∙ left-other (λ (e : Entry). e.txn) other here.running.entries apart;
      prepared = ap (λ (o : Option Record). is_prepared (here.records ++ option_to_list o) txn) none ∙ still;
      silent = subst Silent (sym sent) silent;
    }

    submit-frame : (program : Program) → (next_txn here ≡ txn → ⊥) → (step : Step) → of_locks.SubmitCase here program step → Frames here txn step
    submit-frame program apart step (of_locks.no_number_left h) = idle step refl refl refl
    submit-frame program apart step (of_locks.begins h) = record {
      grant = refl;
      entry = put-other (λ (e : Entry). e.txn) _ here.running.entries apart;
      prepared = still;
      silent = locks-sent (next_txn here) (plan_of program here.setup.catalog.items) apart;
    }

    module _ (from : ℕ) (other : TxnId) (apart : other ≡ txn → ⊥) where
      -- of what is the other's
      apart-from : (u : TxnId) → other ≡ u → u ≡ txn → ⊥
      apart-from u same is = apart (same ∙ is)

      lock-frame : (wants : List Want) (step : Step) → of_locks.LockCase here from other wants step → Frames here txn step
      lock-frame wants step (of_locks.ignored h) = idle step refl refl refl
      lock-frame wants step (of_locks.granted_again grant h found i) =
          sends-alone _ (one-sent grant.txn.site.0 _ (apart-from grant.txn (grant-txn here.running other grant found))) step refl refl refl
      lock-frame wants step (of_locks.misfits grant h i j) = idle step refl refl refl
      lock-frame wants step (of_locks.denies clash h i j) = sends-alone _ (one-sent other.site.0 (denied other clash.item clash.holder) apart) step refl refl refl
      lock-frame wants step (of_locks.no_grant_left h i) = idle step refl refl refl
      lock-frame wants step (of_locks.grants h i) = record {
        grant = put-other (λ (g : Grant). g.txn) _ here.running.grants apart;
        entry = refl;
        prepared = still;
        silent = one-sent other.site.0 _ apart;
      }

      granted-frame : (grant : GrantId) (values : List Read) (step : Step) → of_grants.GrantedCase here from other grant values step → Frames here txn step
      granted-frame grant values step (of_grants.no_entry h) = idle step refl refl refl
      granted-frame grant values step (of_grants.ignored entry h i) = idle step refl refl refl
      granted-frame grant values step (of_grants.waits entry taken h) =
          entry-put (taking entry from grant values) [] (apart-from entry.txn (locking-own other entry taken.found)) none-sent step refl refl refl
      granted-frame grant values step (of_grants.too_wide entry last h) =
          let own = apart-from entry.txn (locking-own other entry last.taken.found) in
          entry-left entry.txn (outcome_sends entry.txn false (participants here entry)) own (outcomes-sent entry.txn false (participants here entry) own) step refl refl refl
      granted-frame grant values step (of_grants.in_doubt entry least last h doubt) =
          let own = apart-from entry.txn (locking-own other entry last.taken.found) in
          entry-left entry.txn (outcome_sends entry.txn false (participants here entry)) own (outcomes-sent entry.txn false (participants here entry) own) step refl refl refl
      granted-frame grant values step (of_grants.reaches_lock_point entry last h certain) =
          let own = apart-from entry.txn (locking-own other entry last.taken.found) in
          entry-put (voting_of (taking entry from grant values)) (prepare_sends here (taking entry from grant values)) own
          (votes-sent here (taking entry from grant values) own) step refl refl refl

      denied-frame : (item : ℕ) (holder : TxnId) (step : Step) → of_grants.DeniedCase here from other item holder step → Frames here txn step
      denied-frame item holder step (of_grants.no_entry h) = idle step refl refl refl
      denied-frame item holder step (of_grants.ignored entry h i) = idle step refl refl refl
      denied-frame item holder step (of_grants.refuses entry found h) =
          let own = apart-from entry.txn (locking-own other entry found) in
          entry-left entry.txn (outcome_sends entry.txn false (participants here entry)) own (outcomes-sent entry.txn false (participants here entry) own) step refl refl refl

      prepare-frame : (grant : GrantId) (writes : List Read) (step : Step) → of_votes.PrepareCase here from other grant writes step → Frames here txn step
      prepare-frame grant writes step (of_votes.not_its_site h) = idle step refl refl refl
      prepare-frame grant writes step (of_votes.again h i) = sends-alone _ (one-sent other.site.0 (vote_yes other) apart) step refl refl refl
      prepare-frame grant writes step (of_votes.none_stands h i) = sends-alone _ (one-sent other.site.0 _ apart) step refl refl refl
      prepare-frame grant writes step (of_votes.other_stands standing h i j) = sends-alone _ (one-sent other.site.0 _ apart) step refl refl refl
      prepare-frame grant writes step (of_votes.ignored standing h i j) = idle step refl refl refl
      prepare-frame grant writes step (of_votes.no_room standing h stands right room) =
          sends-alone _ (one-sent standing.txn.site.0 _ (apart-from standing.txn (grant-txn here.running other standing stands.found))) step refl refl refl
      prepare-frame grant writes step (of_votes.promises standing h stands right room) =
          let own = apart-from standing.txn (grant-txn here.running other standing stands.found) in
          record {
            grant = put-other (λ (g : Grant). g.txn) (record standing { age = 0 }) here.running.grants own;
            entry = refl;
            prepared = unprepared-more here.records (prepared standing.txn writes) (other-promise standing.txn writes own);
            silent = one-sent standing.txn.site.0 (vote_yes standing.txn) own;
          }

      yes-frame : (step : Step) → of_votes.YesCase here from other step → Frames here txn step
      yes-frame step (of_votes.no_entry h) = idle step refl refl refl
      yes-frame step (of_votes.ignored entry h i) = idle step refl refl refl
      yes-frame step (of_votes.waits entry vote h) =
          entry-put (voted entry from) [] (apart-from entry.txn (voting-own other entry vote.found)) none-sent step refl refl refl
      yes-frame step (of_votes.no_room entry vote whole h) =
          let own = apart-from entry.txn (voting-own other entry vote.found) in
          entry-left entry.txn (outcome_sends entry.txn false (participants here entry)) own (outcomes-sent entry.txn false (participants here entry) own) step refl refl refl
      yes-frame step (of_votes.commits entry vote whole h) =
          let own = apart-from entry.txn (voting-own other entry vote.found) in
          record {
            grant = left-other (λ (g : Grant). g.txn) entry.txn here.running.grants own;
            entry = left-other (λ (e : Entry). e.txn) entry.txn here.running.entries own;
            prepared = unprepared-more here.records (outcome_known entry.txn true) refl;
            silent = outcomes-sent entry.txn true (others_than here.me (participants here entry)) own;
          }

      no-frame : (cause : NoCause) (step : Step) → of_votes.NoCase here from other cause step → Frames here txn step
      no-frame cause step (of_votes.no_entry h) = idle step refl refl refl
      no-frame cause step (of_votes.ignored entry h i) = idle step refl refl refl
      no-frame cause step (of_votes.refuses entry vote) =
          let own = apart-from entry.txn (voting-own other entry vote.found) in
          entry-left entry.txn (outcome_sends entry.txn false (participants here entry)) own (outcomes-sent entry.txn false (participants here entry) own) step refl refl refl

      outcome-frame : (commits : Bool) (step : Step) → of_outcomes.OutcomeCase here from other commits step → Frames here txn step
      outcome-frame commits step (of_outcomes.not_its_site h) = idle step refl refl refl
      outcome-frame commits step (of_outcomes.known_already h) = idle step refl refl refl
      outcome-frame commits step (of_outcomes.no_room h i j) = idle step refl refl refl
      outcome-frame commits step (of_outcomes.learns h i j) = record {
        grant = left-other (λ (g : Grant). g.txn) other here.running.grants apart;
        entry = refl;
        prepared = unprepared-more here.records (outcome_known other commits) refl;
        silent = none-sent;
      }
      outcome-frame commits step (of_outcomes.nothing_to_do h i j) = idle step refl refl refl
      outcome-frame commits step (of_outcomes.releases h i j) = record {
        grant = left-other (λ (g : Grant). g.txn) other here.running.grants apart;
        entry = refl;
        prepared = still;
        silent = none-sent;
      }

      ask-frame : (step : Step) → of_outcomes.AskCase here from other step → Frames here txn step
      ask-frame step (of_outcomes.not_issued h) = idle step refl refl refl
      ask-frame step (of_outcomes.has_committed h i) = sends-alone _ (one-sent from (outcome_reported other true) apart) step refl refl refl
      ask-frame step (of_outcomes.still_works h i j) = idle step refl refl refl
      ask-frame step (of_outcomes.will_not_commit h i j) = sends-alone _ (one-sent from (outcome_reported other false) apart) step refl refl refl

    message-frame : (from : ℕ) (message : Message) → (txn_of message ≡ txn → ⊥) → Frames here txn (on_message here from message)
    message-frame from (lock other wants) apart = lock-frame from other apart wants _ (lock-case here from other wants)
    message-frame from (granted other grant values) apart = granted-frame from other apart grant values _ (granted-case here from other grant values)
    message-frame from (denied other item holder) apart = denied-frame from other apart item holder _ (denied-case here from other item holder)
    message-frame from (prepare other grant writes) apart = prepare-frame from other apart grant writes _ (prepare-case here from other grant writes)
    message-frame from (vote_yes other) apart = yes-frame from other apart _ (yes-case here from other)
    message-frame from (vote_no other cause) apart = no-frame from other apart cause _ (no-case here from other cause)
    message-frame from (outcome_reported other commits) apart = outcome-frame from other apart commits _ (outcome-case here from other commits)
    message-frame from (ask other) apart = ask-frame from other apart _ (ask-case here from other)

    pub step-frame : (input : Input) → IsOther here txn input → Frames here txn (step_on here input)
    step-frame (submit program) apart = submit-frame program apart _ (submit-case here program)
    step-frame (receive from message) apart = message-frame from message apart
    step-frame tick apart = absurd apart

-- in the order of the claim
pub steps-frame : (here : Here) (input : Input) (txn : TxnId) → IsOther here txn input → Frames here txn (step_on here input)
steps-frame here input txn apart = step-frame txn here input apart
