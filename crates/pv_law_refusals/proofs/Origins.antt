-- Which steps deny locks and vote no, and what they come of.
use Rattle.std.proofs.Common.{◌≡◌, ⊎_elim, ℕ, Bool, true, false, Some, None, Option, List, [], refl, sym, ap, subst, ◌∙◌}
use Rattle.std.specs.Prelude.{⊤}
use Rattle.std.specs.List.{Contains, list_any}
use Rattle.std.proofs.lemmas.Bool.{and_parts, false≢true, false_from_ne_true}
use Rattle.std.proofs.lemmas.List.Elements.{All-contains, Contains-append_cases}
use Rattle.pv_base.proofs.AssignmentLemmas.{same-eq, same-from-eq}
use Rattle.pv_base.proofs.Basics.{Some_inj}
use Rattle.pv_base.proofs.ContainsLemmas.{Contains-nil, Contains-cases}
use Rattle.pv_base.proofs.MapLemmas.{Contains-unmap}
use Rattle.pv_base.specs.Assignment.{is_same_txn}
use Rattle.pv_base.specs.Want.{Want}
use Rattle.pv_base.specs.declared.grant.GrantId.{GrantId}
use Rattle.pv_base.specs.declared.txn.TxnId.{TxnId}
use Rattle.pv_format.specs.Message.{Message, lock, granted, denied, prepare, vote_yes, vote_no, outcome_reported, ask, NoCause, grant_lost, journal_full}
use Rattle.pv_format.specs.Record.{prepared}
use Rattle.pv_law_acts.proofs.ListLemmas.{any-listed, none-found}
use Rattle.pv_law_events.proofs.FoundLemmas.{listed-found}
use Rattle.pv_law_outcomes.proofs.OpenLemmas.{same-grant, grant-same}
use Rattle.pv_law_step.proofs.Appended.{grant-txn}
use Rattle.pv_law_step.proofs.Kept.{filter-map-all}
use Rattle.pv_law_step.proofs.Lists.{OfSome, all-flat, all-from}
use Rattle.pv_law_step.proofs.StepCases.{submit-case, lock-case, granted-case, denied-case, prepare-case, yes-case, no-case, outcome-case, ask-case}
use Rattle.pv_law_step.specs.GrantCases as of_grants
use Rattle.pv_law_step.specs.LockCases as of_locks
use Rattle.pv_law_step.specs.OutcomeCases as of_outcomes
use Rattle.pv_law_step.specs.VoteCases as of_votes
use Rattle.pv_model.specs.Alternatives.{Read}
use Rattle.pv_model.specs.Check.{Part}
use Rattle.pv_model.specs.Plan.{plan_of}
use Rattle.pv_model.specs.Syntax.{Program}
use Rattle.pv_protocol.specs.Committed.{is_grant}
use Rattle.pv_protocol.specs.Granted.{taking, prepare_under, prepare_sends, taken_from}
use Rattle.pv_protocol.specs.Here.{Here, only_to, outcome_sends, participants, grant_of, length_with, is_full}
use Rattle.pv_protocol.specs.Keyed.{of_txn}
use Rattle.pv_protocol.specs.Lock.{Conflict, first_conflict, lock_sends}
use Rattle.pv_protocol.specs.Outcome.{named_here}
use Rattle.pv_protocol.specs.Records.{is_prepared}
use Rattle.pv_protocol.specs.Sound.{IsInOrder}
use Rattle.pv_protocol.specs.State.{Grant, Taken, Entry, Input, submit, receive, tick, Outgoing, Step}
use Rattle.pv_protocol.specs.Step.{on_message, step_on}
use Rattle.pv_protocol.specs.Tick.{on_tick, older, older_entries, expired_entries, expiry_sends, ask_sends, ungranted}
use Rattle.pv_protocol.specs.Vote.{is_same_grant, others_than}

-- The site was asked for locks, and this is the first conflict.
pub record IsDenial (here : Here) (input : Input) (txn : TxnId) (item : ℕ) (holder : TxnId) : Type 0 where
  pub from : ℕ
  pub wants : List Want
  pub is : input ≡ receive from (lock txn wants)
  pub clash : Conflict
  pub found : first_conflict here.running.grants wants ≡ Some clash
  pub item_is : clash.item ≡ item
  pub holder_is : clash.holder ≡ holder

-- why the site doesn't vote yes
abbrev pub HasReason : Here → TxnId → GrantId → List Read → NoCause → Type 0
HasReason here txn grant writes grant_lost = list_any (is_grant txn grant) here.running.grants ≡ false
HasReason here txn grant writes (journal_full bytes) = (bytes ≡ length_with here (prepared txn writes)) × (is_full here (prepared txn writes) ≡ true)

-- The site was asked for its vote, isn't prepared, and votes no.
pub record IsNo (here : Here) (input : Input) (txn : TxnId) (cause : NoCause) : Type 0 where
  pub from : ℕ
  pub grant : GrantId
  pub writes : List Read
  pub is : input ≡ receive from (prepare txn grant writes)
  pub unprepared : is_prepared here.records txn ≡ false
  pub reason : HasReason here txn grant writes cause

module _ (here : Here) (order : IsInOrder here.running) (input : Input) where
  -- what a message comes of that the step sends
  abbrev pub Origin : Message → Type 0
  Origin (denied txn item holder) = IsDenial here input txn item holder
  Origin (vote_no txn cause) = IsNo here input txn cause
  Origin (lock txn wants) = ⊤
  Origin (granted txn grant values) = ⊤
  Origin (prepare txn grant writes) = ⊤
  Origin (vote_yes txn) = ⊤
  Origin (outcome_reported txn commits) = ⊤
  Origin (ask txn) = ⊤

  abbrev Origins : List Outgoing → Type 0
  Origins sends = (sent : Outgoing) → Contains sends sent → Origin sent.message

  no-origins : Origins []
  no-origins sent h = absurd (Contains-nil sent h)

  one-origin : (to : ℕ) (message : Message) → Origin message → Origins (only_to to message)
  one-origin to message is sent h =
      ⊎_elim (λ same. subst (λ (o : Outgoing). Origin o.message) same is) (λ wrong. absurd (Contains-nil sent wrong)) (Contains-cases (record { to = to; message = message }) [] sent h)

  outcome-origins : (txn : TxnId) (commits : Bool) (sites : List ℕ) → Origins (outcome_sends txn commits sites)
  outcome-origins txn commits sites sent h =
      let which = Contains-unmap (λ site. record { to = site; message = outcome_reported txn commits }) sites sent h in subst (λ (o : Outgoing). Origin o.message) which.1.1 tt

  lock-origins : (txn : TxnId) (parts : List Part) → Origins (lock_sends txn parts)
  lock-origins txn parts sent h =
      let which = Contains-unmap (λ (part : Part). record { to = part.site; message = lock txn part.wants }) parts sent h in subst (λ (o : Outgoing). Origin o.message) which.1.1 tt

  vote-origins : (entry : Entry) → Origins (prepare_sends here entry)
  vote-origins entry sent h =
      All-contains (λ (o : Outgoing). Origin o.message) (prepare_sends here entry) sent
      (filter-map-all (λ (o : Outgoing). Origin o.message) (λ site. prepare_under here entry (taken_from entry site)) (participants here entry)
      (λ site listed. by (taken_from entry site))) h where
        by : (taken : Option Taken) → OfSome (λ (o : Outgoing). Origin o.message) (prepare_under here entry taken)
        by None = tt
        by (Some taken) = tt

  submit-origins : (program : Program) (step : Step) → of_locks.SubmitCase here program step → Origins step.sends
  submit-origins program step (of_locks.no_number_left h) = no-origins
  submit-origins program step (of_locks.begins h) = lock-origins _ (plan_of program here.setup.catalog.items)

  granted-origins : (from : ℕ) (txn : TxnId) (grant : GrantId) (values : List Read) (step : Step) → of_grants.GrantedCase here from txn grant values step → Origins step.sends
  granted-origins from txn grant values step (of_grants.no_entry h) = no-origins
  granted-origins from txn grant values step (of_grants.ignored entry h i) = no-origins
  granted-origins from txn grant values step (of_grants.waits entry h i) = no-origins
  granted-origins from txn grant values step (of_grants.too_wide entry h i) = outcome-origins entry.txn false (participants here entry)
  granted-origins from txn grant values step (of_grants.in_doubt entry least h i doubt) = outcome-origins entry.txn false (participants here entry)
  granted-origins from txn grant values step (of_grants.reaches_lock_point entry h i certain) = vote-origins (taking entry from grant values)

  denied-origins : (from : ℕ) (txn : TxnId) (item : ℕ) (holder : TxnId) (step : Step) → of_grants.DeniedCase here from txn item holder step → Origins step.sends
  denied-origins from txn item holder step (of_grants.no_entry h) = no-origins
  denied-origins from txn item holder step (of_grants.ignored entry h i) = no-origins
  denied-origins from txn item holder step (of_grants.refuses entry h i) = outcome-origins entry.txn false (participants here entry)

  yes-origins : (from : ℕ) (txn : TxnId) (step : Step) → of_votes.YesCase here from txn step → Origins step.sends
  yes-origins from txn step (of_votes.no_entry h) = no-origins
  yes-origins from txn step (of_votes.ignored entry h i) = no-origins
  yes-origins from txn step (of_votes.waits entry h i) = no-origins
  yes-origins from txn step (of_votes.no_room entry h i j) = outcome-origins entry.txn false (participants here entry)
  yes-origins from txn step (of_votes.commits entry h i j) = outcome-origins entry.txn true (others_than here.me (participants here entry))

  no-case-origins : (from : ℕ) (txn : TxnId) (cause : NoCause) (step : Step) → of_votes.NoCase here from txn cause step → Origins step.sends
  no-case-origins from txn cause step (of_votes.no_entry h) = no-origins
  no-case-origins from txn cause step (of_votes.ignored entry h i) = no-origins
  no-case-origins from txn cause step (of_votes.refuses entry h) = outcome-origins entry.txn false (participants here entry)

  reported-origins : (from : ℕ) (txn : TxnId) (commits : Bool) (step : Step) → of_outcomes.OutcomeCase here from txn commits step → Origins step.sends
  reported-origins from txn commits step (of_outcomes.not_its_site h) = no-origins
  reported-origins from txn commits step (of_outcomes.known_already h) = no-origins
  reported-origins from txn commits step (of_outcomes.no_room h i j) = no-origins
  reported-origins from txn commits step (of_outcomes.learns h i j) = no-origins
  reported-origins from txn commits step (of_outcomes.nothing_to_do h i j) = no-origins
  reported-origins from txn commits step (of_outcomes.releases h i j) = no-origins

  ask-origins : (from : ℕ) (txn : TxnId) (step : Step) → of_outcomes.AskCase here from txn step → Origins step.sends
  ask-origins from txn step (of_outcomes.not_issued h) = no-origins
  ask-origins from txn step (of_outcomes.has_committed h i) = one-origin from (outcome_reported txn true) tt
  ask-origins from txn step (of_outcomes.still_works h i j) = no-origins
  ask-origins from txn step (of_outcomes.will_not_commit h i j) = one-origin from (outcome_reported txn false) tt

  tick-origins : Origins (on_tick here).sends
  unfolding on_tick
  tick-origins sent h =
      let late : List Entry = expired_entries (older_entries here.running.entries) in
      let asked : List TxnId = ungranted (older here.running) (named_here here) in
      ⊎_elim
      (λ reported. All-contains (λ (o : Outgoing). Origin o.message) (expiry_sends here late) sent
      (all-flat (λ (o : Outgoing). Origin o.message) (λ (e : Entry). outcome_sends e.txn false (participants here e)) late
      (λ e k. all-from (λ (o : Outgoing). Origin o.message) (outcome_sends e.txn false (participants here e)) (outcome-origins e.txn false (participants here e)))) reported)
      (λ question.
      let which = Contains-unmap (λ (txn : TxnId). record { to = txn.site.0; message = ask txn }) asked sent question in subst (λ (o : Outgoing). Origin o.message) which.1.1 tt)
      (Contains-append_cases (expiry_sends here late) (ask_sends asked) sent h)

  -- The grant doesn't stand where none of the transaction does, or another one.

  none-stands : (txn : TxnId) (grant : GrantId) → grant_of here.running txn ≡ None → list_any (is_grant txn grant) here.running.grants ≡ false
  none-stands txn grant none = false_from_ne_true (list_any (is_grant txn grant) here.running.grants) (λ is.
      let found = any-listed (is_grant txn grant) here.running.grants is in
      none-found (λ (g : Grant). is_same_txn txn g.txn) here.running.grants none found.0 found.1.0
      (same-from-eq {t = txn} {u = found.0.txn} (sym (same-eq {t = found.0.txn} {u = txn} (and_parts (is_same_txn found.0.txn txn) (is_same_grant found.0.id grant) found.1.1).0))))

  other-stands : (txn : TxnId) (grant : GrantId) (standing : Grant) → grant_of here.running txn ≡ Some standing → is_same_grant grant standing.id ≡ false
      → list_any (is_grant txn grant) here.running.grants ≡ false
  other-stands txn grant standing found other = false_from_ne_true (list_any (is_grant txn grant) here.running.grants) (λ is.
      let which = any-listed (is_grant txn grant) here.running.grants is in
      let parts = and_parts (is_same_txn which.0.txn txn) (is_same_grant which.0.id grant) which.1.1 in
      let own : which.0.txn ≡ txn = same-eq {t = which.0.txn} {u = txn} parts.0 in
      let one : standing ≡ which.0 =
      Some_inj (sym found ∙ subst (λ t. of_txn (λ (g : Grant). g.txn) t here.running.grants ≡ Some which.0) own (listed-found (λ (g : Grant). g.txn) here.running.grants which.0 order.grants which.1.0)) in
      false≢true (sym other ∙ grant-same grant standing.id (sym (same-grant which.0.id grant parts.1) ∙ ap (λ (g : Grant). g.id) (sym one))))

-- What is asked of the step.
module _ (here : Here) (order : IsInOrder here.running) where
  lock-case-origins : (from : ℕ) (txn : TxnId) (wants : List Want) (step : Step) → of_locks.LockCase here from txn wants step
      → Origins here order (receive from (lock txn wants)) step.sends
  lock-case-origins from txn wants step (of_locks.ignored h) = no-origins here order (receive from (lock txn wants))
  lock-case-origins from txn wants step (of_locks.granted_again grant h i j) = one-origin here order (receive from (lock txn wants)) _ _ tt
  lock-case-origins from txn wants step (of_locks.misfits grant h i j) = no-origins here order (receive from (lock txn wants))
  lock-case-origins from txn wants step (of_locks.denies clash h i found) =
      one-origin here order (receive from (lock txn wants)) txn.site.0 (denied txn clash.item clash.holder)
      (record { from = from; wants = wants; is = refl; clash = clash; found = found; item_is = refl; holder_is = refl })
  lock-case-origins from txn wants step (of_locks.no_grant_left h i) = no-origins here order (receive from (lock txn wants))
  lock-case-origins from txn wants step (of_locks.grants h i) = one-origin here order (receive from (lock txn wants)) _ _ tt

  prepare-case-origins : (from : ℕ) (txn : TxnId) (grant : GrantId) (writes : List Read) (step : Step) → of_votes.PrepareCase here from txn grant writes step
      → Origins here order (receive from (prepare txn grant writes)) step.sends
  prepare-case-origins from txn grant writes step (of_votes.not_its_site h) = no-origins here order (receive from (prepare txn grant writes))
  prepare-case-origins from txn grant writes step (of_votes.again h i) = one-origin here order (receive from (prepare txn grant writes)) _ _ tt
  prepare-case-origins from txn grant writes step (of_votes.none_stands may none) =
      one-origin here order (receive from (prepare txn grant writes)) txn.site.0 (vote_no txn grant_lost)
      (record { from = from; grant = grant; writes = writes; is = refl; unprepared = may.unprepared; reason = none-stands here order (receive from (prepare txn grant writes)) txn grant none })
  prepare-case-origins from txn grant writes step (of_votes.other_stands standing may found other) =
      one-origin here order (receive from (prepare txn grant writes)) txn.site.0 (vote_no txn grant_lost)
      (record {
        from = from;
        grant = grant;
        writes = writes;
        is = refl;
        unprepared = may.unprepared;
        reason = other-stands here order (receive from (prepare txn grant writes)) txn grant standing found other;
      })
  prepare-case-origins from txn grant writes step (of_votes.ignored standing may stands h) = no-origins here order (receive from (prepare txn grant writes))
  prepare-case-origins from txn grant writes step (of_votes.no_room standing may stands right room) =
      let same : txn ≡ standing.txn = grant-txn here.running txn standing stands.found in
      one-origin here order (receive from (prepare txn grant writes)) standing.txn.site.0 (vote_no standing.txn (journal_full (length_with here (prepared standing.txn writes))))
      (record {
        from = from;
        grant = grant;
        writes = writes;
        is = ap (λ t. receive from (prepare t grant writes)) same;
        unprepared = subst (λ t. is_prepared here.records t ≡ false) same may.unprepared;
        reason = (refl, room);
      })
  prepare-case-origins from txn grant writes step (of_votes.promises standing may stands right room) = one-origin here order (receive from (prepare txn grant writes)) _ _ tt

  message-origins : (from : ℕ) (message : Message) → Origins here order (receive from message) (on_message here from message).sends
  message-origins from (lock txn wants) = lock-case-origins from txn wants _ (lock-case here from txn wants)
  message-origins from (granted txn grant values) = granted-origins here order (receive from (granted txn grant values)) from txn grant values _ (granted-case here from txn grant values)
  message-origins from (denied txn item holder) = denied-origins here order (receive from (denied txn item holder)) from txn item holder _ (denied-case here from txn item holder)
  message-origins from (prepare txn grant writes) = prepare-case-origins from txn grant writes _ (prepare-case here from txn grant writes)
  message-origins from (vote_yes txn) = yes-origins here order (receive from (vote_yes txn)) from txn _ (yes-case here from txn)
  message-origins from (vote_no txn cause) = no-case-origins here order (receive from (vote_no txn cause)) from txn cause _ (no-case here from txn cause)
  message-origins from (outcome_reported txn commits) = reported-origins here order (receive from (outcome_reported txn commits)) from txn commits _ (outcome-case here from txn commits)
  message-origins from (ask txn) = ask-origins here order (receive from (ask txn)) from txn _ (ask-case here from txn)

  pub step-origins : (input : Input) (sent : Outgoing) → Contains (step_on here input).sends sent → Origin here order input sent.message
  step-origins (submit program) = submit-origins here order (submit program) program _ (submit-case here program)
  step-origins (receive from message) = message-origins from message
  step-origins tick = tick-origins here order tick
