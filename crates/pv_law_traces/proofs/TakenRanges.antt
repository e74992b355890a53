-- An entry has taken grants of few sites, in every world of a run: each is of a participant, none of two is of the same, and they stand in the order of sites.
use Rattle.std.proofs.Common.{◌≡◌, ℕ, zero, suc, ◌+◌, ◌<◌, ◌≤◌, Bool, false, Some, All, List, [], ◌∷◌, ◌++◌, length, refl, subst, arith}
use Rattle.std.specs.List.{Contains, list_any}
use Rattle.std.specs.Prelude.{◌==◌, nat_lt, not, option_to_list, slice_get, map}
use Rattle.std.proofs.lemmas.Bool.{eqb-false, ltb-false, ltb-true}
use Rattle.std.proofs.lemmas.List.Elements.{All-filter, All-map, All-nil, All-weaker}
use Rattle.std.proofs.lemmas.Option.{none-some}
use Rattle.pv_base.proofs.Basics.{Some_inj}
use Rattle.pv_base.specs.Catalog.{Item}
use Rattle.pv_base.specs.Want.{Want}
use Rattle.pv_base.specs.declared.grant.GrantId.{GrantId}
use Rattle.pv_base.specs.declared.limits.TheConstants.{MAX_SITES, TICKS}
use Rattle.pv_base.specs.declared.txn.TxnId.{TxnId}
use Rattle.pv_format.specs.Message.{Message, lock, granted, denied, prepare, vote_yes, vote_no, outcome_reported, ask, NoCause}
use Rattle.pv_format.specs.Record.{Record}
use Rattle.pv_law_acts.proofs.ListLemmas.{among-listed}
use Rattle.pv_law_events.proofs.LockActs.{none-of-two, undenied}
use Rattle.pv_law_programs.proofs.PlanLemmas.{sites-known}
use Rattle.pv_law_step.proofs.Kept.{find-of, with-one-all, without-all}
use Rattle.pv_law_step.proofs.Lists.{all-head, all-tail, of-some}
use Rattle.pv_law_step.proofs.StartLemmas.{start-case}
use Rattle.pv_law_step.proofs.StepCases.{if_case, submit-case, lock-case, granted-case, denied-case, prepare-case, yes-case, no-case, outcome-case, ask-case}
use Rattle.pv_law_step.specs.GrantCases as of_grants
use Rattle.pv_law_step.specs.LockCases as of_locks
use Rattle.pv_law_step.specs.OutcomeCases as of_outcomes
use Rattle.pv_law_step.specs.StartCases as of_starts
use Rattle.pv_law_step.specs.VoteCases as of_votes
use Rattle.pv_law_world.proofs.SiteLemmas.{IsKept, WhereUp, up-run}
use Rattle.pv_model.specs.Alternatives.{Read}
use Rattle.pv_model.specs.Events.{Event}
use Rattle.pv_model.specs.Plan.{participants_of}
use Rattle.pv_model.specs.Syntax.{Program}
use Rattle.pv_protocol.specs.Attempt.{of_start}
use Rattle.pv_protocol.specs.Coordinate.{are_values_of, has_taken, locking_entry, voting_entry, with_taken}
use Rattle.pv_protocol.specs.Granted.{asked_of, is_unawaited, taking}
use Rattle.pv_protocol.specs.Here.{Here, is_among, participants, with_entry, without_entry}
use Rattle.pv_protocol.specs.Lock.{next_txn}
use Rattle.pv_protocol.specs.Run.{run, worlds_of}
use Rattle.pv_protocol.specs.Sound.{IsSetupInRange}
use Rattle.pv_protocol.specs.Start.{Started, site_start}
use Rattle.pv_protocol.specs.State.{locking, voting, Entry, Input, Running, Setup, Step, Taken, receive, submit, tick}
use Rattle.pv_protocol.specs.Step.{on_message, step_on}
use Rattle.pv_protocol.specs.Tick.{older_entries, on_tick}
use Rattle.pv_protocol.specs.World.{World, opening, site_at}
use Rattle.pv_law_traces.specs.Ranges.{HaveTakenFew, TakesFew}

-- ---- grants in the order of their sites, from one site on and below another

abbrev Climb : (low high : ℕ) → List Taken → Type 0
Climb low high [] = low ≤ high
Climb low high (taken ∷ list) = (low ≤ taken.site) × Climb (suc taken.site) high list

climb-few : (low high : ℕ) (list : List Taken) → Climb low high list → low + length list ≤ high
climb-few low high [] climbs = omega (arith, climbs)
climb-few low high (taken ∷ list) climbs = omega (arith, climbs.0, climb-few (suc taken.site) high list climbs.1)

-- One more is put in, of a site that none is of yet.
climb-more : (low high : ℕ) (taken : Taken) (list : List Taken) → low ≤ taken.site → taken.site < high → list_any (λ (t : Taken). t.site == taken.site) list ≡ false
    → Climb low high list → Climb low high (with_taken taken list)
climb-more low high taken [] from below new climbs = (from, omega (arith, below))
climb-more low high taken (first ∷ rest) from below new climbs =
    let apart = none-of-two (first.site == taken.site) (list_any (λ (t : Taken). t.site == taken.site) rest) new in
    if_case (Climb low high) (nat_lt taken.site first.site)
    (λ before. (from, (omega (arith, ltb-true taken.site first.site before), climbs.1)))
    (λ behind. (climbs.0, climb-more (suc first.site) high taken rest (omega (arith, ltb-false taken.site first.site behind, eqb-false first.site taken.site apart.0)) below apart.1 climbs.1))

-- ---- participants are sites of the catalog

home-below : (bound : ℕ) (items : List Item) (place site : ℕ) → All (λ (item : Item). item.site < bound) items
    → slice_get (map (λ (item : Item). item.site) items) place ≡ Some site → site < bound
home-below bound [] place site homes at = absurd (none-some site at)
home-below bound (item ∷ items) zero site homes at = subst (λ (n : ℕ). n < bound) (Some_inj at) (all-head (λ (i : Item). i.site < bound) item items homes)
home-below bound (item ∷ items) (suc place) site homes at = home-below bound items place site (all-tail (λ (i : Item). i.site < bound) item items homes) at

participant-below : (setup : Setup) → IsSetupInRange setup → (program : Program) (site : ℕ) → Contains (participants_of program setup.catalog.items) site → site < setup.catalog.sites
participant-below setup fine program site h =
    let named = sites-known program 0 setup.catalog.items site h in
    home-below setup.catalog.sites setup.catalog.items named.1.place site fine.homes named.1.at

-- ---- each step

module _ (here : Here) (fine : IsSetupInRange here.setup) where
  abbrev Climbs : Entry → Type 0
  Climbs entry = Climb 0 here.setup.catalog.sites entry.taken

  module _ (all : All Climbs here.running.entries) where
    locking-climbs : (txn : TxnId) (entry : Entry) → locking_entry here.running txn ≡ Some entry → Climbs entry
    locking-climbs txn entry found = of-some Climbs (locking_entry here.running txn) entry (find-of Climbs _ here.running.entries all) found

    voting-climbs : (txn : TxnId) (entry : Entry) → voting_entry here.running txn ≡ Some entry → Climbs entry
    voting-climbs txn entry found = of-some Climbs (voting_entry here.running txn) entry (find-of Climbs _ here.running.entries all) found

    with-climbs : (entry : Entry) → Climbs entry → All Climbs (with_entry here.running entry).entries
    with-climbs entry climbs = with-one-all Climbs (λ (e : Entry). e.txn) entry here.running.entries climbs all

    without-climbs : (txn : TxnId) → All Climbs (without_entry here.running txn).entries
    without-climbs txn = without-all Climbs (λ (e : Entry). e.txn) txn here.running.entries all

    submit-climbs : (program : Program) (step : Step) → of_locks.SubmitCase here program step → All Climbs step.running.entries
    submit-climbs program step (of_locks.no_number_left h) = all
    submit-climbs program step (of_locks.begins h) =
        with-one-all Climbs (λ (e : Entry). e.txn) (record { txn = next_txn here; program = program; stage = locking; age = 0; taken = []; votes = [] }) here.running.entries (omega arith) all

    lock-climbs : (from : ℕ) (txn : TxnId) (wants : List Want) (step : Step) → of_locks.LockCase here from txn wants step → All Climbs step.running.entries
    lock-climbs from txn wants step (of_locks.ignored h) = all
    lock-climbs from txn wants step (of_locks.granted_again grant h i j) = all
    lock-climbs from txn wants step (of_locks.misfits grant h i j) = all
    lock-climbs from txn wants step (of_locks.denies clash h i j) = all
    lock-climbs from txn wants step (of_locks.no_grant_left h i) = all
    lock-climbs from txn wants step (of_locks.grants h i) = all

    -- A grant that isn't ignored is the first of a participant.
    taking-climbs : (from : ℕ) (txn : TxnId) (grant : GrantId) (values : List Read) (entry : Entry) → of_grants.IsTaken here from txn values entry → Climbs (taking entry from grant values)
    taking-climbs from txn grant values entry taken =
        let heard = none-of-two (is_unawaited here entry from) (not (are_values_of (asked_of here entry from) values)) taken.heard in
        let awaited = none-of-two (not (is_among (participants here entry) from)) (has_taken entry from) heard.0 in
        let participant = among-listed (participants here entry) from (undenied (is_among (participants here entry) from) awaited.0) in
        climb-more 0 here.setup.catalog.sites (record { site = from; grant = grant; values = values }) entry.taken (omega arith)
        (participant-below here.setup fine entry.program from participant) awaited.1 (locking-climbs txn entry taken.found)

    granted-climbs : (from : ℕ) (txn : TxnId) (grant : GrantId) (values : List Read) (step : Step) → of_grants.GrantedCase here from txn grant values step → All Climbs step.running.entries
    granted-climbs from txn grant values step (of_grants.no_entry h) = all
    granted-climbs from txn grant values step (of_grants.ignored entry h i) = all
    granted-climbs from txn grant values step (of_grants.waits entry taken i) = with-climbs (taking entry from grant values) (taking-climbs from txn grant values entry taken)
    granted-climbs from txn grant values step (of_grants.too_wide entry last i) = without-climbs _
    granted-climbs from txn grant values step (of_grants.in_doubt entry item last few doubt) = without-climbs _
    granted-climbs from txn grant values step (of_grants.reaches_lock_point entry last few certain) =
        with-climbs (record (taking entry from grant values) { stage = voting; age = 0 }) (taking-climbs from txn grant values entry last.taken)

    denied-climbs : (from : ℕ) (txn : TxnId) (item : ℕ) (holder : TxnId) (step : Step) → of_grants.DeniedCase here from txn item holder step → All Climbs step.running.entries
    denied-climbs from txn item holder step (of_grants.no_entry h) = all
    denied-climbs from txn item holder step (of_grants.ignored entry h i) = all
    denied-climbs from txn item holder step (of_grants.refuses entry found i) = without-climbs _

    prepare-climbs : (from : ℕ) (txn : TxnId) (grant : GrantId) (writes : List Read) (step : Step) → of_votes.PrepareCase here from txn grant writes step → All Climbs step.running.entries
    prepare-climbs from txn grant writes step (of_votes.not_its_site h) = all
    prepare-climbs from txn grant writes step (of_votes.again h i) = all
    prepare-climbs from txn grant writes step (of_votes.none_stands h i) = all
    prepare-climbs from txn grant writes step (of_votes.other_stands standing h i j) = all
    prepare-climbs from txn grant writes step (of_votes.ignored standing h i j) = all
    prepare-climbs from txn grant writes step (of_votes.no_room standing h stands j k) = all
    prepare-climbs from txn grant writes step (of_votes.promises standing h stands j k) = all

    yes-climbs : (from : ℕ) (txn : TxnId) (step : Step) → of_votes.YesCase here from txn step → All Climbs step.running.entries
    yes-climbs from txn step (of_votes.no_entry h) = all
    yes-climbs from txn step (of_votes.ignored entry h i) = all
    yes-climbs from txn step (of_votes.waits entry vote i) = with-climbs (of_votes.voted entry from) (voting-climbs txn entry vote.found)
    yes-climbs from txn step (of_votes.no_room entry vote i j) = without-climbs _
    yes-climbs from txn step (of_votes.commits entry vote i j) = without-climbs _

    no-climbs : (from : ℕ) (txn : TxnId) (cause : NoCause) (step : Step) → of_votes.NoCase here from txn cause step → All Climbs step.running.entries
    no-climbs from txn cause step (of_votes.no_entry h) = all
    no-climbs from txn cause step (of_votes.ignored entry h i) = all
    no-climbs from txn cause step (of_votes.refuses entry vote) = without-climbs _

    outcome-climbs : (from : ℕ) (txn : TxnId) (commits : Bool) (step : Step) → of_outcomes.OutcomeCase here from txn commits step → All Climbs step.running.entries
    outcome-climbs from txn commits step (of_outcomes.not_its_site h) = all
    outcome-climbs from txn commits step (of_outcomes.known_already h) = all
    outcome-climbs from txn commits step (of_outcomes.no_room h i j) = all
    outcome-climbs from txn commits step (of_outcomes.learns h i j) = all
    outcome-climbs from txn commits step (of_outcomes.nothing_to_do h i j) = all
    outcome-climbs from txn commits step (of_outcomes.releases h i j) = all

    ask-climbs : (from : ℕ) (txn : TxnId) (step : Step) → of_outcomes.AskCase here from txn step → All Climbs step.running.entries
    ask-climbs from txn step (of_outcomes.not_issued h) = all
    ask-climbs from txn step (of_outcomes.has_committed h found) = all
    ask-climbs from txn step (of_outcomes.still_works h i j) = all
    ask-climbs from txn step (of_outcomes.will_not_commit h i j) = all

    tick-climbs : All Climbs (on_tick here).running.entries
    unfolding on_tick
    tick-climbs =
        All-filter (λ (entry : Entry). nat_lt entry.age TICKS) Climbs (older_entries here.running.entries)
        (All-map Climbs (λ (entry : Entry). record entry { age = entry.age + 1 }) here.running.entries
        (All-weaker Climbs (λ (entry : Entry). Climbs (record entry { age = entry.age + 1 })) (λ entry climbs. climbs) here.running.entries all))

    message-climbs : (from : ℕ) (message : Message) → All Climbs (on_message here from message).running.entries
    message-climbs from (lock txn wants) = lock-climbs from txn wants _ (lock-case here from txn wants)
    message-climbs from (granted txn grant values) = granted-climbs from txn grant values _ (granted-case here from txn grant values)
    message-climbs from (denied txn item holder) = denied-climbs from txn item holder _ (denied-case here from txn item holder)
    message-climbs from (prepare txn grant writes) = prepare-climbs from txn grant writes _ (prepare-case here from txn grant writes)
    message-climbs from (vote_yes txn) = yes-climbs from txn _ (yes-case here from txn)
    message-climbs from (vote_no txn cause) = no-climbs from txn cause _ (no-case here from txn cause)
    message-climbs from (outcome_reported txn commits) = outcome-climbs from txn commits _ (outcome-case here from txn commits)
    message-climbs from (ask txn) = ask-climbs from txn _ (ask-case here from txn)

    step-climbs : (input : Input) → All Climbs (step_on here input).running.entries
    step-climbs (submit program) = submit-climbs program _ (submit-case here program)
    step-climbs (receive from message) = message-climbs from message
    step-climbs tick = tick-climbs

-- ---- each run

module _ (setup : Setup) (fine : IsSetupInRange setup) where
  abbrev HasClimbing : ℕ → List Record → Running → Type 0
  HasClimbing n records running = All (λ (entry : Entry). Climb 0 setup.catalog.sites entry.taken) running.entries

  started-climbs : (n : ℕ) (records : List Record) (started : Started) → of_starts.StartCase setup 0 records started
      → WhereUp HasClimbing n (records ++ option_to_list (of_start n started).appended) (of_start n started).running
  started-climbs n records started (of_starts.no_epoch_left h) up is = absurd (none-some _ is)
  started-climbs n records started (of_starts.no_room h i) up is = absurd (none-some _ is)
  started-climbs n records started (of_starts.begins h i) up is = subst (HasClimbing n records) (Some_inj is) (All-nil _)

  climbing-kept : IsKept setup (WhereUp HasClimbing)
  climbing-kept = record {
    stops = λ n records running is up none. absurd (none-some _ none);
    steps = λ n records running input is up now.
        subst (HasClimbing n records) (Some_inj now) (step-climbs (record { me = n; setup = setup; records = records; surplus = 0; running = running }) fine (is running refl) input);
    begins = λ n records none. started-climbs n records (site_start setup 0 records) (start-case setup 0 records);
    first = λ n up is. subst (HasClimbing n []) (Some_inj is) (All-nil _);
  }

  taken-few : (entries : List Entry) → All (λ (entry : Entry). Climb 0 setup.catalog.sites entry.taken) entries → HaveTakenFew entries
  taken-few entries all =
      All-weaker (λ (entry : Entry). Climb 0 setup.catalog.sites entry.taken) (λ (entry : Entry). length entry.taken ≤ MAX_SITES)
      (λ entry climbs. omega (arith, climb-few 0 setup.catalog.sites entry.taken climbs, fine.sites)) entries all

  pub run-taken : (events : List Event) → All TakesFew (worlds_of (opening setup) (run setup (opening setup) events))
  run-taken events =
      let worlds = worlds_of (opening setup) (run setup (opening setup) events) in
      All-weaker (λ (world : World). (n : ℕ) (running : Running) → (site_at world n).running ≡ Some running → HasClimbing n (site_at world n).records running) TakesFew (λ world has n running is. taken-few running.entries (has n running is)) worlds (up-run setup HasClimbing climbing-kept events)
