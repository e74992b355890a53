-- A step asks for votes on a transaction only where its number was let out before, or is held, and speaks of votes only where some were asked for.
use Rattle.std.proofs.Common.{◌≡◌, ◌⊎◌, inl, inr, ℕ, Bool, true, false, Some, None, Option, List, [], ◌∷◌, refl, sym, ◌∙◌, ◌+◌, ap, subst}
use Rattle.std.specs.Prelude.{All, ◌&&◌, not, nat_lt, if◌then◌else◌, ⊤}
use Rattle.std.specs.List.{Contains}
use Rattle.std.proofs.lemmas.Bool.{and_parts}
use Rattle.std.proofs.lemmas.List.Elements.{All-append, All-cons, All-filter, All-map, All-nil, All-weaker}
use Rattle.pv_base.proofs.AssignmentLemmas.{same-eq}
use Rattle.pv_base.proofs.ContainsLemmas.{Contains-first}
use Rattle.pv_base.specs.Assignment.{is_same_txn}
use Rattle.pv_base.specs.Want.{Want}
use Rattle.pv_base.specs.declared.grant.GrantId.{GrantId}
use Rattle.pv_base.specs.declared.limits.TheConstants.{TICKS}
use Rattle.pv_base.specs.declared.txn.TxnId.{TxnId}
use Rattle.pv_format.specs.Message.{Message, lock, granted, denied, prepare, vote_yes, vote_no, outcome_reported, ask, NoCause, grant_lost}
use Rattle.pv_format.specs.Record.{Record, epoch_begun, prepared, outcome_known}
use Rattle.pv_law_step.proofs.Appended.{found-passes, grant-txn}
use Rattle.pv_law_step.proofs.Kept.{find-of, with-one-all, without-all, filter-map-all}
use Rattle.pv_law_step.proofs.Lists.{all-from, all-head, all-tail, OfSome, of-some, all-flat}
use Rattle.pv_law_step.proofs.StepCases.{submit-case, lock-case, granted-case, denied-case, prepare-case, yes-case, no-case, outcome-case, ask-case}
use Rattle.pv_law_step.specs.GrantCases as of_grants
use Rattle.pv_law_step.specs.LockCases as of_locks
use Rattle.pv_law_step.specs.OutcomeCases as of_outcomes
use Rattle.pv_law_step.specs.VoteCases as of_votes
use Rattle.pv_model.specs.Alternatives.{Read}
use Rattle.pv_model.specs.Check.{Part}
use Rattle.pv_model.specs.Plan.{plan_of}
use Rattle.pv_model.specs.Syntax.{Program}
use Rattle.pv_protocol.specs.Committed.{home_of}
use Rattle.pv_protocol.specs.Coordinate.{locking_entry, voting_entry, is_locking}
use Rattle.pv_protocol.specs.Granted.{taking, taken_from, prepare_under, at_lock_point}
use Rattle.pv_protocol.specs.Here.{Here, nothing, remembering, sending, noting, with_entry, without_entry, participants, outcome_sends, refusing}
use Rattle.pv_protocol.specs.Lock.{next_txn, lock_sends}
use Rattle.pv_protocol.specs.Outcome.{named_here}
use Rattle.pv_protocol.specs.Records.{known}
use Rattle.pv_protocol.specs.State.{Taken, locking, voting, Entry, Running, Cause, Input, submit, receive, tick, Note, began, Outgoing, Step}
use Rattle.pv_protocol.specs.Step.{on_message, step_on}
use Rattle.pv_protocol.specs.Tick.{older_entries, expired_entries, expiry_sends, ask_sends, older, ungranted, on_tick}
use Rattle.pv_protocol.specs.Vote.{others_than, committing}
use Rattle.pv_law_hosted.specs.Numbers.{AsksForVote, IsKept, SaysVoted}

-- The number of the transaction is given by its own site.
abbrev pub IsItsOwn : TxnId → ℕ → Note → Type 0
IsItsOwn txn me (began given) = given ≡ txn → home_of txn ≡ me
IsItsOwn txn me other = ⊤

-- The site is given a message that asks for a vote on the transaction, or speaks of votes on it, only where some were asked for.
abbrev pub IsGivenWell : TxnId → Type 0 → Input → Type 0
IsGivenWell txn asked (receive from message) = (AsksForVote txn message → asked) × (SaysVoted txn message → asked)
IsGivenWell txn asked other = ⊤

-- Of a transaction: whether votes on it were asked for, and whether its number was let out or is held.
module _ (txn : TxnId) (asked told : Type 0) where
  -- The message asks for a vote only with the number told, and speaks of votes only where some were asked for.
  abbrev pub IsSentWell : Outgoing → Type 0
  IsSentWell sent = (AsksForVote txn sent.message → told) × (SaysVoted txn sent.message → asked)

  abbrev Kept : Record → Type 0
  Kept kept = IsKept txn asked kept

  -- A transaction that is worked on has its number told, or in these reports.
  abbrev pub IsWorkedOn : List Note → Entry → Type 0
  IsWorkedOn notes entry = entry.txn ≡ txn → told ⊎ Contains notes (began txn)

  abbrev Own : ℕ → Note → Type 0
  Own me reported = IsItsOwn txn me reported

  pub record IsTold (here : Here) (step : Step) : Type 0 where
    pub sends : All IsSentWell step.sends
    pub appended : OfSome Kept step.appended
    pub entries : All (IsWorkedOn step.notes) step.running.entries
    pub notes : All (Own here.me) step.notes

  -- A record says so of the transaction.
  decided-told : (records : List Record) (decided other : TxnId) (commits : Bool) → Kept (outcome_known decided commits) → other ≡ txn
      → (known records other ≡ Some true → asked) → (same : Bool) → is_same_txn other decided ≡ same → (if same then Some commits else known records other) ≡ Some true → asked
  decided-told records decided other commits first is later true same found = let yes : commits ≡ true = cc in first (sym (same-eq same) ∙ is, yes)
  decided-told records decided other commits first is later false same found = later found

  known-told : (records : List Record) → All Kept records → (other : TxnId) → other ≡ txn → known records other ≡ Some true → asked
  known-told [] all other is found = absurd (let wrong : ⊥ = cc in wrong)
  known-told (epoch_begun epoch ∷ records) all other is found = known-told records (all-tail Kept (epoch_begun epoch) records all) other is found
  known-told (prepared promised writes ∷ records) all other is found = known-told records (all-tail Kept (prepared promised writes) records all) other is found
  known-told (outcome_known decided commits ∷ records) all other is found =
      decided-told records decided other commits (all-head Kept (outcome_known decided commits) records all) is
      (known-told records (all-tail Kept (outcome_known decided commits) records all) other is) (is_same_txn other decided) refl found

  module _ (here : Here) (works : All (λ (entry : Entry). entry.txn ≡ txn → told) here.running.entries) (kept : All Kept here.records) where
    abbrev Was : Entry → Type 0
    Was entry = entry.txn ≡ txn → told

    was-told : (notes : List Note) (entries : List Entry) → All Was entries → All (IsWorkedOn notes) entries
    was-told notes entries all = All-weaker Was (IsWorkedOn notes) (λ entry was is. inl (was is)) entries all

    locking-was : (other : TxnId) (entry : Entry) → locking_entry here.running other ≡ Some entry → Was entry
    locking-was other entry found = of-some Was (locking_entry here.running other) entry (find-of Was _ here.running.entries works) found

    voting-was : (other : TxnId) (entry : Entry) → voting_entry here.running other ≡ Some entry → Was entry
    voting-was other entry found = of-some Was (voting_entry here.running other) entry (find-of Was _ here.running.entries works) found

    voting-is : (other : TxnId) (entry : Entry) → voting_entry here.running other ≡ Some entry → other ≡ entry.txn
    voting-is other entry found =
        same-eq (and_parts (is_same_txn other entry.txn) (not (is_locking entry.stage))
        (found-passes (λ (e : Entry). is_same_txn other e.txn && not (is_locking e.stage)) here.running.entries entry found)).0

    -- A step that reports nothing of a number.
    quietly : (step : Step) → All IsSentWell step.sends → OfSome Kept step.appended → All Was step.running.entries → All (Own here.me) step.notes
        → IsTold here step
    quietly step sends appended entries notes = record { sends = sends; appended = appended; entries = was-told step.notes step.running.entries entries; notes = notes }

    remembers : (running : Running) → All Was running.entries → IsTold here (remembering running)
    remembers running all = quietly (remembering running) (All-nil IsSentWell) tt all (All-nil (Own here.me))

    same : IsTold here (nothing here)
    same = remembers here.running works

    sends-one : (running : Running) (to : ℕ) (message : Message) → All Was running.entries → (AsksForVote txn message → told) → (SaysVoted txn message → asked)
        → IsTold here (sending running (record { to = to; message = message } ∷ []))
    sends-one running to message all asks says =
        quietly (sending running (record { to = to; message = message } ∷ []))
        (All-cons IsSentWell (record { to = to; message = message }) [] (asks, says) (All-nil IsSentWell)) tt all (All-nil (Own here.me))

    reports-one : (note : Note) → Own here.me note → IsTold here (noting here note)
    reports-one note own = quietly (noting here note) (All-nil IsSentWell) tt works (All-cons (Own here.me) note [] own (All-nil (Own here.me)))

    with-was : (entry : Entry) → Was entry → All Was (with_entry here.running entry).entries
    with-was entry was = with-one-all Was (λ (e : Entry). e.txn) entry here.running.entries was works

    without-was : (other : TxnId) → All Was (without_entry here.running other).entries
    without-was other = without-all Was (λ (e : Entry). e.txn) other here.running.entries works

    outcomes-well : (other : TxnId) (commits : Bool) (sites : List ℕ) → (commits ≡ true → other ≡ txn → asked) → All IsSentWell (outcome_sends other commits sites)
    outcomes-well other commits sites votes =
        All-map IsSentWell (λ (site : ℕ). record { to = site; message = outcome_reported other commits }) sites
        (all-from (λ (site : ℕ). IsSentWell (record { to = site; message = outcome_reported other commits })) sites (λ site h. (λ no. absurd no, λ says. votes says.1 says.0)))

    never : (false ≡ true) → ⊥
    never wrong = let no : ⊥ = cc in no

    refuses : (entry : Entry) (cause : Cause) → IsTold here (refusing here entry cause)
    refuses entry cause =
        quietly (refusing here entry cause) (outcomes-well entry.txn false (participants here entry) (λ wrong. absurd (never wrong))) tt (without-was entry.txn)
        (All-cons (Own here.me) _ [] tt (All-nil (Own here.me)))

    -- ## Requests and locks
    begun-there : (given : TxnId) → given ≡ txn → Contains (began given ∷ []) (began txn)
    begun-there given is = subst (λ t. Contains (began given ∷ []) (began t)) is (Contains-first (began given) [])

    locks-well : (other : TxnId) (parts : List Part) → All IsSentWell (lock_sends other parts)
    locks-well other parts =
        All-map IsSentWell (λ (part : Part). record { to = part.site; message = lock other part.wants }) parts
        (all-from (λ (part : Part). IsSentWell (record { to = part.site; message = lock other part.wants })) parts (λ part h. (λ no. absurd no, λ no. absurd no)))

    submit-told : (program : Program) (step : Step) → of_locks.SubmitCase here program step → IsTold here step
    submit-told program step (of_locks.no_number_left h) = reports-one _ tt
    submit-told program step (of_locks.begins h) =
        let notes = began (next_txn here) ∷ [] in
        record {
          sends = locks-well (next_txn here) (plan_of program here.setup.catalog.items);
          appended = tt;
          entries = with-one-all (IsWorkedOn notes) (λ (e : Entry). e.txn) (record { txn = next_txn here; program = program; stage = locking; age = 0; taken = []; votes = [] })
              here.running.entries (λ is. inr (begun-there (next_txn here) is)) (was-told notes here.running.entries works);
          notes = All-cons (Own here.me) (began (next_txn here)) [] (λ is. ap home_of (sym is)) (All-nil (Own here.me));
        }

    lock-told : (from : ℕ) (other : TxnId) (wants : List Want) (step : Step) → of_locks.LockCase here from other wants step → IsTold here step
    lock-told from other wants step (of_locks.ignored h) = same
    lock-told from other wants step (of_locks.granted_again grant h i j) = sends-one here.running _ _ works (λ no. absurd no) (λ no. absurd no)
    lock-told from other wants step (of_locks.misfits grant h i j) = same
    lock-told from other wants step (of_locks.denies conflict h i j) = sends-one here.running _ _ works (λ no. absurd no) (λ no. absurd no)
    lock-told from other wants step (of_locks.no_grant_left h i) = reports-one _ tt
    lock-told from other wants step (of_locks.grants h i) = sends-one _ _ _ works (λ no. absurd no) (λ no. absurd no)

    -- ## Answers to locks
    under-well : (entry : Entry) → Was entry → (taken : Option Taken) → OfSome IsSentWell (prepare_under here entry taken)
    under-well entry was None = tt
    under-well entry was (Some taken) = (was, λ no. absurd no)

    lock-point-told : (entry : Entry) → Was entry → IsTold here (at_lock_point here entry)
    lock-point-told entry was =
        quietly (at_lock_point here entry)
        (filter-map-all IsSentWell (λ site. prepare_under here entry (taken_from entry site)) (participants here entry) (λ site h. under-well entry was (taken_from entry site)))
        tt (with-was (record entry { stage = voting; age = 0 }) was) (All-nil (Own here.me))

    granted-told : (from : ℕ) (other : TxnId) (grant : GrantId) (values : List Read) (step : Step) → of_grants.GrantedCase here from other grant values step → IsTold here step
    granted-told from other grant values step (of_grants.no_entry h) = same
    granted-told from other grant values step (of_grants.ignored entry h i) = same
    granted-told from other grant values step (of_grants.waits entry taken i) =
        remembers (with_entry here.running (taking entry from grant values)) (with-was (taking entry from grant values) (locking-was other entry taken.found))
    granted-told from other grant values step (of_grants.too_wide entry last i) = refuses (taking entry from grant values) _
    granted-told from other grant values step (of_grants.in_doubt entry item last few doubt) = refuses (taking entry from grant values) _
    granted-told from other grant values step (of_grants.reaches_lock_point entry last few certain) =
        lock-point-told (taking entry from grant values) (locking-was other entry last.taken.found)

    denied-told : (from : ℕ) (other : TxnId) (item : ℕ) (holder : TxnId) (step : Step) → of_grants.DeniedCase here from other item holder step → IsTold here step
    denied-told from other item holder step (of_grants.no_entry h) = same
    denied-told from other item holder step (of_grants.ignored entry h i) = same
    denied-told from other item holder step (of_grants.refuses entry found i) = refuses entry _

    -- ## Votes
    prepare-told : (from : ℕ) (other : TxnId) (grant : GrantId) (writes : List Read) → (other ≡ txn → asked) → (step : Step)
        → of_votes.PrepareCase here from other grant writes step → IsTold here step
    prepare-told from other grant writes asks step (of_votes.not_its_site h) = same
    prepare-told from other grant writes asks step (of_votes.again h i) = sends-one here.running _ (vote_yes other) works (λ no. absurd no) asks
    prepare-told from other grant writes asks step (of_votes.none_stands h i) = sends-one here.running _ (vote_no other grant_lost) works (λ no. absurd no) (λ no. absurd no)
    prepare-told from other grant writes asks step (of_votes.other_stands standing h i j) = sends-one here.running _ (vote_no other grant_lost) works (λ no. absurd no) (λ no. absurd no)
    prepare-told from other grant writes asks step (of_votes.ignored standing h i j) = same
    prepare-told from other grant writes asks step (of_votes.no_room standing h stands j k) =
        sends-one here.running _ _ works (λ no. absurd no) (λ no. absurd no)
    prepare-told from other grant writes asks step (of_votes.promises standing h stands j k) =
        let votes : standing.txn ≡ txn → asked = λ is. asks (grant-txn here.running other standing stands.found ∙ is) in
        quietly _ (All-cons IsSentWell (record { to = standing.txn.site.0; message = vote_yes standing.txn }) [] (λ no. absurd no, votes) (All-nil IsSentWell)) votes works (All-nil (Own here.me))

    commits-told : (entry : Entry) → (entry.txn ≡ txn → asked) → IsTold here (committing here entry)
    commits-told entry votes =
        quietly (committing here entry) (outcomes-well entry.txn true (others_than here.me (participants here entry)) (λ yes. votes)) (λ says. votes says.0) (without-was entry.txn)
        (All-cons (Own here.me) _ [] tt (All-nil (Own here.me)))

    yes-told : (from : ℕ) (other : TxnId) → (other ≡ txn → asked) → (step : Step) → of_votes.YesCase here from other step → IsTold here step
    yes-told from other votes step (of_votes.no_entry h) = same
    yes-told from other votes step (of_votes.ignored entry h i) = same
    yes-told from other votes step (of_votes.waits entry vote i) =
        remembers (with_entry here.running (of_votes.voted entry from)) (with-was (of_votes.voted entry from) (voting-was other entry vote.found))
    yes-told from other votes step (of_votes.no_room entry vote i j) = refuses (of_votes.voted entry from) _
    yes-told from other votes step (of_votes.commits entry vote i j) = commits-told (of_votes.voted entry from) (λ is. votes (voting-is other entry vote.found ∙ is))

    no-told : (from : ℕ) (other : TxnId) (cause : NoCause) (step : Step) → of_votes.NoCase here from other cause step → IsTold here step
    no-told from other cause step (of_votes.no_entry h) = same
    no-told from other cause step (of_votes.ignored entry h i) = same
    no-told from other cause step (of_votes.refuses entry vote) = refuses entry _

    -- ## Outcomes
    outcome-told : (from : ℕ) (other : TxnId) (commits : Bool) → ((other ≡ txn) × (commits ≡ true) → asked) → (step : Step)
        → of_outcomes.OutcomeCase here from other commits step → IsTold here step
    outcome-told from other commits says step (of_outcomes.not_its_site h) = same
    outcome-told from other commits says step (of_outcomes.known_already h) = same
    outcome-told from other commits says step (of_outcomes.no_room h i j) = reports-one _ tt
    outcome-told from other commits says step (of_outcomes.learns h i j) = quietly _ (All-nil IsSentWell) says works (All-nil (Own here.me))
    outcome-told from other commits says step (of_outcomes.nothing_to_do h i j) = same
    outcome-told from other commits says step (of_outcomes.releases h i j) = remembers _ works

    ask-told : (from : ℕ) (other : TxnId) (step : Step) → of_outcomes.AskCase here from other step → IsTold here step
    ask-told from other step (of_outcomes.not_issued h) = same
    ask-told from other step (of_outcomes.has_committed h found) =
        sends-one here.running from (outcome_reported other true) works (λ no. absurd no) (λ says. known-told here.records kept other says.0 found)
    ask-told from other step (of_outcomes.still_works h i j) = same
    ask-told from other step (of_outcomes.will_not_commit h i j) =
        sends-one here.running from (outcome_reported other false) works (λ no. absurd no) (λ says. absurd (never says.1))

    -- ## Ticks
    older-was : All Was (older_entries here.running.entries)
    older-was =
        All-map Was (λ (entry : Entry). record entry { age = entry.age + 1 }) here.running.entries
        (All-weaker Was (λ (entry : Entry). Was (record entry { age = entry.age + 1 })) (λ entry was. was) here.running.entries works)

    tick-told : IsTold here (on_tick here)
    unfolding on_tick
    tick-told =
        let refusals = expired_entries (older_entries here.running.entries) in
        let asks = ungranted (older here.running) (named_here here) in
        quietly _
        (All-append IsSentWell (expiry_sends here refusals) (ask_sends asks)
        (all-flat IsSentWell (λ (entry : Entry). outcome_sends entry.txn false (participants here entry)) refusals
        (λ entry h. outcomes-well entry.txn false (participants here entry) (λ wrong. absurd (never wrong))))
        (All-map IsSentWell (λ (other : TxnId). record { to = other.site.0; message = ask other }) asks
        (all-from (λ (other : TxnId). IsSentWell (record { to = other.site.0; message = ask other })) asks (λ other h. (λ no. absurd no, λ no. absurd no)))))
        tt (All-filter (λ (entry : Entry). nat_lt entry.age TICKS) Was (older_entries here.running.entries) older-was)
        (All-map (Own here.me) (λ (entry : Entry). _) refusals (all-from _ refusals (λ entry h. tt)))

    -- ## Every input
    message-told : (from : ℕ) (message : Message) → (AsksForVote txn message → asked) → (SaysVoted txn message → asked) → IsTold here (on_message here from message)
    message-told from (lock other wants) asks says = lock-told from other wants _ (lock-case here from other wants)
    message-told from (granted other grant values) asks says = granted-told from other grant values _ (granted-case here from other grant values)
    message-told from (denied other item holder) asks says = denied-told from other item holder _ (denied-case here from other item holder)
    message-told from (prepare other grant writes) asks says = prepare-told from other grant writes asks _ (prepare-case here from other grant writes)
    message-told from (vote_yes other) asks says = yes-told from other says _ (yes-case here from other)
    message-told from (vote_no other cause) asks says = no-told from other cause _ (no-case here from other cause)
    message-told from (outcome_reported other commits) asks says = outcome-told from other commits says _ (outcome-case here from other commits)
    message-told from (ask other) asks says = ask-told from other _ (ask-case here from other)

    pub step-told : (input : Input) → IsGivenWell txn asked input → IsTold here (step_on here input)
    step-told (submit program) well = submit-told program _ (submit-case here program)
    step-told (receive from message) well = message-told from message well.0 well.1
    step-told tick well = tick-told
