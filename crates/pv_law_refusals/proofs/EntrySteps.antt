-- What a step makes of an entry: its stage goes on, a tick older at a tick; or a stage begins.
use Rattle.std.proofs.Common.{◌≡◌, ◌⊎◌, ⊎_elim, ℕ, ◌+◌, ◌<◌, Bool, true, false, Some, None, Option, List, [], ◌∷◌, length, map, inl, inr, refl, sym, ap, subst, ◌∙◌, arith}
use Rattle.std.specs.Prelude.{◌==◌, ◌&&◌, nat_lt, All, IsTrue, ⊤, if◌then◌else◌}
use Rattle.std.specs.List.{Contains, list_all}
use Rattle.std.proofs.lemmas.Bool.{eq-eqb, ltb-true, false≢true}
use Rattle.std.proofs.lemmas.List.Elements.{All-contains}
use Rattle.std.proofs.lemmas.Option.{none-some}
use Rattle.pv_base.proofs.AssignmentLemmas.{same-eq}
use Rattle.pv_base.proofs.Basics.{Some_inj}
use Rattle.pv_base.proofs.ContainsLemmas.{Contains-first, Contains-behind, Contains-nil}
use Rattle.pv_base.proofs.MapLemmas.{Contains-unmap}
use Rattle.pv_base.specs.Assignment.{is_same_txn}
use Rattle.pv_base.specs.Catalog.{Declared}
use Rattle.pv_base.specs.Want.{Want}
use Rattle.pv_base.specs.declared.grant.GrantId.{GrantId}
use Rattle.pv_base.specs.declared.limits.TheConstants.{TICKS}
use Rattle.pv_base.specs.declared.txn.TxnId.{TxnId}
use Rattle.pv_format.specs.Message.{Message, lock, granted, denied, prepare, vote_yes, vote_no, outcome_reported, ask, NoCause}
use Rattle.pv_law_acts.proofs.ListLemmas.{listed-any, listed-among, found-listed}
use Rattle.pv_law_acts.proofs.MemoryLemmas.{entry-txn}
use Rattle.pv_law_acts.proofs.NumberLemmas.{next-unpassed}
use Rattle.pv_law_acts.proofs.RecordLemmas.{prepared-listed}
use Rattle.pv_law_acts.specs.Seen.{records_at, IsPassed, IsNumberPassed, next_txn_in}
use Rattle.pv_law_refusals.specs.Waits.{IsWaiting}
use Rattle.pv_law_events.proofs.FoundLemmas.{listed-found, kept-passes, locking-found, voting-found}
use Rattle.pv_law_events.proofs.StepActs.{IsReady, here_at, found-works}
use Rattle.pv_format.specs.Record.{prepared}
use Rattle.pv_law_canonical.proofs.FilterLemmas.{kept-listed}
use Rattle.pv_law_outcomes.proofs.EntryLemmas.{two-stages}
use Rattle.pv_law_programs.proofs.PlanLemmas.{sites-known, at-some}
use Rattle.pv_law_step.proofs.Appended.{found-passes}
use Rattle.pv_law_step.proofs.KeyedLemmas.{of-with, of-without}
use Rattle.pv_law_step.proofs.StepCases.{submit-case, lock-case, granted-case, denied-case, prepare-case, yes-case, no-case, outcome-case, ask-case}
use Rattle.pv_law_step.specs.GrantCases as of_grants
use Rattle.pv_law_step.specs.LockCases as of_locks
use Rattle.pv_law_step.specs.OutcomeCases as of_outcomes
use Rattle.pv_law_step.specs.VoteCases as of_votes
use Rattle.pv_law_step.specs.VoteCases.{voted}
use Rattle.pv_model.specs.Alternatives.{Read}
use Rattle.pv_model.specs.Check.{names_item, IsAt}
use Rattle.pv_model.specs.Plan.{participants_of}
use Rattle.pv_model.specs.Syntax.{Program}
use Rattle.pv_protocol.specs.Coordinate.{has_taken, has_all_grants, has_all_votes}
use Rattle.pv_protocol.specs.Granted.{taking}
use Rattle.pv_protocol.specs.Here.{is_among}
use Rattle.pv_protocol.specs.Keyed.{of_txn, with_one, without}
use Rattle.pv_protocol.specs.Lock.{next_txn}
use Rattle.pv_protocol.specs.State.{Setup, Stage, locking, voting, Taken, Entry, Running, Input, submit, receive, tick, Step}
use Rattle.pv_protocol.specs.Step.{on_message, step_on}
use Rattle.pv_protocol.specs.Tick.{on_tick, older, older_entries, lasting_entries}
use Rattle.pv_protocol.specs.Waiting.{IsParticipant, HasAnswered}
use Rattle.pv_protocol.specs.WellFormed.{CanRun}
use Rattle.pv_protocol.specs.World.{World}

-- the entry of a transaction in a memory that is up
abbrev pub entry_found : Running → TxnId → Option Entry
entry_found running txn = of_txn (λ (e : Entry). e.txn) txn running.entries

-- by how many ticks an input makes entries older
abbrev pub ticks_in : Input → ℕ
ticks_in (submit program) = 0
ticks_in (receive from message) = 0
ticks_in tick = 1

-- What a step has made of an entry that is there after it.
pub data EntryStep (catalog : Declared) (running : Running) (input : Input) (txn : TxnId) (after : Entry) : Type 0 where
  goes_on : (entry : Entry) → entry_found running txn ≡ Some entry → entry.stage ≡ after.stage → after.age ≡ entry.age + ticks_in input
      → (entry.age < TICKS → after.age < TICKS) → (IsWaiting catalog entry → IsWaiting catalog after) → EntryStep catalog running input txn after
  begins_stage : after.age ≡ 0 → ((entry : Entry) → entry_found running txn ≡ Some entry → entry.stage ≡ after.stage → ⊥) → IsWaiting catalog after
      → EntryStep catalog running input txn after

-- Participants.

participant-from : (catalog : Declared) (program : Program) (n : ℕ) → Contains (participants_of program catalog.items) n → IsParticipant catalog program n
participant-from catalog program n h =
    let found = sites-known program 0 catalog.items n h in
    record { item = found.0; named = found.1.named; home = subst (λ place. IsAt catalog.items place n) (omega (arith, found.1.same)) found.1.at }

-- A program that can run has a participant.
some-participant : (catalog : Declared) (program : Program) → CanRun catalog program → (n : ℕ) × IsParticipant catalog program n
some-participant catalog program can = by can.runnable.items can.runnable.some can.runnable.are.each can.runnable.known where
  by : (items : List ℕ) → 0 < length items → All (λ n. IsTrue (names_item program n)) items → All (λ n. n < length catalog.items) items
      → (n : ℕ) × IsParticipant catalog program n
  by [] some named known = absurd (omega (arith, some))
  by (item ∷ items) some named known =
      let at = at-some catalog.items item (All-contains (λ n. n < length catalog.items) (item ∷ items) item known (Contains-first item items)) in
      (at.0, record { item = item; named = All-contains (λ n. IsTrue (names_item program n)) (item ∷ items) item named (Contains-first item items); home = at.1 })

-- Where not all pass a test, one doesn't.
one-fails : {X : Type 0} (p : X → Bool) (xs : List X) → list_all p xs ≡ false → (x : X) × (Contains xs x × (p x ≡ false))
one-fails {X = X} p [] is = absurd (false≢true (sym is))
one-fails {X = X} p (x ∷ xs) is = by (p x) refl is (one-fails p xs) where
  by : (b : Bool) → p x ≡ b → (b && list_all p xs) ≡ false → (list_all p xs ≡ false → (y : X) × (Contains xs y × (p y ≡ false))) → (y : X) × (Contains (x ∷ xs) y × (p y ≡ false))
  by false fails is later = (x, (Contains-first x xs, fails))
  by true passes is later = let found = later is in (found.0, (Contains-behind x xs found.0 found.1.0, found.1.1))

-- Who has answered.

taken-answered : (entry : Entry) (n : ℕ) → entry.stage ≡ locking → HasAnswered entry.stage entry n → has_taken entry n ≡ true
taken-answered entry n asks is =
    let listed : Contains (map (λ (t : Taken). t.site) entry.taken) n = subst (λ stage. HasAnswered stage entry n) asks is in
    let found = Contains-unmap (λ (t : Taken). t.site) entry.taken n listed in
    listed-any (λ (t : Taken). t.site == n) entry.taken found.0 found.1.0 (eq-eqb found.0.site n found.1.1)

vote-answered : (entry : Entry) (n : ℕ) → entry.stage ≡ voting → HasAnswered entry.stage entry n → is_among entry.votes n ≡ true
vote-answered entry n asks is = listed-among entry.votes n (subst (λ stage. HasAnswered stage entry n) asks is)

same-answer : (stage : Stage) (entry : Entry) (age n : ℕ) → HasAnswered stage (record entry { age = age }) n → HasAnswered stage entry n
same-answer locking entry age n is = is
same-answer voting entry age n is = is

module _ {catalog : Declared} where
  aged-waiting : (entry : Entry) (age : ℕ) → IsWaiting catalog entry → IsWaiting catalog (record entry { age = age })
  aged-waiting entry age waiting =
      record { n = waiting.n; participant = waiting.participant; silent = λ h. waiting.silent (same-answer entry.stage entry age waiting.n h) }

-- What is found once something is put in, or taken out.

put-either : (entries : List Entry) (entry : Entry) (txn : TxnId) (after : Entry) → of_txn (λ (e : Entry). e.txn) txn (with_one (λ (e : Entry). e.txn) entry entries) ≡ Some after
    → ((txn ≡ entry.txn) × (entry ≡ after)) ⊎ (of_txn (λ (e : Entry). e.txn) txn entries ≡ Some after)
put-either entries entry txn after is = by (is_same_txn txn entry.txn) refl (sym (of-with (λ (e : Entry). e.txn) txn entry entries) ∙ is) where
  by : (b : Bool) → is_same_txn txn entry.txn ≡ b → (if b then Some entry else of_txn (λ (e : Entry). e.txn) txn entries) ≡ Some after
      → ((txn ≡ entry.txn) × (entry ≡ after)) ⊎ (of_txn (λ (e : Entry). e.txn) txn entries ≡ Some after)
  by true same is = inl (same-eq {t = txn} {u = entry.txn} same, Some_inj is)
  by false apart is = inr is

left-found : (entries : List Entry) (other txn : TxnId) (after : Entry) → of_txn (λ (e : Entry). e.txn) txn (without (λ (e : Entry). e.txn) other entries) ≡ Some after
    → of_txn (λ (e : Entry). e.txn) txn entries ≡ Some after
left-found entries other txn after is = by (is_same_txn txn other) (sym (of-without (λ (e : Entry). e.txn) txn other entries) ∙ is) where
  by : (b : Bool) → (if b then None else of_txn (λ (e : Entry). e.txn) txn entries) ≡ Some after → of_txn (λ (e : Entry). e.txn) txn entries ≡ Some after
  by true is = absurd (none-some _ is)
  by false is = is

module _ (setup : Setup) (w : World) (n : ℕ) (running : Running) (ready : IsReady setup w n running) (txn : TxnId) (after : Entry) where
  abbrev Is : Input → Type 0
  Is input = EntryStep setup.catalog running input txn after

  -- the entry is as it was
  untouched : (input : Input) → ticks_in input ≡ 0 → entry_found running txn ≡ Some after → Is input
  untouched input none found = goes_on after found refl (omega (arith, none)) (λ young. young) (λ waiting. waiting)

  left : (input : Input) (other : TxnId) → ticks_in input ≡ 0 → of_txn (λ (e : Entry). e.txn) txn (without (λ (e : Entry). e.txn) other running.entries) ≡ Some after → Is input
  left input other none found = untouched input none (left-found running.entries other txn after found)

  -- an entry with the same stage, where some participant hasn't answered
  next-of : (input : Input) (asked : TxnId) (entry next : Entry) → ticks_in input ≡ 0 → entry_found running asked ≡ Some entry → next.txn ≡ entry.txn → entry.stage ≡ next.stage → next.age ≡ entry.age
      → IsWaiting setup.catalog next → of_txn (λ (e : Entry). e.txn) txn (with_one (λ (e : Entry). e.txn) next running.entries) ≡ Some after → Is input
  next-of input asked entry next none has own stage age waiting found =
      ⊎_elim
      (λ here.
      let same : asked ≡ txn = entry-txn running asked entry has ∙ sym own ∙ sym here.0 in
      goes_on entry (subst (λ t. entry_found running t ≡ Some entry) same has) (stage ∙ ap (λ (e : Entry). e.stage) here.1)
      (let older : after.age ≡ entry.age = sym (ap (λ (e : Entry). e.age) here.1) ∙ age in omega (arith, older, none))
      (λ young. subst (λ a. a < TICKS) (sym age ∙ ap (λ (e : Entry). e.age) here.1) young)
      (λ was. subst (IsWaiting setup.catalog) here.1 waiting))
      (λ old. untouched input none old)
      (put-either running.entries next txn after found)

  -- Requests.

  begins-waiting : (program : Program) → CanRun setup.catalog program → (t : TxnId)
      → IsWaiting setup.catalog (record { txn = t; program = program; stage = locking; age = 0; taken = []; votes = [] })
  begins-waiting program can t =
      let some = some-participant setup.catalog program can in record { n = some.0; participant = some.1; silent = λ h. Contains-nil some.0 h }

  unnumbered : (entry : Entry) → entry_found running (next_txn (here_at setup w n running)) ≡ Some entry → ⊥
  unnumbered entry found =
      let next : TxnId = next_txn (here_at setup w n running) in
      let passed : IsPassed w next = (ready.settled.sound.passed.entries n next (record entry { age = 0 }) (found-works setup w n running ready next entry found)).passed in
      next-unpassed (records_at w n) running.next_txn
      (subst (λ epoch. IsNumberPassed (records_at w n) (Some running.next_txn) epoch running.next_txn) ready.recorded
      (subst (λ memory. IsNumberPassed (records_at w n) (next_txn_in memory) running.epoch running.next_txn) ready.up passed))

  submit-entry : (program : Program) → CanRun setup.catalog program → (step : Step) → of_locks.SubmitCase (here_at setup w n running) program step
      → entry_found step.running txn ≡ Some after → Is (submit program)
  submit-entry program can step (of_locks.no_number_left h) found = untouched (submit program) refl found
  submit-entry program can step (of_locks.begins h) found =
      let next : TxnId = next_txn (here_at setup w n running) in
      let first : Entry = record { txn = next; program = program; stage = locking; age = 0; taken = []; votes = [] } in
      ⊎_elim
      (λ here. begins_stage (sym (ap (λ (e : Entry). e.age) here.1))
      (λ entry has same. unnumbered entry (subst (λ t. entry_found running t ≡ Some entry) here.0 has))
      (subst (IsWaiting setup.catalog) here.1 (begins-waiting program can next)))
      (λ old. untouched (submit program) refl old)
      (put-either running.entries first txn after found)

  -- Locks, votes, outcomes.

  lock-entry : (from : ℕ) (asked : TxnId) (wants : List Want) (step : Step) → of_locks.LockCase (here_at setup w n running) from asked wants step
      → entry_found step.running txn ≡ Some after → entry_found running txn ≡ Some after
  lock-entry from asked wants step (of_locks.ignored h) found = found
  lock-entry from asked wants step (of_locks.granted_again grant h i j) found = found
  lock-entry from asked wants step (of_locks.misfits grant h i j) found = found
  lock-entry from asked wants step (of_locks.denies clash h i j) found = found
  lock-entry from asked wants step (of_locks.no_grant_left h i) found = found
  lock-entry from asked wants step (of_locks.grants h i) found = found

  prepare-entry : (from : ℕ) (asked : TxnId) (grant : GrantId) (writes : List Read) (step : Step) → of_votes.PrepareCase (here_at setup w n running) from asked grant writes step
      → entry_found step.running txn ≡ Some after → entry_found running txn ≡ Some after
  prepare-entry from asked grant writes step (of_votes.not_its_site h) found = found
  prepare-entry from asked grant writes step (of_votes.again h i) found = found
  prepare-entry from asked grant writes step (of_votes.none_stands h i) found = found
  prepare-entry from asked grant writes step (of_votes.other_stands standing h i j) found = found
  prepare-entry from asked grant writes step (of_votes.ignored standing h i j) found = found
  prepare-entry from asked grant writes step (of_votes.no_room standing h i j k) found = found
  prepare-entry from asked grant writes step (of_votes.promises standing h i j k) found = found

  outcome-entry : (from : ℕ) (asked : TxnId) (commits : Bool) (step : Step) → of_outcomes.OutcomeCase (here_at setup w n running) from asked commits step
      → entry_found step.running txn ≡ Some after → entry_found running txn ≡ Some after
  outcome-entry from asked commits step (of_outcomes.not_its_site h) found = found
  outcome-entry from asked commits step (of_outcomes.known_already h) found = found
  outcome-entry from asked commits step (of_outcomes.no_room h i j) found = found
  outcome-entry from asked commits step (of_outcomes.learns h i j) found = found
  outcome-entry from asked commits step (of_outcomes.nothing_to_do h i j) found = found
  outcome-entry from asked commits step (of_outcomes.releases h i j) found = found

  ask-entry : (from : ℕ) (asked : TxnId) (step : Step) → of_outcomes.AskCase (here_at setup w n running) from asked step
      → entry_found step.running txn ≡ Some after → entry_found running txn ≡ Some after
  ask-entry from asked step (of_outcomes.not_issued h) found = found
  ask-entry from asked step (of_outcomes.has_committed h i) found = found
  ask-entry from asked step (of_outcomes.still_works h i j) found = found
  ask-entry from asked step (of_outcomes.will_not_commit h i j) found = found

  denied-entry : (from : ℕ) (asked : TxnId) (item : ℕ) (holder : TxnId) (step : Step) → of_grants.DeniedCase (here_at setup w n running) from asked item holder step
      → entry_found step.running txn ≡ Some after → Is (receive from (denied asked item holder))
  denied-entry from asked item holder step (of_grants.no_entry h) found = untouched _ refl found
  denied-entry from asked item holder step (of_grants.ignored entry h i) found = untouched _ refl found
  denied-entry from asked item holder step (of_grants.refuses entry h i) found = left _ entry.txn refl found

  no-entry-step : (from : ℕ) (asked : TxnId) (cause : NoCause) (step : Step) → of_votes.NoCase (here_at setup w n running) from asked cause step
      → entry_found step.running txn ≡ Some after → Is (receive from (vote_no asked cause))
  no-entry-step from asked cause step (of_votes.no_entry h) found = untouched _ refl found
  no-entry-step from asked cause step (of_votes.ignored entry h i) found = untouched _ refl found
  no-entry-step from asked cause step (of_votes.refuses entry h) found = left _ entry.txn refl found

  -- Grants and votes that are taken.

  lacks-grant : (entry : Entry) → entry.stage ≡ locking → has_all_grants (here_at setup w n running) entry ≡ false → IsWaiting setup.catalog entry
  lacks-grant entry asks some =
      let missing = one-fails (has_taken entry) (participants_of entry.program setup.catalog.items) some in
      record {
        n = missing.0;
        participant = participant-from setup.catalog entry.program missing.0 missing.1.0;
        silent = λ answered. false≢true (sym missing.1.1 ∙ taken-answered entry missing.0 asks answered);
      }

  lacks-vote : (entry : Entry) → entry.stage ≡ voting → has_all_votes (here_at setup w n running) entry ≡ false → IsWaiting setup.catalog entry
  lacks-vote entry asks some =
      let missing = one-fails (is_among entry.votes) (participants_of entry.program setup.catalog.items) some in
      record {
        n = missing.0;
        participant = participant-from setup.catalog entry.program missing.0 missing.1.0;
        silent = λ answered. false≢true (sym missing.1.1 ∙ vote-answered entry missing.0 asks answered);
      }

  -- At its lock point nobody has voted for a transaction.
  unvoted : (asked : TxnId) (entry : Entry) → entry_found running asked ≡ Some entry → entry.stage ≡ locking → (from : ℕ) → Contains entry.votes from → ⊥
  unvoted asked entry has asks from h =
      let right = ready.settled.sound.right.entries n asked (record entry { age = 0 }) (found-works setup w n running ready asked entry has) in
      let promised = prepared-listed (records_at w from) asked (right.votes from h).prepared in
      let writing = (ready.settled.sound.right.records from (prepared asked promised.0) promised.1).writing in
      right.unplaced asks writing.placed writing.in_order writing.own

  granted-entry : (from : ℕ) (asked : TxnId) (grant : GrantId) (values : List Read) (step : Step) → of_grants.GrantedCase (here_at setup w n running) from asked grant values step
      → entry_found step.running txn ≡ Some after → Is (receive from (granted asked grant values))
  granted-entry from asked grant values step (of_grants.no_entry h) found = untouched _ refl found
  granted-entry from asked grant values step (of_grants.ignored entry h i) found = untouched _ refl found
  granted-entry from asked grant values step (of_grants.waits entry taken some) found =
      let both = locking-found running ready.ordered asked entry taken.found in
      next-of (receive from (granted asked grant values)) asked entry (taking entry from grant values) refl both.0 refl refl refl
      (lacks-grant (taking entry from grant values) both.1 some) found
  granted-entry from asked grant values step (of_grants.too_wide entry last h) found = left _ entry.txn refl found
  granted-entry from asked grant values step (of_grants.in_doubt entry least last h doubt) found = left _ entry.txn refl found
  granted-entry from asked grant values step (of_grants.reaches_lock_point entry last h certain) found =
      let both = locking-found running ready.ordered asked entry last.taken.found in
      let next : Entry = record (taking entry from grant values) { stage = voting; age = 0 } in
      ⊎_elim
      (λ here.
      let same : asked ≡ txn = entry-txn running asked entry both.0 ∙ sym here.0 in
      begins_stage (sym (ap (λ (e : Entry). e.age) here.1))
      (λ other has stage.
      let one : entry ≡ other = Some_inj (sym (subst (λ t. entry_found running t ≡ Some entry) same both.0) ∙ has) in
      two-stages (ap (λ (e : Entry). e.stage) here.1 ∙ sym stage ∙ ap (λ (e : Entry). e.stage) (sym one) ∙ both.1))
      (subst (IsWaiting setup.catalog) here.1
      (let runs = (ready.settled.sound.right.entries n asked (record entry { age = 0 }) (found-works setup w n running ready asked entry both.0)).runs in
      let some = some-participant setup.catalog entry.program runs in
      record { n = some.0; participant = some.1; silent = λ answered. unvoted asked entry both.0 both.1 some.0 answered })))
      (λ old. untouched (receive from (granted asked grant values)) refl old)
      (put-either running.entries next txn after found)

  yes-entry : (from : ℕ) (asked : TxnId) (step : Step) → of_votes.YesCase (here_at setup w n running) from asked step
      → entry_found step.running txn ≡ Some after → Is (receive from (vote_yes asked))
  yes-entry from asked step (of_votes.no_entry h) found = untouched _ refl found
  yes-entry from asked step (of_votes.ignored entry h i) found = untouched _ refl found
  yes-entry from asked step (of_votes.waits entry vote some) found =
      let both = voting-found running ready.ordered asked entry vote.found in
      next-of (receive from (vote_yes asked)) asked entry (voted entry from) refl both.0 refl refl refl (lacks-vote (voted entry from) both.1 some) found
  yes-entry from asked step (of_votes.no_room entry vote whole h) found = left _ entry.txn refl found
  yes-entry from asked step (of_votes.commits entry vote whole h) found = left _ entry.txn refl found

  -- Ticks.

  tick-entry : entry_found (older running) txn ≡ Some after → Is tick
  tick-entry found =
      let same : txn ≡ after.txn = same-eq {t = txn} {u = after.txn} (found-passes (λ (e : Entry). is_same_txn txn e.txn) (lasting_entries (older_entries running.entries)) after found) in
      let kept : Contains (lasting_entries (older_entries running.entries)) after = found-listed (λ (e : Entry). is_same_txn txn e.txn) (lasting_entries (older_entries running.entries)) after found in
      let was = Contains-unmap (λ (e : Entry). record e { age = e.age + 1 }) running.entries after (kept-listed (λ (e : Entry). nat_lt e.age TICKS) (older_entries running.entries) after kept) in
      goes_on was.0
      (subst (λ t. entry_found running t ≡ Some was.0) (ap (λ (e : Entry). e.txn) was.1.1 ∙ sym same) (listed-found (λ (e : Entry). e.txn) running.entries was.0 ready.ordered.entries was.1.0))
      (ap (λ (e : Entry). e.stage) was.1.1)
      (sym (ap (λ (e : Entry). e.age) was.1.1))
      (λ young. ltb-true after.age TICKS (kept-passes (λ (e : Entry). nat_lt e.age TICKS) (older_entries running.entries) after kept))
      (λ waiting. subst (IsWaiting setup.catalog) was.1.1 (aged-waiting was.0 (was.0.age + 1) waiting))

  message-entry : (from : ℕ) (message : Message) → entry_found (on_message (here_at setup w n running) from message).running txn ≡ Some after → Is (receive from message)
  message-entry from (lock asked wants) found = untouched _ refl (lock-entry from asked wants _ (lock-case (here_at setup w n running) from asked wants) found)
  message-entry from (granted asked grant values) found = granted-entry from asked grant values _ (granted-case (here_at setup w n running) from asked grant values) found
  message-entry from (denied asked item holder) found = denied-entry from asked item holder _ (denied-case (here_at setup w n running) from asked item holder) found
  message-entry from (prepare asked grant writes) found = untouched _ refl (prepare-entry from asked grant writes _ (prepare-case (here_at setup w n running) from asked grant writes) found)
  message-entry from (vote_yes asked) found = yes-entry from asked _ (yes-case (here_at setup w n running) from asked) found
  message-entry from (vote_no asked cause) found = no-entry-step from asked cause _ (no-case (here_at setup w n running) from asked cause) found
  message-entry from (outcome_reported asked commits) found = untouched _ refl (outcome-entry from asked commits _ (outcome-case (here_at setup w n running) from asked commits) found)
  message-entry from (ask asked) found = untouched _ refl (ask-entry from asked _ (ask-case (here_at setup w n running) from asked) found)

  ticked : entry_found (on_tick (here_at setup w n running)).running txn ≡ Some after → Is tick
  unfolding on_tick
  ticked found = tick-entry found

  -- what the input needs
  abbrev pub Needs : Input → Type 0
  Needs (submit program) = CanRun setup.catalog program
  Needs (receive from message) = ⊤
  Needs tick = ⊤

  pub step-entry : (input : Input) → Needs input → entry_found (step_on (here_at setup w n running) input).running txn ≡ Some after → Is input
  step-entry (submit program) can found = submit-entry program can _ (submit-case (here_at setup w n running) program) found
  step-entry (receive from message) need found = message-entry from message found
  step-entry tick need found = ticked found
