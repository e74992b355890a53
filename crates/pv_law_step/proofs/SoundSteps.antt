-- Each step of a sound site sends what is in range, and keeps all that it holds in range.
use Rattle.std.proofs.Common.{◌≡◌, ⊎_elim, ℕ, ◌+◌, ◌<◌, ◌≤◌, ◌^◌, Bool, true, false, Some, None, Option, List, [], ◌∷◌, ◌++◌, length, map, refl, sym, subst, arith}
use Rattle.std.specs.Option.{option_to_list}
use Rattle.std.specs.Prelude.{All, nat_lt, ◌==◌, ◌≢◌, is_none, not, IsTrue}
use Rattle.std.specs.List.{Contains, find}
use Rattle.std.proofs.lemmas.Bool.{ltb-false, eqb-false, eqb-true}
use Rattle.std.proofs.lemmas.List.Elements.{All-append, All-cons, All-contains, All-filter, All-map, All-nil}
use Rattle.pv_base.specs.declared.grant.GrantId.{GrantId}
use Rattle.pv_base.specs.declared.limits.TheConstants.{MAX_ITEMS, HELD_NAMES, NEVER_GIVEN, TICKS}
use Rattle.pv_base.specs.Assignment.{AreAscending}
use Rattle.pv_base.specs.declared.txn.TxnId.{TxnId}
use Rattle.pv_base.specs.Catalog.{Declared}
use Rattle.pv_base.specs.Named.{names_of}
use Rattle.pv_base.specs.Want.{Want}
use Rattle.pv_format.specs.Message.{Message, lock, granted, denied, prepare, vote_yes, vote_no, outcome_reported, ask, NoCause, grant_lost, journal_full}
use Rattle.pv_format.specs.Range.{IsTxnWithin, IsGrantInRange, AreItemsInRange, AreReadsWithin, AreWantsInRange, IsEnvelopeWithin, IsRecordWithin}
use Rattle.pv_format.specs.Record.{Record, prepared}
use Rattle.pv_law_canonical.proofs.FilterLemmas.{kept-listed}
use Rattle.pv_law_step.proofs.Appended.{found-passes}
use Rattle.pv_law_step.proofs.HomeLemmas.{homes-of-heard, items-home}
use Rattle.pv_law_step.proofs.JournalLemmas.{length-short}
use Rattle.pv_law_step.proofs.Kept.{find-of, with-one-all, without-all, filter-map-all, with-taken-all}
use Rattle.pv_law_step.proofs.Lists.{all-from, all-head, all-tail, OfSome, of-some, all-flat}
use Rattle.pv_law_step.proofs.NameLists.{listed-names, united}
use Rattle.pv_law_step.proofs.ShownLemmas.{none-ascend}
use Rattle.pv_law_step.proofs.SoundLemmas.{new-in-range, writes-in-range, me-in-range, shown-here, values-in-range, participant-in-range, outcome-in-range, one-in-range}
use Rattle.pv_law_step.proofs.StepCases.{submit-case, lock-case, granted-case, denied-case, prepare-case, yes-case, no-case, outcome-case, ask-case}
use Rattle.pv_law_step.proofs.ValueRanges.{names-in-range}
use Rattle.pv_law_step.proofs.WantRanges.{wants-in-range, exclusive-in-range}
use Rattle.pv_law_step.specs.GrantCases as of_grants
use Rattle.pv_law_step.specs.LockCases as of_locks
use Rattle.pv_law_step.specs.OutcomeCases as of_outcomes
use Rattle.pv_law_step.specs.VoteCases as of_votes
use Rattle.pv_base.proofs.ContainsLemmas.{Contains-nil}
use Rattle.pv_model.specs.Alternatives.{Read}
use Rattle.pv_model.specs.Check.{Part}
use Rattle.pv_model.specs.Plan.{part_of, plan_of, participants_of}
use Rattle.pv_model.specs.Syntax.{Program}
use Rattle.pv_protocol.specs.Coordinate.{locking_entry, voting_entry, names_taken, exclusive_items}
use Rattle.pv_protocol.specs.Granted.{asked_of, taking, taken_from, prepare_under, at_lock_point}
use Rattle.pv_protocol.specs.Here.{Here, nothing, remembering, sending, grant_of, with_grant, without_grant, with_entry, without_entry, participants, outcome_sends, refusing, length_with}
use Rattle.pv_protocol.specs.Lock.{is_home, next_txn, lock_sends, is_in_the_way, Conflict, conflict_or, first_conflict, next_grant, granting, values_of}
use Rattle.pv_protocol.specs.Outcome.{items_here, names_shown, named_here}
use Rattle.pv_protocol.specs.Shown.{shown}
use Rattle.pv_protocol.specs.Sound.{IsHeldInRange, IsTakenInRange, IsEntryInRange, IsRunningInRange, IsHereInRange, IsInputInRange, IsSentInRange}
use Rattle.pv_protocol.specs.WellFormed.{CanRun}
use Rattle.pv_protocol.specs.State.{Grant, Taken, locking, voting, Entry, Running, Cause, Input, submit, receive, tick, Step}
use Rattle.pv_protocol.specs.Step.{on_message, step_on}
use Rattle.pv_protocol.specs.Tick.{older_grants, older_entries, expired_entries, expiry_sends, ask_sends, older, ungranted, on_tick}
use Rattle.pv_protocol.specs.Vote.{others_than, committing}

-- What a step sends and leaves is in range.
pub record IsSafe (sites : ℕ) (here : Here) (step : Step) : Type 0 where
  pub sends : All (IsSentInRange sites here) step.sends
  pub appended : OfSome (IsRecordWithin sites) step.appended
  pub running : IsRunningInRange sites here.setup.catalog here.me step.running

-- Memory that changes.

module _ (sites : ℕ) (catalog : Declared) (site : ℕ) (running : Running) (is : IsRunningInRange sites catalog site running) where
  with-grant-safe : (grant : Grant) → IsHeldInRange sites catalog site grant → IsRunningInRange sites catalog site (with_grant running grant)
  with-grant-safe grant held = record {
    epoch = is.epoch;
    next_txn = is.next_txn;
    next_grant = is.next_grant;
    entries = is.entries;
    grants = with-one-all (IsHeldInRange sites catalog site) (λ (g : Grant). g.txn) grant running.grants held is.grants;
  }

  without-grant-safe : (txn : TxnId) → IsRunningInRange sites catalog site (without_grant running txn)
  without-grant-safe txn = record {
    epoch = is.epoch;
    next_txn = is.next_txn;
    next_grant = is.next_grant;
    entries = is.entries;
    grants = without-all (IsHeldInRange sites catalog site) (λ (g : Grant). g.txn) txn running.grants is.grants;
  }

  with-entry-safe : (entry : Entry) → IsEntryInRange sites catalog entry → IsRunningInRange sites catalog site (with_entry running entry)
  with-entry-safe entry fine = record {
    epoch = is.epoch;
    next_txn = is.next_txn;
    next_grant = is.next_grant;
    grants = is.grants;
    entries = with-one-all (IsEntryInRange sites catalog) (λ (e : Entry). e.txn) entry running.entries fine is.entries;
  }

  without-entry-safe : (txn : TxnId) → IsRunningInRange sites catalog site (without_entry running txn)
  without-entry-safe txn = record {
    epoch = is.epoch;
    next_txn = is.next_txn;
    next_grant = is.next_grant;
    grants = is.grants;
    entries = without-all (IsEntryInRange sites catalog) (λ (e : Entry). e.txn) txn running.entries is.entries;
  }

module _ (sites : ℕ) (here : Here) (sound : IsHereInRange sites here) where
  abbrev IsHeld : Grant → Type 0
  IsHeld grant = IsHeldInRange sites here.setup.catalog here.me grant

  held : (txn : TxnId) (grant : Grant) → grant_of here.running txn ≡ Some grant → IsHeld grant
  held txn grant is = of-some IsHeld (grant_of here.running txn) grant (find-of IsHeld _ here.running.grants sound.running.grants) is

  locking-safe : (txn : TxnId) (entry : Entry) → locking_entry here.running txn ≡ Some entry → IsEntryInRange sites here.setup.catalog entry
  locking-safe txn entry is =
      of-some (IsEntryInRange sites here.setup.catalog) (locking_entry here.running txn) entry (find-of (IsEntryInRange sites here.setup.catalog) _ here.running.entries sound.running.entries) is

  voting-safe : (txn : TxnId) (entry : Entry) → voting_entry here.running txn ≡ Some entry → IsEntryInRange sites here.setup.catalog entry
  voting-safe txn entry is =
      of-some (IsEntryInRange sites here.setup.catalog) (voting_entry here.running txn) entry (find-of (IsEntryInRange sites here.setup.catalog) _ here.running.entries sound.running.entries) is

  quiet : (running : Running) → IsRunningInRange sites here.setup.catalog here.me running → IsSafe sites here (remembering running)
  quiet running is = record { sends = All-nil (IsSentInRange sites here); appended = tt; running = is }

  same-running : IsSafe sites here (nothing here)
  same-running = quiet here.running sound.running

  telling : (running : Running) (to : ℕ) (message : Message) → IsRunningInRange sites here.setup.catalog here.me running → IsSentInRange sites here (record { to = to; message = message })
      → IsSafe sites here (sending running (record { to = to; message = message } ∷ []))
  telling running to message is sent = record { sends = one-in-range sites here sound to message sent; appended = tt; running = is }

  participant-small : (entry : Entry) → IsEntryInRange sites here.setup.catalog entry → (site : ℕ) → Contains (participants here entry) site → site < sites
  participant-small entry is site h = (participant-in-range sites here sound entry is.program site h).0

  refusing-safe : (entry : Entry) (cause : Cause) → IsEntryInRange sites here.setup.catalog entry → IsSafe sites here (refusing here entry cause)
  refusing-safe entry cause is = record {
    sends = outcome-in-range sites here sound entry.txn is.txn false (participants here entry) (participant-small entry is);
    appended = tt;
    running = without-entry-safe sites here.setup.catalog here.me here.running sound.running entry.txn;
  }

  -- Requests and locks.

  next-txn-small : (here.running.next_txn == NEVER_GIVEN) ≡ false → IsTxnWithin sites (next_txn here)
  next-txn-small left =
      let apart : here.running.next_txn ≢ NEVER_GIVEN = eqb-false here.running.next_txn NEVER_GIVEN left in
      record {
        site = me-in-range sites here sound;
        epoch = omega (arith, sound.running.epoch);
        number = omega (arith, sound.running.next_txn, apart);
      }

  parts-safe : (program : Program) → CanRun here.setup.catalog program → (txn : TxnId) → IsTxnWithin sites txn
      → All (IsSentInRange sites here) (lock_sends txn (plan_of program here.setup.catalog.items))
  unfolding plan_of
  parts-safe program can txn is =
      All-map (IsSentInRange sites here) (λ (part : Part). record { to = part.site; message = lock txn part.wants }) (map (part_of program here.setup.catalog.items) (participants_of program here.setup.catalog.items))
      (All-map (λ (part : Part). IsSentInRange sites here (record { to = part.site; message = lock txn part.wants })) (part_of program here.setup.catalog.items) (participants_of program here.setup.catalog.items)
      (all-from (λ site. IsSentInRange sites here (record { to = site; message = lock txn (part_of program here.setup.catalog.items site).wants })) (participants_of program here.setup.catalog.items)
      (λ site h.
      let part = participant-in-range sites here sound (record { txn = txn; program = program; stage = locking; age = 0; taken = []; votes = [] }) can site h in
      record { from = me-in-range sites here sound; to = part.0; txn = is; body = part.1 })))

  submit-safe : (program : Program) → CanRun here.setup.catalog program → (step : Step) → of_locks.SubmitCase here program step → IsSafe sites here step
  submit-safe program can step (of_locks.no_number_left h) = record { sends = All-nil (IsSentInRange sites here); appended = tt; running = sound.running }
  submit-safe program can step (of_locks.begins left) =
      let small = next-txn-small left in
      let apart : here.running.next_txn ≢ NEVER_GIVEN = eqb-false here.running.next_txn NEVER_GIVEN left in
      let counted : IsRunningInRange sites here.setup.catalog here.me (record here.running { next_txn = here.running.next_txn + 1 }) =
      record {
        epoch = sound.running.epoch;
        next_txn = omega (arith, sound.running.next_txn, apart);
        next_grant = sound.running.next_grant;
        grants = sound.running.grants;
        entries = sound.running.entries;
      } in
      record {
        sends = parts-safe program can (next_txn here) small;
        appended = tt;
        running = with-entry-safe sites here.setup.catalog here.me (record here.running { next_txn = here.running.next_txn + 1 }) counted
            (record { txn = next_txn here; program = program; stage = locking; age = 0; taken = []; votes = [] })
            (record { txn = small; program = can; taken = All-nil (IsTakenInRange sites) });
      }

  conflict-or-safe : (want : Want) (grant : Option Grant) (rest : Option Conflict) → want.item < MAX_ITEMS → OfSome IsHeld grant
      → OfSome (λ (c : Conflict). (c.item < MAX_ITEMS) × IsTxnWithin sites c.holder) rest
      → OfSome (λ (c : Conflict). (c.item < MAX_ITEMS) × IsTxnWithin sites c.holder) (conflict_or want grant rest)
  conflict-or-safe want None rest small grants later = later
  conflict-or-safe want (Some grant) rest small held later = (small, held.txn)

  conflict-safe : (wants : List Want) → All (λ item. item < MAX_ITEMS) (map (λ (want : Want). want.item) wants)
      → OfSome (λ (c : Conflict). (c.item < MAX_ITEMS) × IsTxnWithin sites c.holder) (first_conflict here.running.grants wants)
  conflict-safe [] small = tt
  conflict-safe (want ∷ wants) small =
      conflict-or-safe want (find (is_in_the_way want) here.running.grants) (first_conflict here.running.grants wants)
      (all-head (λ item. item < MAX_ITEMS) want.item (map (λ (w : Want). w.item) wants) small)
      (find-of IsHeld (is_in_the_way want) here.running.grants sound.running.grants)
      (conflict-safe wants (all-tail (λ item. item < MAX_ITEMS) want.item (map (λ (w : Want). w.item) wants) small))

  granting-safe : (running : Running) (grant : Grant) → IsRunningInRange sites here.setup.catalog here.me running → IsHeld grant → IsSafe sites here (granting here running grant)
  granting-safe running grant is held =
      telling running grant.txn.site.0 (granted grant.txn grant.id (values_of here grant.wants)) is
      (record { from = me-in-range sites here sound; to = held.txn.site; txn = held.txn; body = (held.id, values-in-range sites here sound grant.wants held.wants held.homes) })

  lock-safe : (from : ℕ) (txn : TxnId) (wants : List Want) → IsTxnWithin sites txn → AreWantsInRange wants
      → (step : Step) → of_locks.LockCase here from txn wants step → IsSafe sites here step
  lock-safe from txn wants is are step (of_locks.ignored h) = same-running
  lock-safe from txn wants is are step (of_locks.granted_again grant h found j) = granting-safe here.running grant sound.running (held txn grant found)
  lock-safe from txn wants is are step (of_locks.misfits grant h i j) = same-running
  lock-safe from txn wants is are step (of_locks.denies conflict h i found) =
      let small = of-some (λ (c : Conflict). (c.item < MAX_ITEMS) × IsTxnWithin sites c.holder) (first_conflict here.running.grants wants) conflict (conflict-safe wants are.items.each) found in
      telling here.running txn.site.0 (denied txn conflict.item conflict.holder) sound.running
      (record { from = me-in-range sites here sound; to = is.site; txn = is; body = (small.0, small.1) })
  lock-safe from txn wants is are step (of_locks.no_grant_left h i) = record { sends = All-nil (IsSentInRange sites here); appended = tt; running = sound.running }
  lock-safe from txn wants is are step (of_locks.grants h left) =
      let apart : here.running.next_grant ≢ NEVER_GIVEN = eqb-false here.running.next_grant NEVER_GIVEN left in
      let new : IsHeld (next_grant here txn wants) =
      record { txn = is; id = record { epoch = omega (arith, sound.running.epoch); number = omega (arith, sound.running.next_grant, apart) }; wants = are; homes = homes-of-heard here from txn wants h.heard } in
      let counted : IsRunningInRange sites here.setup.catalog here.me (record here.running { next_grant = here.running.next_grant + 1 }) =
      record {
        epoch = sound.running.epoch;
        next_txn = sound.running.next_txn;
        next_grant = omega (arith, sound.running.next_grant, apart);
        grants = sound.running.grants;
        entries = sound.running.entries;
      } in
      granting-safe (with_grant (record here.running { next_grant = here.running.next_grant + 1 }) (next_grant here txn wants)) (next_grant here txn wants)
      (with-grant-safe sites here.setup.catalog here.me (record here.running { next_grant = here.running.next_grant + 1 }) counted (next_grant here txn wants) new) new

  -- Answers to locks.

  taking-safe : (entry : Entry) (from : ℕ) (grant : GrantId) (values : List Read) → IsEntryInRange sites here.setup.catalog entry → IsGrantInRange grant → AreReadsWithin sites 1 values
      → IsEntryInRange sites here.setup.catalog (taking entry from grant values)
  taking-safe entry from grant values is given are = record {
    txn = is.txn;
    program = is.program;
    taken = with-taken-all (IsTakenInRange sites) (record { site = from; grant = grant; values = values }) entry.taken (record { grant = given; values = are }) is.taken;
  }

  asked-items : (entry : Entry) → IsEntryInRange sites here.setup.catalog entry → (site : ℕ) → AreItemsInRange (map (λ (want : Want). want.item) (asked_of here entry site))
  asked-items entry is site = wants-in-range entry.program site here.setup.catalog sound.setup.items is.program

  module _ (entry : Entry) (is : IsEntryInRange sites here.setup.catalog entry) (few : length (names_taken entry) ≤ HELD_NAMES) where
    under-safe : (site : ℕ) → Contains (participants here entry) site → (taken : Option Taken) → taken_from entry site ≡ taken
        → OfSome (IsSentInRange sites here) (prepare_under here entry taken)
    under-safe site h None found = tt
    under-safe site h (Some taken) found =
        let fine = of-some (IsTakenInRange sites) (taken_from entry site) taken (find-of (IsTakenInRange sites) (λ (t : Taken). t.site == site) entry.taken is.taken) found in
        let same : taken.site ≡ site = eqb-true taken.site site (found-passes (λ (t : Taken). t.site == site) entry.taken taken found) in
        record {
          from = me-in-range sites here sound;
          to = subst (λ s. s < sites) (sym same) (participant-small entry is site h);
          txn = is.txn;
          body = (
            fine.grant,
            writes-in-range sites entry here.records (exclusive_items (asked_of here entry taken.site))
                (exclusive-in-range (asked_of here entry taken.site) (asked-items entry is taken.site))
                (new-in-range sites entry is.taken here.setup.catalog is.program few here.records),
          );
        }

    lock-point-safe : IsSafe sites here (at_lock_point here entry)
    lock-point-safe = record {
      sends = filter-map-all (IsSentInRange sites here) (λ site. prepare_under here entry (taken_from entry site)) (participants here entry)
          (λ site h. under-safe site h (taken_from entry site) refl);
      appended = tt;
      running = with-entry-safe sites here.setup.catalog here.me here.running sound.running (record entry { stage = voting; age = 0 })
          (record { txn = is.txn; program = is.program; taken = is.taken });
    }

  granted-safe : (from : ℕ) (txn : TxnId) (grant : GrantId) (values : List Read) → IsGrantInRange grant → AreReadsWithin sites 1 values
      → (step : Step) → of_grants.GrantedCase here from txn grant values step → IsSafe sites here step
  granted-safe from txn grant values is are step (of_grants.no_entry h) = same-running
  granted-safe from txn grant values is are step (of_grants.ignored entry h i) = same-running
  granted-safe from txn grant values is are step (of_grants.waits entry taken i) =
      quiet (with_entry here.running (taking entry from grant values))
      (with-entry-safe sites here.setup.catalog here.me here.running sound.running (taking entry from grant values) (taking-safe entry from grant values (locking-safe txn entry taken.found) is are))
  granted-safe from txn grant values is are step (of_grants.too_wide entry last i) =
      refusing-safe (taking entry from grant values) _ (taking-safe entry from grant values (locking-safe txn entry last.taken.found) is are)
  granted-safe from txn grant values is are step (of_grants.in_doubt entry least last i doubt) =
      refusing-safe (taking entry from grant values) _ (taking-safe entry from grant values (locking-safe txn entry last.taken.found) is are)
  granted-safe from txn grant values is are step (of_grants.reaches_lock_point entry last few certain) =
      lock-point-safe (taking entry from grant values) (taking-safe entry from grant values (locking-safe txn entry last.taken.found) is are)
      (omega (arith, ltb-false here.setup.read_names (length (names_taken (taking entry from grant values))) few, sound.setup.apart, sound.setup.held))

  denied-safe : (from : ℕ) (txn : TxnId) (item : ℕ) (holder : TxnId) (step : Step) → of_grants.DeniedCase here from txn item holder step → IsSafe sites here step
  denied-safe from txn item holder step (of_grants.no_entry h) = same-running
  denied-safe from txn item holder step (of_grants.ignored entry h i) = same-running
  denied-safe from txn item holder step (of_grants.refuses entry found i) = refusing-safe entry _ (locking-safe txn entry found)

  -- Votes.

  to-coordinator : (txn : TxnId) (message : Message) → IsTxnWithin sites txn → IsEnvelopeWithin sites (record { from = here.me; to = txn.site.0; message = message })
      → IsSafe sites here (sending here.running (record { to = txn.site.0; message = message } ∷ []))
  to-coordinator txn message is sent = telling here.running txn.site.0 message sound.running sent

  prepare-safe : (from : ℕ) (txn : TxnId) (grant : GrantId) (writes : List Read) → IsTxnWithin sites txn → AreReadsWithin sites 0 writes
      → ((of : TxnId) → IsTxnWithin sites of → length_with here (prepared of writes) < 2 ^ 64)
      → (step : Step) → of_votes.PrepareCase here from txn grant writes step → IsSafe sites here step
  prepare-safe from txn grant writes is are short step (of_votes.not_its_site h) = same-running
  prepare-safe from txn grant writes is are short step (of_votes.again h i) =
      to-coordinator txn (vote_yes txn) is (record { from = me-in-range sites here sound; to = is.site; txn = is; body = tt })
  prepare-safe from txn grant writes is are short step (of_votes.none_stands h i) =
      to-coordinator txn (vote_no txn grant_lost) is (record { from = me-in-range sites here sound; to = is.site; txn = is; body = tt })
  prepare-safe from txn grant writes is are short step (of_votes.other_stands standing h i j) =
      to-coordinator txn (vote_no txn grant_lost) is (record { from = me-in-range sites here sound; to = is.site; txn = is; body = tt })
  prepare-safe from txn grant writes is are short step (of_votes.ignored standing h i j) = same-running
  prepare-safe from txn grant writes is are short step (of_votes.no_room standing h stands j k) =
      let its = (held txn standing stands.found).txn in
      to-coordinator standing.txn (vote_no standing.txn (journal_full (length_with here (prepared standing.txn writes)))) its
      (record { from = me-in-range sites here sound; to = its.site; txn = its; body = short standing.txn its })
  prepare-safe from txn grant writes is are short step (of_votes.promises standing h stands j k) =
      let its = held txn standing stands.found in
      record {
        sends = one-in-range sites here sound standing.txn.site.0 (vote_yes standing.txn) (record { from = me-in-range sites here sound; to = its.txn.site; txn = its.txn; body = tt });
        appended = (its.txn, are);
        running = with-grant-safe sites here.setup.catalog here.me here.running sound.running (record standing { age = 0 }) (record { txn = its.txn; id = its.id; wants = its.wants; homes = its.homes });
      }

  voted-safe : (entry : Entry) (from : ℕ) → IsEntryInRange sites here.setup.catalog entry → IsEntryInRange sites here.setup.catalog (of_votes.voted entry from)
  voted-safe entry from is = record { txn = is.txn; program = is.program; taken = is.taken }

  committing-safe : (entry : Entry) → IsEntryInRange sites here.setup.catalog entry → IsSafe sites here (committing here entry)
  committing-safe entry is = record {
    sends = outcome-in-range sites here sound entry.txn is.txn true (others_than here.me (participants here entry))
        (λ site h. participant-small entry is site (kept-listed (λ site. not (site == here.me)) (participants here entry) site h));
    appended = is.txn;
    running = without-grant-safe sites here.setup.catalog here.me (without_entry here.running entry.txn) (without-entry-safe sites here.setup.catalog here.me here.running sound.running entry.txn) entry.txn;
  }

  yes-safe : (from : ℕ) (txn : TxnId) (step : Step) → of_votes.YesCase here from txn step → IsSafe sites here step
  yes-safe from txn step (of_votes.no_entry h) = same-running
  yes-safe from txn step (of_votes.ignored entry h i) = same-running
  yes-safe from txn step (of_votes.waits entry vote i) =
      quiet (with_entry here.running (of_votes.voted entry from))
      (with-entry-safe sites here.setup.catalog here.me here.running sound.running (of_votes.voted entry from) (voted-safe entry from (voting-safe txn entry vote.found)))
  yes-safe from txn step (of_votes.no_room entry vote i j) = refusing-safe (of_votes.voted entry from) _ (voted-safe entry from (voting-safe txn entry vote.found))
  yes-safe from txn step (of_votes.commits entry vote i j) = committing-safe (of_votes.voted entry from) (voted-safe entry from (voting-safe txn entry vote.found))

  no-safe : (from : ℕ) (txn : TxnId) (cause : NoCause) (step : Step) → of_votes.NoCase here from txn cause step → IsSafe sites here step
  no-safe from txn cause step (of_votes.no_entry h) = same-running
  no-safe from txn cause step (of_votes.ignored entry h i) = same-running
  no-safe from txn cause step (of_votes.refuses entry vote) = refusing-safe entry _ (voting-safe txn entry vote.found)

  -- Outcomes.

  outcome-safe : (from : ℕ) (txn : TxnId) (commits : Bool) → IsTxnWithin sites txn → (step : Step) → of_outcomes.OutcomeCase here from txn commits step → IsSafe sites here step
  outcome-safe from txn commits is step (of_outcomes.not_its_site h) = same-running
  outcome-safe from txn commits is step (of_outcomes.known_already h) = same-running
  outcome-safe from txn commits is step (of_outcomes.no_room h i j) = record { sends = All-nil (IsSentInRange sites here); appended = tt; running = sound.running }
  outcome-safe from txn commits is step (of_outcomes.learns h i j) = record {
    sends = All-nil (IsSentInRange sites here);
    appended = is;
    running = without-grant-safe sites here.setup.catalog here.me here.running sound.running txn;
  }
  outcome-safe from txn commits is step (of_outcomes.nothing_to_do h i j) = same-running
  outcome-safe from txn commits is step (of_outcomes.releases h i j) =
      quiet (without_grant here.running txn) (without-grant-safe sites here.setup.catalog here.me here.running sound.running txn)

  ask-safe : (from : ℕ) (txn : TxnId) → from < sites → IsTxnWithin sites txn → (step : Step) → of_outcomes.AskCase here from txn step → IsSafe sites here step
  ask-safe from txn small is step (of_outcomes.not_issued h) = same-running
  ask-safe from txn small is step (of_outcomes.has_committed h i) =
      telling here.running from (outcome_reported txn true) sound.running (record { from = me-in-range sites here sound; to = small; txn = is; body = tt })
  ask-safe from txn small is step (of_outcomes.still_works h i j) = same-running
  ask-safe from txn small is step (of_outcomes.will_not_commit h i j) =
      telling here.running from (outcome_reported txn false) sound.running (record { from = me-in-range sites here sound; to = small; txn = is; body = tt })

  -- Ticks.

  -- What shown values name ascends and is in range.
  record AreNamedSafe (txns : List TxnId) : Type 0 where
    pub ascending : AreAscending txns
    pub each : (t : TxnId) → Contains txns t → IsTxnWithin sites t

  names-safe : (items : List ℕ) → All (λ item. IsTrue (is_home here.setup.catalog here.me item)) items
      → AreNamedSafe (names_shown here.setup.catalog here.records items)
  names-safe [] homes = record { ascending = none-ascend; each = λ t h. absurd (Contains-nil t h) }
  names-safe (item ∷ items) homes =
      let rest = names-safe items (all-tail (λ n. IsTrue (is_home here.setup.catalog here.me n)) item items homes) in
      let value = shown here.setup.catalog here.records item in
      let both = united (names_of value) (names_shown here.setup.catalog here.records items) rest.ascending in
      record {
        ascending = both.ascending;
        each = λ t h. ⊎_elim
            (λ first. names-in-range sites value (shown-here sites here sound item (all-head (λ n. IsTrue (is_home here.setup.catalog here.me n)) item items homes)).each t (listed-names value t first))
            (λ behind. rest.each t behind)
            (both.only t h);
      }

  asks-safe : (running : Running) → All (IsSentInRange sites here) (ask_sends (ungranted running (named_here here)))
  unfolding named_here
  asks-safe running =
      let named = names_shown here.setup.catalog here.records (items_here here) in
      let all = names-safe (items_here here) (all-from (λ n. IsTrue (is_home here.setup.catalog here.me n)) (items_here here) (λ n h. items-home here n h)) in
      All-map (IsSentInRange sites here) (λ (txn : TxnId). record { to = txn.site.0; message = ask txn }) (ungranted running named)
      (all-from (λ (txn : TxnId). IsSentInRange sites here (record { to = txn.site.0; message = ask txn })) (ungranted running named)
      (λ txn h.
      let is = all.each txn (kept-listed (λ txn. is_none (grant_of running txn)) named txn h) in
      record { from = me-in-range sites here sound; to = is.site; txn = is; body = tt }))

  older-entries-safe : All (IsEntryInRange sites here.setup.catalog) (older_entries here.running.entries)
  older-entries-safe =
      All-map (IsEntryInRange sites here.setup.catalog) (λ (entry : Entry). record entry { age = entry.age + 1 }) here.running.entries
      (all-from (λ (entry : Entry). IsEntryInRange sites here.setup.catalog (record entry { age = entry.age + 1 })) here.running.entries
      (λ entry h.
      let is = All-contains (IsEntryInRange sites here.setup.catalog) here.running.entries entry sound.running.entries h in
      record { txn = is.txn; program = is.program; taken = is.taken }))

  older-grants-safe : All IsHeld (older_grants here.running.grants)
  older-grants-safe =
      All-map IsHeld (λ (grant : Grant). record grant { age = grant.age + 1 }) here.running.grants
      (all-from (λ (grant : Grant). IsHeld (record grant { age = grant.age + 1 })) here.running.grants
      (λ grant h.
      let is = All-contains IsHeld here.running.grants grant sound.running.grants h in
      record { txn = is.txn; id = is.id; wants = is.wants; homes = is.homes }))

  expiry-safe : All (IsSentInRange sites here) (expiry_sends here (expired_entries (older_entries here.running.entries)))
  expiry-safe =
      let refusals = expired_entries (older_entries here.running.entries) in
      let all = All-filter (λ (entry : Entry). not (nat_lt entry.age TICKS)) (IsEntryInRange sites here.setup.catalog) (older_entries here.running.entries) older-entries-safe in
      all-flat (IsSentInRange sites here) (λ (entry : Entry). outcome_sends entry.txn false (participants here entry)) refusals
      (λ entry h.
      let is = All-contains (IsEntryInRange sites here.setup.catalog) refusals entry all h in
      outcome-in-range sites here sound entry.txn is.txn false (participants here entry) (participant-small entry is))

  tick-safe : IsSafe sites here (on_tick here)
  unfolding on_tick
  tick-safe = record {
    sends = All-append (IsSentInRange sites here) (expiry_sends here (expired_entries (older_entries here.running.entries)))
        (ask_sends (ungranted (older here.running) (named_here here))) expiry-safe (asks-safe (older here.running));
    appended = tt;
    running = record {
      epoch = sound.running.epoch;
      next_txn = sound.running.next_txn;
      next_grant = sound.running.next_grant;
      grants = All-filter (λ (grant : Grant). nat_lt grant.age TICKS) IsHeld (older_grants here.running.grants) older-grants-safe;
      entries = All-filter (λ (entry : Entry). nat_lt entry.age TICKS) (IsEntryInRange sites here.setup.catalog) (older_entries here.running.entries) older-entries-safe;
    };
  }

  -- Every input.

  message-safe : (from : ℕ) (message : Message) → IsEnvelopeWithin sites (record { from = from; to = here.me; message = message }) → IsSafe sites here (on_message here from message)
  message-safe from (lock txn wants) is = lock-safe from txn wants is.txn is.body _ (lock-case here from txn wants)
  message-safe from (granted txn grant values) is = granted-safe from txn grant values is.body.0 is.body.1 _ (granted-case here from txn grant values)
  message-safe from (denied txn item holder) is = denied-safe from txn item holder _ (denied-case here from txn item holder)
  message-safe from (prepare txn grant writes) is =
      prepare-safe from txn grant writes is.txn is.body.1 (λ of small. length-short sites here sound of writes is.body.1) _ (prepare-case here from txn grant writes)
  message-safe from (vote_yes txn) is = yes-safe from txn _ (yes-case here from txn)
  message-safe from (vote_no txn cause) is = no-safe from txn cause _ (no-case here from txn cause)
  message-safe from (outcome_reported txn commits) is = outcome-safe from txn commits is.txn _ (outcome-case here from txn commits)
  message-safe from (ask txn) is = ask-safe from txn is.from is.txn _ (ask-case here from txn)

  pub safe : (input : Input) → IsInputInRange sites here input → IsSafe sites here (step_on here input)
  safe (submit program) can = submit-safe program can _ (submit-case here program)
  safe (receive from message) is = message-safe from message is
  safe tick is = tick-safe

  -- The records are in range, with one more that is.
  pub all-records : (more : Option Record) → OfSome (IsRecordWithin sites) more → All (IsRecordWithin sites) (here.records ++ option_to_list more)
  all-records None is = All-append (IsRecordWithin sites) here.records [] sound.records (All-nil (IsRecordWithin sites))
  all-records (Some more) is = All-append (IsRecordWithin sites) here.records (more ∷ []) sound.records (All-cons (IsRecordWithin sites) more [] is (All-nil (IsRecordWithin sites)))
