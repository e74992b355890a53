-- The life of outboxes is a run of the law, one event for each act.
use Rattle.std.proofs.Common.{◌≡◌, ◌⊎◌, inl, inr, ℕ, Bool, true, false, Option, Some, None, Result, Ok, Err, List, [], ◌∷◌, ◌++◌, refl, sym, ap, subst, ◌∙◌, arith}
use Rattle.std.proofs.lemmas.Bool.{true≢false}
use Rattle.pv_disk_model.specs.Log.{Keeps}
use Rattle.pv_disk_model.specs.LogModel.{LogModel}
use Rattle.pv_disk_model.specs.Size.{Contents}
use Rattle.pv_disk_model.proofs.LogLemmas.{Keeps-refl, settled_since}
use Rattle.pv_law_outbox.specs.Ready.{NoneReady}
use Rattle.pv_law_outbox.specs.Runs as law
use Rattle.pv_law_outbox.specs.Runs.{Event, holds, holds_already, learns, knows_already, releases, has_none, passes, MayWrite, IsWritten, Happens, Run}
use Rattle.pv_law_outbox.specs.State.{Record, held, learnt, taken, State, is_held, outcome_of, state_of}
use Rattle.pv_outbox.specs.Calls.{Writes, Breaks, Stays}
use Rattle.pv_outbox.specs.Life.{Call, hold, learn, take, Act, answers, cuts, stops, opens, stays_closed, Place, running, closed, IsDown, Does, IsThere, log_after, Goes, Returns, Life, IsAt, IsOf, IsAnswer, IsEvent, AreEvents}
use Rattle.pv_outbox.specs.Opens.{Opens, HasOpened}
use Rattle.pv_outbox.specs.OutboxState.{OutboxState, IsUsable, StandsFor}
use Rattle.pv_outbox.specs.Spelling.{SpellsRecord, SpellRecords}
use Rattle.pv_outbox.specs.declared.error.BoxError.TheVariants.{Again, Known, Failed, Down, Full, NoMemory}
use Rattle.pv_outbox.specs.declared.error.OpenOutbox.{OpenOutbox}
use Rattle.pv_outbox.specs.declared.error.OpenOutbox.TheVariants as refused
use Rattle.pv_outbox.proofs.OneRecordLemmas.{same-records}
use Rattle.pv_outbox.proofs.StandsLemmas.{spelled-more, stands-written, stands-still}

-- the event of a call that has written this record
abbrev done : Record → Event
done (held output when) = holds output when
done (learnt txn commits) = learns txn commits
done (taken output) = releases output

-- the records where a log failed at one more
abbrev ended : List Record → Record → Bool → List Record
ended entries entry true = entries ++ entry ∷ []
ended entries entry false = entries

done-happens : (entries : List Record) (entry : Record) → MayWrite (state_of entries) entry → Happens entries (done entry) (entries ++ entry ∷ [])
done-happens entries (held output when) may = record { may = may; written = refl }
done-happens entries (learnt txn commits) may = record { may = may; written = refl }
done-happens entries (taken output) may = record { may = may; written = refl }

broken-happens : (entries : List Record) (entry : Record) (written : Bool) → MayWrite (state_of entries) entry
    → Happens entries (law.breaks entry written) (ended entries entry written)
broken-happens entries entry true may = record { may = may; written = refl }
broken-happens entries entry false may = (may, refl)

down-passes : (call : Call) → IsDown call → IsAnswer call passes
down-passes (hold output when answer) is = subst (λ a. IsAnswer (hold output when a) passes) (sym is) refl
down-passes (learn txn commits answer) is = subst (λ a. IsAnswer (learn txn commits a) passes) (sym is) refl
down-passes (take answer) is = subst (λ a. IsAnswer (take a) passes) (sym is) refl

module _ {W : Type 0} (M : LogModel W) where
  -- What a call of an outbox that is up comes to, as the law sees it.
  data Comes (old new : OutboxState W) (call : Call) : Type 0 where
    has_written : (entry : Record) → IsOf call entry → MayWrite old.state entry → Writes M old new entry → IsAnswer call (done entry) → Comes old new call
    has_broken : (entry : Record) → IsOf call entry → MayWrite old.state entry → Breaks M old new entry
        → ((written : Bool) → IsAnswer call (law.breaks entry written)) → Comes old new call
    has_stayed : (event : Event) → Stays M old new → ((entries : List Record) → old.state ≡ state_of entries → Happens entries event entries)
        → IsAnswer call event → Comes old new call

  module _ (old new : OutboxState W) (usable : IsUsable M old) (up : old.is_down ≡ false) where
    same-stays : new ≡ old → Stays M old new
    same-stays same = subst (λ (outbox : OutboxState W). Stays M old outbox) (sym same) (record {
      outbox = refl;
      up = record { was_up = usable.up up; is_up = usable.up up; faults = refl };
      log = Keeps-refl M old.log;
      asked = inl refl;
    })

    comes : (call : Call) → Does M old new call → Comes old new call
    comes (hold output when (Ok x)) does = has_written (held output when) refl does.0 does.1 refl
    comes (hold output when (Err Again)) does =
        has_stayed (holds_already output) (same-stays does.1) (λ entries is. (ap (λ (state : State). is_held state output) (sym is) ∙ does.0, refl)) refl
    comes (hold output when (Err (Known outcome))) does = absurd does.1
    comes (hold output when (Err Failed)) does = has_broken (held output when) refl does.0 does.1 (λ written. (held output when, written, refl, refl))
    comes (hold output when (Err Down)) does = absurd does.1
    comes (hold output when (Err (Full with_it))) does = has_stayed passes (same-stays does.1.outbox) (λ entries is. refl) refl
    comes (hold output when (Err NoMemory)) does = has_stayed passes does.1 (λ entries is. refl) refl
    comes (learn txn commits (Ok x)) does = has_written (learnt txn commits) refl does.0 does.1 refl
    comes (learn txn commits (Err Again)) does = absurd does.1
    comes (learn txn commits (Err (Known outcome))) does =
        has_stayed (knows_already txn outcome) (same-stays does.1) (λ entries is. (ap (λ (state : State). outcome_of state txn) (sym is) ∙ does.0, refl)) refl
    comes (learn txn commits (Err Failed)) does = has_broken (learnt txn commits) refl does.0 does.1 (λ written. (learnt txn commits, written, refl, refl))
    comes (learn txn commits (Err Down)) does = absurd does.1
    comes (learn txn commits (Err (Full with_it))) does = has_stayed passes (same-stays does.1.outbox) (λ entries is. refl) refl
    comes (learn txn commits (Err NoMemory)) does = has_stayed passes does.1 (λ entries is. refl) refl
    comes (take (Ok None)) does =
        has_stayed has_none (same-stays does.1) (λ entries is. (subst (λ (state : State). NoneReady state state.held) is does.0, refl)) refl
    comes (take (Ok (Some output))) does = has_written (taken output) (output, refl) does.0 does.1 refl
    comes (take (Err Again)) does = absurd does.2
    comes (take (Err (Known outcome))) does = absurd does.2
    comes (take (Err Failed)) does = has_broken (taken does.0) (does.0, refl) does.1 does.2 (λ written. (taken does.0, written, (does.0, refl), refl))
    comes (take (Err Down)) does = absurd does.2
    comes (take (Err (Full with_it))) does = has_stayed passes (same-stays does.2.outbox) (λ entries is. refl) refl
    comes (take (Err NoMemory)) does = has_stayed passes does.2 (λ entries is. refl) refl

  -- An outbox that is up, on a log of which it is known what it holds.
  pub record IsUp (outbox : OutboxState W) (entries : List Record) (contents : Contents) : Type 0 where
    pub stands : StandsFor M outbox entries contents
    pub known : M.contents outbox.log ≡ Some contents

  -- An outbox that is down, since its log failed at one record more.
  pub record IsTorn (outbox : OutboxState W) (entries : List Record) (entry : Record) (contents : Contents) (bytes : List ℕ) : Type 0 where
    pub down : outbox.is_down ≡ true
    pub spelled : SpellRecords entries contents
    pub one : SpellsRecord entry bytes
    pub may : MayWrite (state_of entries) entry
    pub left : (left : Option Contents) → M.may_leave outbox.log left → (left ≡ Some contents) ⊎ (left ≡ Some (contents ++ bytes ∷ []))

  -- The acts are a run of the law from these records.
  pub record IsRun (entries : List Record) (acts : List Act) (end : Place W) : Type 0 where
    pub events : List Event
    pub records : List Record
    pub run : Run entries events records
    pub are : AreEvents acts events
    pub there : IsAt M end records

  -- The acts, from each place.
  pub record Continues (acts : List Act) (end : Place W) : Type 0 where
    pub from_up : (outbox : OutboxState W) (entries : List Record) (contents : Contents) → IsUp outbox entries contents
        → Life M (running outbox) acts end → IsRun entries acts end
    pub from_torn : (outbox : OutboxState W) (entries : List Record) (entry : Record) (contents : Contents) (bytes : List ℕ)
        → IsTorn outbox entries entry contents bytes → Life M (running outbox) acts end → (written : Bool) × IsRun (ended entries entry written) acts end
    pub from_left : (left : Option Contents) (entries : List Record) (contents : Contents) → left ≡ Some contents → SpellRecords entries contents
        → Life M (closed left) acts end → IsRun entries acts end

  continues-nil : (end : Place W) → Continues [] end
  continues-nil end = record {
    from_up = λ outbox entries contents up life. record {
      events = [];
      records = entries;
      run = refl;
      are = tt;
      there = subst (λ (place : Place W). IsAt M place entries) (sym life) (λ is_up. (contents, up.stands, up.known));
    };
    from_torn = λ outbox entries entry contents bytes torn life. (
      false,
      record {
        events = [];
        records = entries;
        run = refl;
        are = tt;
        there = subst (λ (place : Place W). IsAt M place entries) (sym life) (λ is_up. absurd (true≢false (sym torn.down ∙ is_up)));
      },
    );
    from_left = λ left entries contents is spelled life. record {
      events = [];
      records = entries;
      run = refl;
      are = tt;
      there = subst (λ (place : Place W). IsAt M place entries) (sym life) (contents, spelled, is);
    };
  }

  module _ (acts : List Act) (end : Place W) (rest : Continues acts end) where
    -- One event before those of the rest.
    first-then : (act : Act) (old : List Record) (event : Event) (mid : List Record) → Happens old event mid → IsEvent act event → IsRun mid acts end
        → IsRun old (act ∷ acts) end
    first-then act old event mid happens is run = record {
      events = event ∷ run.events;
      records = run.records;
      run = (mid, happens, run.run);
      are = (is, run.are);
      there = run.there;
    }

    -- A record was to be written as the process stopped.
    cut-short : (call : Call) (entries : List Record) (entry : Record) (contents : Contents) (bytes : List ℕ) (left : Option Contents) → IsOf call entry
        → MayWrite (state_of entries) entry → SpellRecords entries contents → SpellsRecord entry bytes
        → (left ≡ Some contents) ⊎ (left ≡ Some (contents ++ bytes ∷ [])) → Life M (closed left) acts end → IsRun entries (cuts call ∷ acts) end
    cut-short call entries entry contents bytes left its may spelled one (inl is) life =
        first-then (cuts call) entries (law.breaks entry false) entries (broken-happens entries entry false may) (inr (entry, false, its, refl))
        (rest.from_left left entries contents is spelled life)
    cut-short call entries entry contents bytes left its may spelled one (inr is) life =
        first-then (cuts call) entries (law.breaks entry true) (entries ++ entry ∷ []) (broken-happens entries entry true may) (inr (entry, true, its, refl))
        (rest.from_left left (entries ++ entry ∷ []) (contents ++ bytes ∷ []) is (spelled-more entries contents entry bytes spelled one) life)

    -- From an outbox that is up.
    module _ (outbox : OutboxState W) (entries : List Record) (contents : Contents) (up : IsUp outbox entries contents) where
      may-still : (entry : Record) → MayWrite outbox.state entry → MayWrite (state_of entries) entry
      may-still entry may = subst (λ (state : State). MayWrite state entry) up.stands.state may

      answered-up : (call : Call) (new : OutboxState W) → Comes outbox new call → Life M (running new) acts end → IsRun entries (answers call ∷ acts) end
      answered-up call new (has_written entry its may writes is) life =
          first-then (answers call) entries (done entry) (entries ++ entry ∷ []) (done-happens entries entry (may-still entry may)) is
          (rest.from_up new (entries ++ entry ∷ []) (contents ++ writes.bytes ∷ [])
          (record { stands = stands-written M outbox new entries contents up.stands entry writes; known = writes.log.contents contents up.known }) life)
      answered-up call new (has_broken entry its may breaks is) life =
          let leaves = breaks.log.any_moment contents up.known in
          let torn : IsTorn new entries entry contents breaks.bytes = record {
            down = ap (λ (o : OutboxState W). o.is_down) breaks.outbox;
            spelled = up.stands.spelled;
            one = breaks.spelled;
            may = may-still entry may;
            left = λ left is_left. leaves.each left (M.counts_now new.log (M.moment outbox.log) left leaves.later is_left);
          } in
          let run = rest.from_torn new entries entry contents breaks.bytes torn life in
          first-then (answers call) entries (law.breaks entry run.0) (ended entries entry run.0) (broken-happens entries entry run.0 (may-still entry may)) (is run.0) run.1
      answered-up call new (has_stayed event stays happens is) life =
          first-then (answers call) entries event entries (happens entries up.stands.state) is
          (rest.from_up new entries contents
          (record { stands = stands-still M outbox new entries contents up.stands stays; known = stays.log.contents ∙ up.known }) life)

      cut-up : (call : Call) (new : OutboxState W) (left : Option Contents) → IsUsable M outbox → Comes outbox new call
          → M.left_since new.log (M.moment outbox.log) left → Life M (closed left) acts end → IsRun entries (cuts call ∷ acts) end
      cut-up call new left usable (has_written entry its may writes is) since life =
          cut-short call entries entry contents writes.bytes left its (may-still entry may) up.stands.spelled writes.spelled
          ((writes.log.any_moment contents up.known).each left since) life
      cut-up call new left usable (has_broken entry its may breaks is) since life =
          cut-short call entries entry contents breaks.bytes left its (may-still entry may) up.stands.spelled breaks.spelled
          ((breaks.log.any_moment contents up.known).each left since) life
      cut-up call new left usable (has_stayed event stays happens is) since life =
          let left_is = settled_since M outbox.log contents left usable.intact up.known
          (stays.log.crash (M.moment outbox.log) left (omega arith) since) (usable.up up.stands.up) in
          first-then (cuts call) entries passes entries refl (inl refl) (rest.from_left left entries contents left_is up.stands.spelled life)

      act-up : (act : Act) (mid : Place W) → Goes M outbox act mid → Life M mid acts end → IsRun entries (act ∷ acts) end
      act-up (answers call) (running new) called life =
          answered-up call new (comes outbox new called.usable up.stands.up call (called.does up.stands.up)) life
      act-up (answers call) (closed left) goes life = absurd goes
      act-up (cuts call) (running new) goes life = absurd goes
      act-up (cuts call) (closed left) goes life =
          cut-up call goes.0 left goes.1.usable (comes outbox goes.0 goes.1.usable up.stands.up call (goes.1.does up.stands.up)) goes.2 life
      act-up stops (running new) goes life = absurd goes
      act-up stops (closed left) goes life =
          first-then stops entries passes entries refl refl
          (rest.from_left left entries contents (M.settled outbox.log contents left goes.0.intact (goes.0.up up.stands.up) up.known goes.1) up.stands.spelled life)
      act-up opens (running new) goes life = absurd goes
      act-up opens (closed left) goes life = absurd goes
      act-up stays_closed (running new) goes life = absurd goes
      act-up stays_closed (closed left) goes life = absurd goes

    -- From one that is down.
    module _ (outbox : OutboxState W) (entries : List Record) (entry : Record) (contents : Contents) (bytes : List ℕ)
        (torn : IsTorn outbox entries entry contents bytes) where
      stopped-torn : (act : Act) (left : Option Contents) → IsEvent act passes → (left ≡ Some contents) ⊎ (left ≡ Some (contents ++ bytes ∷ []))
          → Life M (closed left) acts end → (written : Bool) × IsRun (ended entries entry written) (act ∷ acts) end
      stopped-torn act left is (inl before) life =
          (false, first-then act entries passes entries refl is (rest.from_left left entries contents before torn.spelled life))
      stopped-torn act left is (inr after) life = (
        true,
        first-then act (entries ++ entry ∷ []) passes (entries ++ entry ∷ []) refl is
            (rest.from_left left (entries ++ entry ∷ []) (contents ++ bytes ∷ []) after (spelled-more entries contents entry bytes torn.spelled torn.one) life),
      )

      act-torn : (act : Act) (mid : Place W) → Goes M outbox act mid → Life M mid acts end
          → (written : Bool) × IsRun (ended entries entry written) (act ∷ acts) end
      act-torn (answers call) (running new) called life =
          let down = called.down torn.down in
          let run = rest.from_torn new entries entry contents bytes
          (subst (λ (o : OutboxState W). IsTorn o entries entry contents bytes) (sym down.1) torn) life in
          (run.0, first-then (answers call) (ended entries entry run.0) passes (ended entries entry run.0) refl (down-passes call down.0) run.1)
      act-torn (answers call) (closed left) goes life = absurd goes
      act-torn (cuts call) (running new) goes life = absurd goes
      act-torn (cuts call) (closed left) goes life =
          let since = subst (λ (o : OutboxState W). M.left_since o.log (M.moment outbox.log) left) (goes.1.down torn.down).1 goes.2 in
          stopped-torn (cuts call) left (inl refl) (torn.left left (M.only_now outbox.log left since)) life
      act-torn stops (running new) goes life = absurd goes
      act-torn stops (closed left) goes life = stopped-torn stops left refl (torn.left left goes.1) life
      act-torn opens (running new) goes life = absurd goes
      act-torn opens (closed left) goes life = absurd goes
      act-torn stays_closed (running new) goes life = absurd goes
      act-torn stays_closed (closed left) goes life = absurd goes

    -- From what a stop left.
    module _ (left : Option Contents) (entries : List Record) (contents : Contents) (is : left ≡ Some contents) (spelled : SpellRecords entries contents) where
      opened-up : (log : W) (outbox : OutboxState W) → IsThere M log left → HasOpened M log outbox → IsUp outbox entries contents
      opened-up log outbox there opened =
          let same = opened.read.held contents (there.contents ∙ is) in
          let found = subst (SpellRecords opened.entries) same opened.stands.spelled in
          record {
            stands = subst (λ (e : List Record). StandsFor M outbox e contents) (same-records opened.entries entries contents found spelled)
                (subst (λ (c : Contents). StandsFor M outbox opened.entries c) same opened.stands);
            known = opened.log.contents ∙ there.contents ∙ is;
          }

      opening-keeps : (log : W) (answer : Result (OutboxState W) (OpenOutbox W)) → Opens M log answer → Keeps M log (log_after answer)
      opening-keeps log (Ok outbox) done_so = done_so.log
      opening-keeps log (Err (refused.Failed after)) done_so = done_so.1
      opening-keeps log (Err (refused.BadRecord after index)) done_so = done_so.1
      opening-keeps log (Err (refused.NotOurs after place)) done_so = done_so.1
      opening-keeps log (Err (refused.NoMemory after)) done_so = done_so.1

      act-left : (act : Act) (mid : Place W) → Returns M left act mid → Life M mid acts end → IsRun entries (act ∷ acts) end
      act-left opens (running outbox) returns life =
          first-then opens entries passes entries refl refl (rest.from_up outbox entries contents (opened-up returns.0 outbox returns.1 returns.2) life)
      act-left opens (closed next) returns life = absurd returns
      act-left stays_closed (running outbox) returns life = absurd returns
      act-left stays_closed (closed next) returns life =
          let log = returns.0 in
          let since = (opening-keeps log returns.1 returns.3).crash (M.moment log) next (omega arith) returns.4 in
          let next_is = settled_since M log contents next returns.2.intact (returns.2.contents ∙ is) since returns.2.up in
          first-then stays_closed entries passes entries refl refl (rest.from_left next entries contents next_is spelled life)
      act-left (answers call) (running outbox) returns life = absurd returns
      act-left (answers call) (closed next) returns life = absurd returns
      act-left (cuts call) (running outbox) returns life = absurd returns
      act-left (cuts call) (closed next) returns life = absurd returns
      act-left stops (running outbox) returns life = absurd returns
      act-left stops (closed next) returns life = absurd returns

    continues-cons : (act : Act) → Continues (act ∷ acts) end
    continues-cons act = record {
      from_up = λ outbox entries contents up life. act-up outbox entries contents up act life.0 life.1 life.2;
      from_torn = λ outbox entries entry contents bytes torn life. act-torn outbox entries entry contents bytes torn act life.0 life.1 life.2;
      from_left = λ left entries contents is spelled life. act-left left entries contents is spelled act life.0 life.1 life.2;
    }

  pub continues : (acts : List Act) (end : Place W) → Continues acts end
  continues [] end = continues-nil end
  continues (act ∷ acts) end = continues-cons acts end (continues acts end) act
