-- What an event does, wherever it stops a site, is some acts.
use Rattle.std.proofs.Common.{◌≡◌, ℕ, ◌+◌, ◌<◌, Bool, true, false, Some, None, Option, List, [], ◌∷◌, ◌++◌, length, refl, sym, ap, subst, ◌∙◌}
use Rattle.std.specs.Prelude.{◌&&◌, nat_lt, slice_get, option_to_list, if◌then◌else◌, ⊤}
use Rattle.std.specs.List.{Contains}
use Rattle.std.proofs.lemmas.List.{append-nil, append_assoc, length-set, length-map, length-replicate}
use Rattle.std.proofs.lemmas.Option.{none-some, slice_get_within, get_or_from_slice_get}
use Rattle.pv_base.proofs.ContainsLemmas.{Contains-first, Contains-behind, Contains-nil}
use Rattle.pv_base.proofs.MapLemmas.{Contains-unmap}
use Rattle.pv_format.specs.Checkpoint.{Standing, greatest_number}
use Rattle.pv_format.specs.Contents.{greatest_epoch}
use Rattle.pv_format.specs.Message.{Message, lock, granted, denied, prepare, vote_yes, vote_no, outcome_reported, ask, Envelope}
use Rattle.pv_format.specs.Record.{Record, epoch_begun}
use Rattle.pv_law_acts.proofs.ListLemmas.{listed-before}
use Rattle.pv_law_acts.specs.Acts as acts
use Rattle.pv_law_acts.specs.Acts.{with_content, recorded, HasNoMore, HasNothingNew, Act, Acts, no_act, one_more}
use Rattle.pv_law_acts.specs.Guards.{MaySend}
use Rattle.pv_law_acts.specs.Seen.{records_at, memory_at, Sent}
use Rattle.pv_law_events.proofs.LockActs.{on-submit-acts, on-lock-acts, on-granted-acts, on-denied-acts}
use Rattle.pv_law_events.proofs.OutcomeActs.{on-outcome-acts, on-ask-acts, on-tick-acts}
use Rattle.pv_law_events.proofs.StepActs.{IsReady, here_at, IsActs, one-act, then-down}
use Rattle.pv_law_events.proofs.VoteActs.{on-prepare-acts, on-yes-acts, on-no-acts}
use Rattle.pv_law_events.proofs.WorldLemmas.{no-more-itself, nothing-new, At, own-site}
use Rattle.pv_law_outcomes.proofs.DecidedLemmas.{IsSettled}
use Rattle.pv_law_outcomes.proofs.OutcomeLemmas.{settled-after}
use Rattle.pv_law_step.proofs.StartLemmas.{start-case}
use Rattle.pv_law_step.proofs.StepCases.{if_case}
use Rattle.pv_law_step.specs.StartCases as of_starts
use Rattle.pv_law_step.specs.StartCases.{StartCase}
use Rattle.pv_law_world.proofs.DisarmLemmas.{site-disarmed}
use Rattle.pv_law_world.proofs.EventView.{by-beginning, asked-runs}
use Rattle.pv_law_world.specs.EventView.{Beginning, begun_by, IsAsked, IsGuarded}
use Rattle.pv_law_world.specs.Sites.{AreEpochsRecorded, AreMemoriesInOrder}
use Rattle.pv_model.specs.Events.{Event}
use Rattle.pv_protocol.specs.Anywhere as anywhere
use Rattle.pv_protocol.specs.Anywhere.{MayEnd, MayCome, MayFollow, disarmed_site, disarmed}
use Rattle.pv_protocol.specs.Arms.{Reached, waits, fires, reached, calls_of, is_kept, standing_made, standing_left, completed, broken, attempted}
use Rattle.pv_protocol.specs.Attempt.{Attempt, Begun, at_once, attempts, begun, given, delivered, lost, halted, opened, packed, of_step, refused_start, of_start, of_checkpoint}
use Rattle.pv_protocol.specs.Lines.{Line}
use Rattle.pv_protocol.specs.Start.{Started, starts, just_started, site_start}
use Rattle.pv_protocol.specs.State.{Setup, Running, Site, Arm, Input, submit, receive, tick, Outgoing, Placed, Step}
use Rattle.pv_protocol.specs.Step.{on_message, step_on, site_step}
use Rattle.pv_protocol.specs.WellFormed.{CanRun, IsWellFormed}
use Rattle.pv_protocol.specs.World.{World, first_site, site_at, with_site, with_done, from_site, opening}
use Rattle.pv_protocol.specs.WorldStep.{Transition, ended, transition_of}

module _ (setup : Setup) where
  -- Acts one after another.
  pub then-acts : (w v u : World) → Acts setup w v → Acts setup v u → Acts setup w u
  then-acts w v u first (no_act world) = first
  then-acts w v u first (one_more start next after before act) = one_more w next after (then-acts w start next first before) act

  -- The count of the sites stays.

  act-count : (w v : World) → Act setup w v → length v.sites ≡ length w.sites
  act-count w v (acts.begins n running program may) = length-set w.sites n _
  act-count w v (acts.grants n running txn wants may) = length-set w.sites n _
  act-count w v (acts.takes n running txn entry taken work may) = length-set w.sites n _
  act-count w v (acts.places n running txn entry work may) = length-set w.sites n _
  act-count w v (acts.counts n running txn entry from work may) = length-set w.sites n _
  act-count w v (acts.promises n running txn id wants writes up may) = length-set w.sites n _
  act-count w v (acts.commits n running txn entry work may) = length-set w.sites n _
  act-count w v (acts.learns n running txn outcome up may) = length-set w.sites n _
  act-count w v (acts.starts n may) = length-set w.sites n _
  act-count w v (acts.goes_down n) = length-set w.sites n _
  act-count w v (acts.sends envelope may) = refl
  act-count w v (acts.forgets other nothing) = sym nothing.count

  acts-count : (w v : World) → Acts setup w v → length v.sites ≡ length w.sites
  acts-count w v (no_act world) = refl
  acts-count w v (one_more start next after before act) = act-count next after act ∙ acts-count start next before

  -- Messages are sent one after another.

  may-still : (w : World) (envelope : Envelope) (from to : ℕ) (message : Message) → MaySend setup w from to message
      → MaySend setup (record w { sent = w.sent ++ envelope ∷ [] }) from to message
  may-still w envelope from to (lock txn wants) may = record { entry = may.entry; works = may.works; participant = may.participant; wanted = may.wanted }
  may-still w envelope from to (granted txn id values) may =
      record { wants = may.wants; holds = may.holds; home = may.home; unprepared = may.unprepared; shown_now = may.shown_now }
  may-still w envelope from to (denied txn item holder) may =
      record { wants = may.wants; asked = listed-before w.sent envelope _ may.asked; home = may.home; other = may.other }
  may-still w envelope from to (prepare txn id writes) may = record {
    entry = may.entry;
    works = may.works;
    asks = may.asks;
    participant = may.participant;
    reads = may.reads;
    taken = may.taken;
    computed = may.computed;
  }
  may-still w envelope from to (vote_yes txn) may = record { prepared = may.prepared; home = may.home }
  may-still w envelope from to (vote_no txn cause) may = record { id = may.id; writes = may.writes; asked = listed-before w.sent envelope _ may.asked; home = may.home }
  may-still w envelope from to (outcome_reported txn true) may = record { home = may.home; outcome = may.outcome }
  may-still w envelope from to (outcome_reported txn false) may =
      record { home = may.home; outcome = record { passed = may.outcome.passed; idle = may.outcome.idle; uncommitted = may.outcome.uncommitted } }
  may-still w envelope from to (ask txn) may = tt

  send-acts : (more : List Envelope) (w : World) → ((e : Envelope) → Contains more e → MaySend setup w e.from e.to e.message) → Acts setup w (record w { sent = w.sent ++ more })
  send-acts [] w may = subst (λ (sent : List Envelope). Acts setup w (record w { sent = sent })) (sym (append-nil w.sent)) (no_act w)
  send-acts (envelope ∷ more) w may =
      let v : World = record w { sent = w.sent ++ envelope ∷ [] } in
      subst (λ (sent : List Envelope). Acts setup w (record w { sent = sent })) (append_assoc w.sent (envelope ∷ []) more)
      (then-acts w v (record v { sent = v.sent ++ more })
      (one_more w w v (no_act w) (acts.sends envelope (may envelope (Contains-first envelope more))))
      (send-acts more v (λ e h. may-still w envelope e.from e.to e.message (may e (Contains-behind envelope more e h)))))

  -- What a site attempts is some acts: where all of it is written, and where it stops with its record.
  pub record IsAttemptActs (w : World) (n : ℕ) (attempt : Attempt) : Type 0 where
    pub whole : (arm : Option Arm) → Acts setup w (completed w n attempt arm)
    pub with_record : (appended : Record) → attempt.appended ≡ Some appended → (standing : Standing) → Acts setup w (broken w n (Some appended) standing)

  module _ (w : World) (n : ℕ) where
    -- Where a site goes down in a step without its record.
    pub broken-acts : (standing : Standing) → Acts setup w (broken w n None standing)
    broken-acts standing =
        one_more w (with_content w n (records_at w n) None) (broken w n None standing) (one-act setup w n (with_content w n (records_at w n) None) (acts.goes_down n))
        (acts.forgets (broken w n None standing)
        (nothing-new w.sites n (record (site_at w n) { running = None }) (record { records = records_at w n ++ []; standing = standing; arm = None; running = None }) w.sent w.fresh w.fresh w.order
        (sym (append-nil (records_at w n))) (no-more-itself None)))

    -- to where it is down with these records
    down-acts : (records : List Record) (left : Option Record) → Acts setup w (At w n records None w.order) → records ≡ records_at w n ++ option_to_list left
        → (standing : Standing) → Acts setup w (broken w n left standing)
    down-acts records left so_far is standing =
        one_more w (At w n records None w.order) (broken w n left standing) so_far
        (acts.forgets (broken w n left standing)
        (nothing-new w.sites n (record (site_at w n) { records = records; running = None }) (record { records = records_at w n ++ option_to_list left; standing = standing; arm = None; running = None }) w.sent w.fresh w.fresh w.order
        is (no-more-itself None)))

    -- to where all of an attempt is written
    complete-acts : (attempt : Attempt) (records : List Record) (order : List Placed) (arm : Option Arm) → Acts setup w (At w n records attempt.running order)
        → records ≡ records_at w n ++ option_to_list attempt.appended → order ≡ w.order ++ option_to_list attempt.placed
        → ((sent : Outgoing) → Contains attempt.sends sent → MaySend setup (At w n records attempt.running order) n sent.to sent.message)
        → Acts setup w (completed w n attempt arm)
    complete-acts attempt records order arm so_far appends places may =
        let u : World = At w n records attempt.running order in
        let sends : List Envelope = from_site n attempt.sends in
        let sent_all : Acts setup u (record u { sent = u.sent ++ sends }) =
        send-acts sends u (λ e h.
        let which = Contains-unmap (λ (o : Outgoing). record { from = n; to = o.to; message = o.message }) attempt.sends e h in
        subst (λ (x : Envelope). MaySend setup u x.from x.to x.message) which.1.1 (may which.0 which.1.0)) in
        let last : World = completed w n attempt arm in
        one_more w (record u { sent = u.sent ++ sends }) last (then-acts w u (record u { sent = u.sent ++ sends }) so_far sent_all)
        (acts.forgets last
        (subst (λ (o : List Placed). HasNothingNew (record u { sent = u.sent ++ sends; order = o }) last) (sym places)
        (nothing-new w.sites n (record (site_at w n) { records = records; running = attempt.running })
        (record { records = records_at w n ++ option_to_list attempt.appended; standing = standing_made attempt.packs (site_at w n).standing; arm = arm; running = attempt.running })
        (w.sent ++ sends) w.fresh last.fresh last.order appends (no-more-itself attempt.running))))

    pub step-acts : (step : Step) → IsActs setup w n step → IsAttemptActs w n (of_step n step)
    step-acts step is = record {
      whole = λ arm. complete-acts (of_step n step) is.records is.order arm is.acts is.appends is.places is.sends;
      with_record = λ appended same. down-acts is.records (Some appended) (is.stops appended same)
          (is.appends ∙ ap (λ (left : Option Record). records_at w n ++ option_to_list left) same);
    }

    -- a checkpoint, which changes nothing but how the log stands
    pub checkpoint-acts : (standing : Standing) (running : Running) → memory_at w n ≡ Some running → IsAttemptActs w n (of_checkpoint standing running)
    checkpoint-acts standing running up = record {
      whole = λ arm. complete-acts (of_checkpoint standing running) (records_at w n) w.order arm
          (subst (λ memory. Acts setup w (At w n (records_at w n) memory w.order)) up (subst (Acts setup w) (sym (own-site w n)) (no_act w)))
          (sym (append-nil (records_at w n))) (sym (append-nil w.order)) (λ sent h. absurd (Contains-nil sent h));
      with_record = λ appended is. absurd (none-some _ is);
    }

    -- A start.
    module _ (within : n < length w.sites) (down : memory_at w n ≡ None) where
      still : Acts setup w (At w n (records_at w n) None w.order)
      still = subst (λ memory. Acts setup w (At w n (records_at w n) memory w.order)) down (subst (Acts setup w) (sym (own-site w n)) (no_act w))

      no-messages : (v : World) (sent : Outgoing) → Contains [] sent → MaySend setup v n sent.to sent.message
      no-messages v sent h = absurd (Contains-nil sent h)

      refused-acts : (line : Line) → IsAttemptActs w n (refused_start line)
      refused-acts line = record {
        whole = λ arm. complete-acts (refused_start line) (records_at w n) w.order arm still (sym (append-nil (records_at w n))) (sym (append-nil w.order)) (no-messages (At w n (records_at w n) None w.order));
        with_record = λ appended is. absurd (none-some _ is);
      }

      pub start-acts : (started : Started) → StartCase setup 0 (records_at w n) started → IsAttemptActs w n (of_start n started)
      start-acts started (of_starts.no_epoch_left h) = refused-acts _
      start-acts started (of_starts.no_room h i) = refused-acts _
      start-acts started (of_starts.begins h i) =
          let epoch : ℕ = greatest_epoch (records_at w n) + 1 in
          let records : List Record = records_at w n ++ epoch_begun epoch ∷ [] in
          let so_far : Acts setup w (At w n records (Some (just_started epoch)) w.order) =
          one-act setup w n (recorded w n (epoch_begun epoch) (Some (just_started epoch))) (acts.starts n (record { within = within; down = down })) in
          let attempt : Attempt = of_start n (starts (just_started epoch) (epoch_begun epoch)) in
          record {
            whole = λ arm. complete-acts attempt records w.order arm so_far refl (sym (append-nil w.order)) (no-messages (At w n records (Some (just_started epoch)) w.order));
            with_record = λ appended is. down-acts records (Some appended) (then-down setup w n within records (Some (just_started epoch)) w.order so_far)
                (ap (λ (left : Option Record). records_at w n ++ option_to_list left) is);
          }

  -- What an event comes to before any write is some acts.
  pub data IsBegunActs (w : World) : Begun → Type 0 where
    settles : (lines : List Line) (after : World) → Acts setup w after → IsBegunActs w (at_once lines after)
    goes_on : (before : World) (n : ℕ) (attempt : Attempt) → Acts setup w before → IsAttemptActs before n attempt → IsBegunActs w (attempts before n attempt)

  -- What an input needs: a program that can run, or a message that was sent.
  abbrev HasCome : World → ℕ → Input → Type 0
  HasCome w n (submit program) = CanRun setup.catalog program
  HasCome w n (receive from message) = Sent w from n message
  HasCome w n tick = ⊤

  -- What is known of the world in which an event comes.
  pub record IsKnown (w : World) : Type 0 where
    pub reached : Acts setup (opening setup) w
    pub settled : IsSettled setup w
    pub recorded : AreEpochsRecorded w
    pub ordered : AreMemoriesInOrder w

  module _ (w : World) (n : ℕ) (running : Running) (ready : IsReady setup w n running) where
    message-acts : (from : ℕ) (message : Message) → Sent w from n message → IsActs setup w n (on_message (here_at setup w n running) from message)
    message-acts from (lock txn wants) h = on-lock-acts setup w n running ready from txn wants h
    message-acts from (granted txn grant values) h = on-granted-acts setup w n running ready from txn grant values h
    message-acts from (denied txn item holder) h = on-denied-acts setup w n running ready from txn item holder
    message-acts from (prepare txn grant writes) h = on-prepare-acts setup w n running ready from txn grant writes h
    message-acts from (vote_yes txn) h = on-yes-acts setup w n running ready from txn h
    message-acts from (vote_no txn cause) h = on-no-acts setup w n running ready from txn cause
    message-acts from (outcome_reported txn commits) h = on-outcome-acts setup w n running ready from txn commits h
    message-acts from (ask txn) h = on-ask-acts setup w n running ready from txn

    input-acts : (input : Input) → HasCome w n input → IsActs setup w n (step_on (here_at setup w n running) input)
    input-acts (submit program) h = on-submit-acts setup w n running ready program h
    input-acts (receive from message) h = message-acts from message h
    input-acts tick h = on-tick-acts setup w n running ready

  -- a world of other marks
  marks-nothing : (w : World) (fresh : List Bool) → HasNothingNew w (record w { fresh = fresh })
  marks-nothing w fresh = record {
    count = refl;
    records = λ n. refl;
    memories = λ n. no-more-itself (memory_at w n);
    sent = refl;
    order = refl;
  }

  marked-acts : (w : World) (fresh : List Bool) → Acts setup w (record w { fresh = fresh })
  marked-acts w fresh = one_more w w (record w { fresh = fresh }) (no_act w) (acts.forgets (record w { fresh = fresh }) (marks-nothing w fresh))

  module _ (w : World) (known : IsKnown w) where
    -- an input that a site takes, in a world of other marks
    given-acts : (fresh : List Bool) (n : ℕ) (input : Input) → HasCome w n input → (running : Option Running) → memory_at w n ≡ running
        → IsBegunActs w (given setup (record w { fresh = fresh }) n input running)
    given-acts fresh n input come None is = settles _ (record w { fresh = fresh }) (marked-acts w fresh)
    given-acts fresh n input come (Some running) is =
        let v : World = record w { fresh = fresh } in
        let ready : IsReady setup v n running = record {
          up = is;
          settled = settled-after setup w v (marked-acts w fresh) known.settled;
          recorded = known.recorded n running is;
          ordered = known.ordered n running is;
        } in
        goes_on v n (of_step n (site_step setup n (records_at w n) running input)) (marked-acts w fresh)
        (step-acts v n (site_step setup n (records_at w n) running input) (input-acts v n running ready input (come-still input come))) where
          come-still : (i : Input) → HasCome w n i → HasCome (record w { fresh = fresh }) n i
          come-still (submit program) c = c
          come-still (receive from message) c = c
          come-still tick c = c

    sent-there : (number : ℕ) (envelope : Envelope) → slice_get w.sent number ≡ Some envelope → Contains w.sent envelope
    sent-there number envelope is = (number, slice_get_within w.sent number envelope is, get_or_from_slice_get w.sent number envelope envelope is)

    delivered-acts : (number : ℕ) (envelope : Option Envelope) → slice_get w.sent number ≡ envelope → IsBegunActs w (delivered setup w number envelope)
    delivered-acts number None is = settles _ w (no_act w)
    delivered-acts number (Some envelope) is =
        given-acts (with_done w number).fresh envelope.to (receive envelope.from envelope.message) (sent-there number envelope is) (memory_at w envelope.to) refl

    lost-acts : (number : ℕ) (envelope : Option Envelope) → IsBegunActs w (lost w number envelope)
    lost-acts number None = settles _ w (no_act w)
    lost-acts number (Some envelope) = settles _ (with_done w number) (marked-acts w (with_done w number).fresh)

    halted-acts : (n : ℕ) (running : Option Running) → IsBegunActs w (halted w n running)
    halted-acts n None = settles _ w (no_act w)
    halted-acts n (Some running) =
        settles _ (with_site w n (record (site_at w n) { running = None })) (one-act setup w n (with_content w n (records_at w n) None) (acts.goes_down n))

    opened-acts : (n : ℕ) → n < setup.catalog.sites → (running : Option Running) → memory_at w n ≡ running → IsBegunActs w (opened setup w n running)
    opened-acts n within (Some running) is = settles _ w (no_act w)
    opened-acts n within None is =
        let count : length w.sites ≡ setup.catalog.sites = acts-count (opening setup) w known.reached ∙ length-replicate setup.catalog.sites first_site in
        goes_on w n (of_start n (site_start setup 0 (records_at w n))) (no_act w)
        (start-acts w n (subst (λ m. n < m) (sym count) within) is (site_start setup 0 (records_at w n)) (start-case setup 0 (records_at w n)))

    packed-acts : (n : ℕ) (running : Option Running) → memory_at w n ≡ running → IsBegunActs w (packed w n running)
    packed-acts n None is = settles _ w (no_act w)
    packed-acts n (Some running) is =
        let standing : Standing = (site_at w n).standing in
        if_case (IsBegunActs w) (nat_lt standing.number greatest_number)
        (λ left. goes_on w n (of_checkpoint standing running) (no_act w) (checkpoint-acts w n standing running is))
        (λ spent. settles _ w (no_act w))

    -- a site whose disk is armed otherwise
    armed-acts : (n : ℕ) (arm : Option Arm) → Acts setup w (with_site w n (record (site_at w n) { arm = arm }))
    armed-acts n arm =
        let last : World = with_site w n (record (site_at w n) { arm = arm }) in
        one_more w w last (no_act w)
        (acts.forgets last
        (subst (λ (v : World). HasNothingNew v last) (own-site w n)
        (nothing-new w.sites n (site_at w n) (record (site_at w n) { arm = arm }) w.sent w.fresh w.fresh w.order refl (no-more-itself (memory_at w n)))))

    -- what an event asks of a site
    asked-come : (event : Event) (n : ℕ) (input : Input) → IsAsked event n input → IsWellFormed setup.catalog event → HasCome w n input
    asked-come event n (submit program) asked well = asked-runs setup.catalog event n program asked well
    asked-come event n (receive from message) never well = absurd never
    asked-come event n tick asked well = tt

    beginning-acts : (event : Event) → IsWellFormed setup.catalog event → (beginning : Beginning) → IsGuarded event beginning → IsBegunActs w (begun_by setup w beginning)
    beginning-acts event well (Beginning.gives n input) guard = given-acts w.fresh n input (asked-come event n input guard well) (memory_at w n) refl
    beginning-acts event well (Beginning.delivers number) guard = delivered-acts number (slice_get w.sent number) refl
    beginning-acts event well (Beginning.loses number) guard = lost-acts number (slice_get w.sent number)
    beginning-acts event well (Beginning.drops n) guard = settles _ _ (marked-acts w _)
    beginning-acts event well (Beginning.halts n) guard = halted-acts n (memory_at w n)
    beginning-acts event well (Beginning.opens n) guard = opened-acts n (guard.within setup.catalog well) (memory_at w n) refl
    beginning-acts event well (Beginning.packs n) guard = packed-acts n (memory_at w n) refl
    beginning-acts event well (Beginning.arms n arm) guard = settles _ _ (armed-acts n arm)
    beginning-acts event well (Beginning.prints printed) guard = settles _ w (no_act w)

    begun-acts : (event : Event) → IsWellFormed setup.catalog event → IsBegunActs w (begun setup w event)
    begun-acts event well = by-beginning (IsBegunActs w) setup w event (beginning-acts event well)

  -- How it ends.

  attempted-acts : (w : World) (n : ℕ) (attempt : Attempt) → IsAttemptActs w n attempt → (left : Reached) → Acts setup w (attempted w n attempt left).1
  attempted-acts w n attempt is (waits arm) = is.whole arm
  attempted-acts w n attempt is (fires arm) = by (nat_lt (attempt.calls + 2) arm.call && is_kept arm.mode) attempt.appended refl where
    standing : Standing
    standing = standing_left attempt.packs arm (site_at w n).standing

    by : (there : Bool) (appended : Option Record) → attempt.appended ≡ appended → Acts setup w (broken w n (if there then appended else None) standing)
    by true None same = broken-acts w n standing
    by true (Some appended) same = is.with_record appended same standing
    by false appended same = broken-acts w n standing

  ended-acts : (w : World) (b : Begun) → IsBegunActs w b → Acts setup w (ended b).1
  ended-acts w b (settles lines after reached) = reached
  ended-acts w b (goes_on before n attempt so_far is) =
      then-acts w before (attempted before n attempt (reached (calls_of attempt) (site_at before n).arm)).1 so_far
      (attempted-acts before n attempt is (reached (calls_of attempt) (site_at before n).arm))

  end-acts : (w : World) (n : ℕ) (attempt : Attempt) → IsAttemptActs w n attempt → (lines : List Line) (after : World) → MayEnd w n attempt lines after → Acts setup w after
  end-acts w n attempt is lines after anywhere.whole = is.whole None
  end-acts w n attempt is lines after (anywhere.without stops some standing may) = broken-acts w n standing
  end-acts w n attempt is lines after (anywhere.with_record stops appended same standing may) = is.with_record appended same standing

  come-acts : (w : World) (b : Begun) → IsBegunActs w b → (lines : List Line) (after : World) → MayCome b lines after → Acts setup w after
  come-acts w b (settles reported world reached) lines after (anywhere.without_attempt reported' world') = reached
  come-acts w b (goes_on before n attempt reached is) lines after (anywhere.by_attempt before' after' n' attempt' lines' ends) =
      then-acts w before after reached (end-acts before n attempt is lines after ends)

  disarmed-acts : (w : World) → Acts setup w (disarmed w)
  disarmed-acts w =
      one_more w w (disarmed w) (no_act w)
      (acts.forgets (disarmed w)
      (record {
        count = sym (length-map w.sites disarmed_site);
        records = λ n. ap (λ (s : Site). s.records) (sym (site-disarmed w n));
        memories = λ n. subst (λ (s : Site). HasNoMore (memory_at w n) s.running) (sym (site-disarmed w n)) (no-more-itself (memory_at w n));
        sent = refl;
        order = refl;
      }))

  -- An event is some acts, with armed faults,
  pub transition-acts : (w : World) → IsKnown w → (event : Event) → IsWellFormed setup.catalog event → Acts setup w (transition_of setup w event).world
  unfolding transition_of
  transition-acts w known event well = ended-acts w (begun setup w event) (begun-acts w known event well)

  -- and with faults anywhere.
  pub follow-acts : (w : World) → IsKnown w → (transition : Transition) → MayFollow setup w transition → Acts setup w transition.world
  follow-acts w known transition follows =
      subst (Acts setup w) (sym follows.after)
      (then-acts w follows.left (disarmed follows.left)
      (come-acts w (begun setup w transition.event) (begun-acts w known transition.event follows.well) transition.lines follows.left follows.comes)
      (disarmed-acts follows.left))
