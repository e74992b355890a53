-- What the events of a moment do to a world in which its site stands where its history has left it.
use Rattle.std.proofs.Common.{◌≡◌, ◌≢◌, ℕ, zero, suc, ◌+◌, ◌<◌, Option, Some, None, List, [], ◌∷◌, ◌++◌, set, get_or, length, get_or-set_same, get_or-set_other, false, sym, refl, ap, ap₂, ◌∙◌, subst, arith}
use Rattle.std.specs.Prelude.{slice_get, option_to_list, IsSome}
use Rattle.std.proofs.lemmas.List.{append-nil, length-set}
use Rattle.pv_base.specs.declared.mode.Mode.TheVariants.{Lost}
use Rattle.pv_format.specs.Checkpoint.{Standing, first_standing}
use Rattle.pv_format.specs.Message.{Envelope}
use Rattle.pv_format.specs.Record.{Record}
use Rattle.pv_law_histories.specs.Course.{input_of, step_at, left_up, left_at, left_by, sent_up, sent_at, sent_by, IsStepUp, IsStepAt, IsStep}
use Rattle.pv_law_histories.specs.History.{Intake, request, parcel, tick, Came, done, fault, down, Stamped, lines_of_came}
use Rattle.pv_law_histories.specs.Merge.{Moment, number_of, event_of, with_fault, events_at}
use Rattle.pv_model.specs.Events as events
use Rattle.pv_model.specs.Events.{Event}
use Rattle.pv_protocol.specs.Arms.{waits, fires, calls_of, calls_of_append, reached, attempted, completed, broken}
use Rattle.pv_protocol.specs.Attempt.{Attempt, begun, given, delivered, of_step, with_arm}
use Rattle.pv_protocol.specs.Lines.{Line, lines_of}
use Rattle.pv_protocol.specs.Run.{run, transitions_of, world_after, lines_of_transitions}
use Rattle.pv_protocol.specs.State.{Setup, Site, Arm, Running, Outgoing}
use Rattle.pv_protocol.specs.World.{World, no_site, site_at, with_done, from_site}
use Rattle.pv_protocol.specs.WorldStep.{transition_of, ended}

-- The world has become one where this site is so and has sent these messages; all other sites are as they were.
pub record Becomes (world : World) (n : ℕ) (site : Site) (sends : List Outgoing) (after : World) : Type 0 where
  pub width : length after.sites ≡ length world.sites
  pub here : site_at after n ≡ site
  pub others : (other : ℕ) → other ≢ n → site_at after other ≡ site_at world other
  pub sent : after.sent ≡ world.sent ++ from_site n sends

-- These lines are printed, and the world becomes so.
pub record Comes (world : World) (n : ℕ) (site : Site) (sends : List Outgoing) (lines : List Line) (end : List Line × World) : Type 0 where
  pub prints : end.0 ≡ lines
  pub becomes : Becomes world n site sends end.1

-- It isn't a fault.
abbrev IsPlain : Came → Type 0
IsPlain (done notes) = Unit {0}
IsPlain fault = ⊥
IsPlain down = Unit {0}

-- The site's next write or sync fails, and leaves nothing.
abbrev failing : Arm
failing = record { call = 1; mode = Lost; stops = false }

-- the world when a site has begun to take this in
abbrev taking : World → List Moment → Intake → World
taking world moments (request client asked) = world
taking world moments (parcel from stamp place message) = with_done world (number_of moments from stamp place)
taking world moments tick = world

-- The message that is taken in was sent, and has the number that it has among these moments.
abbrev pub IsThere : World → List Moment → (to : ℕ) → Intake → Type 0
IsThere world moments to (parcel from stamp place message) =
    slice_get world.sent (number_of moments from stamp place) ≡ Some record { from = from; to = to; message = message }
IsThere world moments to other = Unit {0}

module _ (setup : Setup) (n : ℕ) where
  -- what a site does that is given this entry's intake, in a world where it stands so
  abbrev attempt_at : List Record → Running → Stamped → Attempt
  attempt_at records running entry = of_step n (step_at setup n records running entry)

  abbrev end_at : World → Stamped → List Record → Option Arm → Option Running → List Line × World
  end_at world entry records arm None = (Line.down n ∷ [], world)
  end_at world entry records arm (Some running) =
      attempted world n (attempt_at records running entry) (reached (calls_of (attempt_at records running entry)) arm)

  given-end : (world : World) (entry : Stamped) (running : Option Running)
      → ended (given setup world n (input_of entry.intake) running) ≡ end_at world entry (site_at world n).records (site_at world n).arm running
  given-end world entry None = refl
  given-end world entry (Some running) = refl

  -- The site is another one, and messages are sent.
  set-becomes : (world after : World) (site : Site) (sends : List Outgoing) → n < length world.sites → after.sites ≡ set world.sites n site
      → after.sent ≡ world.sent ++ from_site n sends → Becomes world n site sends after
  set-becomes world after site sends within sites sent = record {
    width = ap length sites ∙ length-set world.sites n site;
    here = ap (λ (all : List Site). get_or all n no_site) sites ∙ get_or-set_same world.sites n site no_site within;
    others = λ other apart. ap (λ (all : List Site). get_or all other no_site) sites ∙ get_or-set_other world.sites n other site no_site apart;
    sent = sent;
  }

  -- ## A site whose disk isn't armed
  reached-unarmed : (calls : ℕ) → reached calls None ≡ waits None
  reached-unarmed zero = refl
  reached-unarmed (suc more) = refl

  up-plain : (world : World) (entry : Stamped) (records : List Record) (running : Running) (came : Came) → n < length world.sites
      → (site_at world n).records ≡ records → (site_at world n).standing ≡ first_standing → IsStepUp setup n records running entry came → IsPlain came
      → Comes world n (left_up setup n records running entry came) (sent_up setup n records running entry came) (lines_of_came n came)
      (end_at world entry records None (Some running))
  up-plain world entry records running (done notes) within same formatted is plain =
      let step = step_at setup n records running entry in
      let attempt : Attempt = attempt_at records running entry in
      let site = left_up setup n records running entry (done notes) in
      subst (λ what. Comes world n site step.sends (lines_of n notes) (attempted world n attempt what)) (sym (reached-unarmed (calls_of attempt)))
      record {
        prints = ap (lines_of n) (sym is.0);
        becomes = set-becomes world (completed world n attempt None) site step.sends within
            (ap₂
            (λ (before : List Record) (standing : Standing). set world.sites n
            record { records = before ++ option_to_list step.appended; standing = standing; arm = None; running = Some step.running })
            same formatted) refl;
      }
  up-plain world entry records running fault within same formatted is plain = absurd plain
  up-plain world entry records running down within same formatted is plain = absurd is

  at-plain : (world : World) (entry : Stamped) (records : List Record) (running : Option Running) → n < length world.sites
      → site_at world n ≡ record { records = records; standing = first_standing; arm = None; running = running } → IsStepAt setup n records running entry → IsPlain entry.came
      → Comes world n (left_at setup n records running entry) (sent_at setup n records running entry) (lines_of_came n entry.came)
      (end_at world entry records None running)
  at-plain world entry records None within stands is plain = record {
    prints = ap (lines_of_came n) (sym is.0);
    becomes = record { width = refl; here = stands; others = λ other apart. refl; sent = sym (append-nil world.sent) };
  }
  at-plain world entry records (Some running) within stands is plain =
      up-plain world entry records running entry.came within (ap (λ (site : Site). site.records) stands) (ap (λ (site : Site). site.standing) stands) is plain

  -- ## A site whose next write or sync fails
  reached-failing : (appended : Option Record) → IsSome appended → reached (0 + calls_of_append appended) (Some failing) ≡ fires failing
  reached-failing None is = absurd cc
  reached-failing (Some more) is = refl

  up-fault : (world : World) (entry : Stamped) (records : List Record) (running : Running) → n < length world.sites
      → (site_at world n).records ≡ records → (site_at world n).standing ≡ first_standing → IsSome (step_at setup n records running entry).appended
      → Comes world n (left_up setup n records running entry fault) [] (Line.fault n ∷ []) (end_at world entry records (Some failing) (Some running))
  up-fault world entry records running within same formatted is =
      let step = step_at setup n records running entry in
      let attempt : Attempt = attempt_at records running entry in
      let site = left_up setup n records running entry fault in
      subst (λ what. Comes world n site [] (Line.fault n ∷ []) (attempted world n attempt what)) (sym (reached-failing step.appended is))
      record {
        prints = refl;
        becomes = set-becomes world (broken world n None (site_at world n).standing) site [] within
            (ap₂ (λ (before : List Record) (standing : Standing). set world.sites n record { records = before; standing = standing; arm = None; running = None })
            (append-nil (site_at world n).records ∙ same) formatted)
            (sym (append-nil world.sent));
      }

  -- ## The event of a moment
  -- its transition
  event-run : (world : World) (moments : List Moment) (intake : Intake) → IsThere world moments n intake
      → let end = ended (given setup (taking world moments intake) n (input_of intake) (site_at world n).running) in
      run setup world (event_of moments n intake ∷ []) ≡ record { event = event_of moments n intake; lines = end.0; world = end.1 } ∷ []
  unfolding transitions_of transition_of begun
  event-run world moments (request client asked) there = refl
  event-run world moments (parcel from stamp place message) there =
      let number = number_of moments from stamp place in
      ap (λ found. let end = ended (delivered setup world number found) in record { event = events.deliver number; lines = end.0; world = end.1 } ∷ []) there
  event-run world moments tick there = refl

  -- What a moment's transitions print, and the world after them.
  abbrev pub run_end : World → List Event → List Line × World
  run_end world all = let transitions = run setup world all in (lines_of_transitions transitions, world_after world transitions)

  -- a world that has the same sites and messages
  as-before : (world other : World) (site : Site) (sends : List Outgoing) (lines : List Line) (end : List Line × World) → other.sites ≡ world.sites → other.sent ≡ world.sent
      → Comes other n site sends lines end → Comes world n site sends lines end
  as-before world other site sends lines end same_sites same_sent comes = record {
    prints = comes.prints;
    becomes = record {
      width = comes.becomes.width ∙ ap (λ (all : List Site). length all) same_sites;
      here = comes.becomes.here;
      others = λ k apart. comes.becomes.others k apart ∙ ap (λ (all : List Site). get_or all k no_site) same_sites;
      sent = comes.becomes.sent ∙ ap (λ (all : List Envelope). all ++ from_site n sends) same_sent;
    };
  }

  taking-sites : (world : World) (moments : List Moment) (intake : Intake) → (taking world moments intake).sites ≡ world.sites
  taking-sites world moments (request client asked) = refl
  taking-sites world moments (parcel from stamp place message) = refl
  taking-sites world moments tick = refl

  taking-sent : (world : World) (moments : List Moment) (intake : Intake) → (taking world moments intake).sent ≡ world.sent
  taking-sent world moments (request client asked) = refl
  taking-sent world moments (parcel from stamp place message) = refl
  taking-sent world moments tick = refl

  -- Where the site stands so when it has taken the intake, the event ends as that.
  event-end : (world : World) (moments : List Moment) (entry : Stamped) (records : List Record) (arm : Option Arm) (running : Option Running)
      → IsThere world moments n entry.intake → site_at world n ≡ record { records = records; standing = first_standing; arm = arm; running = running }
      → run_end world (event_of moments n entry.intake ∷ []) ≡ end_at (taking world moments entry.intake) entry records arm running
  event-end world moments entry records arm running there stands =
      let taken = taking world moments entry.intake in
      let same : site_at taken n ≡ record { records = records; standing = first_standing; arm = arm; running = running } =
      ap (λ (all : List Site). get_or all n no_site) (taking-sites world moments entry.intake) ∙ stands in
      ap (λ transitions. (lines_of_transitions transitions, world_after world transitions)) (event-run world moments entry.intake there)
      ∙ (let end = ended (given setup taken n (input_of entry.intake) (site_at world n).running) in
      ap (λ lines. (lines, end.1)) (append-nil end.0))
      ∙ given-end taken entry (site_at world n).running
      ∙ ap (λ (site : Site). end_at taken entry (site_at taken n).records (site_at taken n).arm site.running) stands
      ∙ ap (λ (site : Site). end_at taken entry site.records site.arm running) same

  moment-plain : (world : World) (moments : List Moment) (entry : Stamped) (records : List Record) (running : Option Running) → n < length world.sites
      → site_at world n ≡ record { records = records; standing = first_standing; arm = None; running = running } → IsStepAt setup n records running entry
      → IsThere world moments n entry.intake → IsPlain entry.came
      → Comes world n (left_at setup n records running entry) (sent_at setup n records running entry) (lines_of_came n entry.came)
      (run_end world (event_of moments n entry.intake ∷ []))
  moment-plain world moments entry records running within stands is there plain =
      let taken = taking world moments entry.intake in
      let same = taking-sites world moments entry.intake in
      let lines = lines_of_came n entry.came in
      subst (Comes world n (left_at setup n records running entry) (sent_at setup n records running entry) lines)
      (sym (event-end world moments entry records None running there stands))
      (as-before world taken (left_at setup n records running entry) (sent_at setup n records running entry) lines (end_at taken entry records None running)
      same (taking-sent world moments entry.intake)
      (at-plain taken entry records running (subst (λ (all : List Site). n < length all) (sym same) within)
      (ap (λ (all : List Site). get_or all n no_site) same ∙ stands) is plain))

  -- the world with the site's next write or sync armed
  abbrev armed : World → World
  armed world = with_arm world n (Some failing)

  arm-run : (world : World) (event : Event) → run setup world (events.arm n 1 Lost false ∷ (event ∷ []))
      ≡ record { event = events.arm n 1 Lost false; lines = []; world = armed world } ∷ run setup (armed world) (event ∷ [])
  unfolding transitions_of transition_of begun
  arm-run world event = refl

  armed-site : (world : World) (records : List Record) (arm : Option Arm) (running : Option Running) → n < length world.sites
      → site_at world n ≡ record { records = records; standing = first_standing; arm = arm; running = running }
      → site_at (armed world) n ≡ record { records = records; standing = first_standing; arm = Some failing; running = running }
  armed-site world records arm running within stands =
      get_or-set_same world.sites n (record (site_at world n) { arm = Some failing }) no_site within
      ∙ ap (λ (site : Site). record site { arm = Some failing }) stands

  -- Arming changes nothing else.
  from-armed : (world : World) (site : Site) (sends : List Outgoing) (lines : List Line) (end : List Line × World)
      → Comes (armed world) n site sends lines end → Comes world n site sends lines end
  from-armed world site sends lines end comes = record {
    prints = comes.prints;
    becomes = record {
      width = comes.becomes.width ∙ length-set world.sites n (record (site_at world n) { arm = Some failing });
      here = comes.becomes.here;
      others = λ k apart. comes.becomes.others k apart ∙ get_or-set_other world.sites n k (record (site_at world n) { arm = Some failing }) no_site apart;
      sent = comes.becomes.sent;
    };
  }

  there-armed : (world : World) (moments : List Moment) (intake : Intake) → IsThere world moments n intake → IsThere (armed world) moments n intake
  there-armed world moments (request client asked) there = tt
  there-armed world moments (parcel from stamp place message) there = there
  there-armed world moments tick there = tt

  moment-fault : (world : World) (moments : List Moment) (entry : Stamped) (records : List Record) (running : Running) → n < length world.sites
      → site_at world n ≡ record { records = records; standing = first_standing; arm = None; running = Some running } → IsSome (step_at setup n records running entry).appended
      → IsThere world moments n entry.intake
      → Comes world n (left_up setup n records running entry fault) [] (Line.fault n ∷ [])
      (run_end world (events.arm n 1 Lost false ∷ (event_of moments n entry.intake ∷ [])))
  moment-fault world moments entry records running within stands is there =
      let world' = armed world in
      let taken = taking world' moments entry.intake in
      let same = taking-sites world' moments entry.intake in
      let event = event_of moments n entry.intake in
      let site = left_up setup n records running entry fault in
      let within' : n < length world'.sites = let wide = length-set world.sites n (record (site_at world n) { arm = Some failing }) in omega arith in
      let stands' = armed-site world records None (Some running) within stands in
      subst (λ transitions. Comes world n site [] (Line.fault n ∷ []) (lines_of_transitions transitions, world_after world transitions))
      (sym (arm-run world event))
      (from-armed world site [] (Line.fault n ∷ []) (run_end world' (event ∷ []))
      (subst (Comes world' n site [] (Line.fault n ∷ []))
      (sym (event-end world' moments entry records (Some failing) (Some running) (there-armed world moments entry.intake there) stands'))
      (as-before world' taken site [] (Line.fault n ∷ []) (end_at taken entry records (Some failing) (Some running)) same (taking-sent world' moments entry.intake)
      (up-fault taken entry records running (subst (λ (all : List Site). n < length all) (sym same) within')
      (ap (λ (all : List Site). (get_or all n no_site).records) same ∙ ap (λ (here : Site). here.records) stands')
      (ap (λ (all : List Site). (get_or all n no_site).standing) same ∙ ap (λ (here : Site). here.standing) stands') is))))

  -- ## The events of a moment
  by-came : (world : World) (moments : List Moment) (entry : Stamped) (records : List Record) (running : Option Running) (came : Came) → n < length world.sites
      → site_at world n ≡ record { records = records; standing = first_standing; arm = None; running = running } → IsStepAt setup n records running entry
      → IsThere world moments n entry.intake → entry.came ≡ came
      → Comes world n (left_at setup n records running entry) (sent_at setup n records running entry) (lines_of_came n entry.came)
      (run_end world (with_fault n came (event_of moments n entry.intake)))
  by-came world moments entry records running (done notes) within stands is there what =
      moment-plain world moments entry records running within stands is there (subst IsPlain (sym what) tt)
  by-came world moments entry records running down within stands is there what =
      moment-plain world moments entry records running within stands is there (subst IsPlain (sym what) tt)
  by-came world moments entry records None fault within stands is there what = absurd (subst IsPlain (sym is.0 ∙ what) tt)
  by-came world moments entry records (Some running) fault within stands is there what =
      let step : IsStepUp setup n records running entry fault = subst (IsStepUp setup n records running entry) what is in
      subst (λ came. Comes world n (left_up setup n records running entry came) (sent_up setup n records running entry came) (lines_of_came n came)
      (run_end world (events.arm n 1 Lost false ∷ (event_of moments n entry.intake ∷ []))))
      (sym what) (moment-fault world moments entry records running within stands step.0 there)

  pub moment-comes : (world : World) (moments : List Moment) (entry : Stamped) (site : Site) → n < length world.sites
      → site_at world n ≡ site → site.arm ≡ None → site.standing ≡ first_standing → IsStep setup n site entry → IsThere world moments n entry.intake
      → Comes world n (left_by setup n site entry) (sent_by setup n site entry) (lines_of_came n entry.came)
      (run_end world (events_at moments record { site = n; entry = entry }))
  moment-comes world moments entry site within stands unarmed formatted is there =
      by-came world moments entry site.records site.running entry.came within
      (stands ∙ ap₂ (λ (arm : Option Arm) (standing : Standing). record { records = site.records; standing = standing; arm = arm; running = site.running }) unarmed formatted) is there refl
