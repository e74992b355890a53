-- What each step and each start of a site keeps holds in every world of a run, wherever sites stop.
use Rattle.std.proofs.Common.{◌≡◌, ℕ, ◌<◌, Bool, true, false, Some, None, Option, List, [], ◌∷◌, ◌++◌, length, refl, sym, ap, subst}
use Rattle.std.specs.Prelude.{get_or, slice_get, option_to_list, nat_lt, ◌+◌, ◌&&◌, if◌then◌else◌, All}
use Rattle.std.proofs.lemmas.List.{append-nil, length-set, length-map, get_or-replicate, length-replicate}
use Rattle.std.proofs.lemmas.List.Elements.{All-cons, All-nil, All-get_or, All-from_get_or}
use Rattle.pv_format.specs.Checkpoint.{Standing, greatest_number}
use Rattle.pv_format.specs.Message.{Envelope}
use Rattle.pv_format.specs.Record.{Record, epoch_begun}
use Rattle.pv_law_step.proofs.StepCases.{if_case}
use Rattle.pv_law_world.proofs.DisarmLemmas.{site-disarmed}
use Rattle.pv_law_world.proofs.EventView.{by-beginning}
use Rattle.pv_law_world.proofs.RangeLemmas.{put-in-range, up-within}
use Rattle.pv_law_world.proofs.TransitionLemmas.{run-transitions}
use Rattle.pv_law_world.specs.EventView.{Beginning, begun_by}
use Rattle.pv_law_world.specs.Transitions.{AreTransitions, one_more}
use Rattle.pv_model.specs.Events.{Event}
use Rattle.pv_protocol.specs.Anywhere as anywhere
use Rattle.pv_protocol.specs.Anywhere.{MayEnd, MayCome, MayFollow, IsRunWithFaults, disarmed_site, disarmed}
use Rattle.pv_protocol.specs.Arms.{Reached, waits, fires, reached, calls_of, is_kept, standing_left, attempted}
use Rattle.pv_protocol.specs.Attempt.{Attempt, Begun, at_once, attempts, begun, given, delivered, lost, halted, opened, packed, of_start}
use Rattle.pv_protocol.specs.Lines.{Line}
use Rattle.pv_protocol.specs.Run.{run, worlds_of}
use Rattle.pv_protocol.specs.Start.{just_started, site_start}
use Rattle.pv_protocol.specs.State.{Setup, Running, Site, Input, receive}
use Rattle.pv_protocol.specs.Step.{site_step}
use Rattle.pv_protocol.specs.World.{World, no_site, first_site, site_at, with_site, with_done, opening}
use Rattle.pv_protocol.specs.WorldStep.{Transition, ended, transition_of}

-- What is asked of a site, by its number, its records and its memory, is kept by stops, steps and starts.
pub record IsKept (setup : Setup) (P : ℕ → List Record → Option Running → Type 0) : Type 0 where
  pub stops : (n : ℕ) (records : List Record) (running : Option Running) → P n records running → P n records None
  pub steps : (n : ℕ) (records : List Record) (running : Running) (input : Input) → P n records (Some running)
      → P n (records ++ option_to_list (site_step setup n records running input).appended) (Some (site_step setup n records running input).running)
  pub begins : (n : ℕ) (records : List Record) → P n records None
      → P n (records ++ option_to_list (of_start n (site_start setup 0 records)).appended) (of_start n (site_start setup 0 records)).running
  pub first : (n : ℕ) → P n (epoch_begun 1 ∷ []) (Some (just_started 1))

module _ (setup : Setup) (P : ℕ → List Record → Option Running → Type 0) (kept : IsKept setup P) where
  -- Each site of the world has what is asked.
  abbrev pub Holds : World → Type 0
  Holds world = (n : ℕ) → n < length world.sites → P n (site_at world n).records (site_at world n).running

  put-holds : (world : World) (n : ℕ) (site : Site) → Holds world → (n < length world.sites → P n site.records site.running) → Holds (with_site world n site)
  put-holds world n site holds new m below =
      put-in-range (λ k (s : Site). P k s.records s.running) world.sites n site new holds m (subst (λ (count : ℕ). m < count) (length-set world.sites n site) below)

  -- What an event comes to before any write keeps it.
  data KeepsIt : Begun → Type 0 where
    settles : (lines : List Line) (after : World) → Holds after → KeepsIt (at_once lines after)
    goes_on : (before : World) (n : ℕ) (attempt : Attempt) → Holds before
        → (n < length before.sites → P n ((site_at before n).records ++ option_to_list attempt.appended) attempt.running) → KeepsIt (attempts before n attempt)

  module _ (world : World) (holds : Holds world) where
    given-keeps : (before : World) → before.sites ≡ world.sites → (n : ℕ) (input : Input) (running : Option Running) → (site_at world n).running ≡ running
        → KeepsIt (given setup before n input running)
    given-keeps before sites n input None is = settles _ before (subst (λ (all : List Site). Holds (record before { sites = all })) (sym sites) holds)
    given-keeps before sites n input (Some running) is =
        goes_on before n _ (subst (λ (all : List Site). Holds (record before { sites = all })) (sym sites) holds)
        (λ within.
        let here : (site_at before n).records ≡ (site_at world n).records = ap (λ (all : List Site). (get_or all n no_site).records) sites in
        kept.steps n (site_at before n).records running input
        (subst (λ (records : List Record). P n records (Some running)) (sym here)
        (subst (P n (site_at world n).records) is (holds n (subst (λ (all : List Site). n < length all) sites within)))))

    delivered-keeps : (number : ℕ) (envelope : Option Envelope) → KeepsIt (delivered setup world number envelope)
    delivered-keeps number None = settles _ world holds
    delivered-keeps number (Some envelope) = given-keeps (with_done world number) refl envelope.to (receive envelope.from envelope.message) _ refl

    lost-keeps : (number : ℕ) (envelope : Option Envelope) → KeepsIt (lost world number envelope)
    lost-keeps number None = settles _ world holds
    lost-keeps number (Some envelope) = settles _ (with_done world number) holds

    halted-keeps : (n : ℕ) (running : Option Running) → KeepsIt (halted world n running)
    halted-keeps n None = settles _ world holds
    halted-keeps n (Some running) = settles _ _ (put-holds world n _ holds (λ within. kept.stops n _ _ (holds n within)))

    opened-keeps : (n : ℕ) (running : Option Running) → (site_at world n).running ≡ running → KeepsIt (opened setup world n running)
    opened-keeps n (Some running) is = settles _ world holds
    opened-keeps n None is =
        goes_on world n _ holds (λ within. kept.begins n (site_at world n).records (subst (P n (site_at world n).records) is (holds n within)))

    packed-keeps : (n : ℕ) (running : Option Running) → (site_at world n).running ≡ running → KeepsIt (packed world n running)
    packed-keeps n None is = settles _ world holds
    packed-keeps n (Some running) is =
        if_case KeepsIt (nat_lt (site_at world n).standing.number greatest_number)
        (λ left. goes_on world n _ holds
        (λ within. subst (λ (records : List Record). P n records (Some running)) (sym (append-nil (site_at world n).records))
        (subst (P n (site_at world n).records) is (holds n within))))
        (λ spent. settles _ world holds)

    beginning-keeps : (beginning : Beginning) → KeepsIt (begun_by setup world beginning)
    beginning-keeps (Beginning.gives n input) = given-keeps world refl n input _ refl
    beginning-keeps (Beginning.delivers number) = delivered-keeps number (slice_get world.sent number)
    beginning-keeps (Beginning.loses number) = lost-keeps number (slice_get world.sent number)
    beginning-keeps (Beginning.drops n) = settles _ _ holds
    beginning-keeps (Beginning.halts n) = halted-keeps n (site_at world n).running
    beginning-keeps (Beginning.opens n) = opened-keeps n (site_at world n).running refl
    beginning-keeps (Beginning.packs n) = packed-keeps n (site_at world n).running refl
    beginning-keeps (Beginning.arms n arm) = settles _ _ (put-holds world n _ holds (λ within. holds n within))
    beginning-keeps (Beginning.prints printed) = settles _ world holds

    begun-keeps : (event : Event) → KeepsIt (begun setup world event)
    begun-keeps event = by-beginning KeepsIt setup world event (λ beginning guard. beginning-keeps beginning)

  module _ (before : World) (n : ℕ) (attempt : Attempt) (holds : Holds before)
      (new : n < length before.sites → P n ((site_at before n).records ++ option_to_list attempt.appended) attempt.running) where
    -- a stop without a record, and with it
    without-holds : (standing : Standing) → Holds (with_site before n (record { records = (site_at before n).records ++ []; standing = standing; arm = None; running = None }))
    without-holds standing =
        put-holds before n _ holds
        (λ within. subst (λ (records : List Record). P n records None) (sym (append-nil (site_at before n).records)) (kept.stops n _ _ (holds n within)))

    with-holds : (standing : Standing) → Holds (with_site before n (record { records = (site_at before n).records ++ option_to_list attempt.appended; standing = standing; arm = None; running = None }))
    with-holds standing = put-holds before n _ holds (λ within. kept.stops n _ _ (new within))

    attempted-holds : (left : Reached) → Holds (attempted before n attempt left).1
    attempted-holds (waits arm) = put-holds before n _ holds new
    attempted-holds (fires arm) = left-over (nat_lt (attempt.calls + 2) arm.call && is_kept arm.mode)
      where
        left-over : (there : Bool) → Holds
            (with_site before n (record { records = (site_at before n).records ++ option_to_list (if there then attempt.appended else None); standing = standing_left attempt.packs arm (site_at before n).standing; arm = None; running = None }))
        left-over true = with-holds _
        left-over false = without-holds _

    end-holds : (lines : List Line) (after : World) → MayEnd before n attempt lines after → Holds after
    end-holds lines after anywhere.whole = put-holds before n _ holds new
    end-holds lines after (anywhere.without stops some standing may) = without-holds standing
    end-holds lines after (anywhere.with_record stops appended is standing may) =
        subst (λ (left : Option Record). Holds (with_site before n (record { records = (site_at before n).records ++ option_to_list left; standing = standing; arm = None; running = None }))) is (with-holds standing)

  ended-holds : (b : Begun) → KeepsIt b → Holds (ended b).1
  ended-holds b (settles lines after holds) = holds
  ended-holds b (goes_on before n attempt holds new) = attempted-holds before n attempt holds new (reached (calls_of attempt) (site_at before n).arm)

  come-holds : (b : Begun) (lines : List Line) (after : World) → KeepsIt b → MayCome b lines after → Holds after
  come-holds b lines after (settles reported world holds) (anywhere.without_attempt reported' world') = holds
  come-holds b lines after (goes_on before n attempt holds new) (anywhere.by_attempt before' after' n' attempt' lines' ends) =
      end-holds before n attempt holds new lines after ends

  pub transition-holds : (world : World) (event : Event) → Holds world → Holds (transition_of setup world event).world
  unfolding transition_of
  transition-holds world event holds = ended-holds (begun setup world event) (begun-keeps world holds event)

  disarmed-holds : (world : World) → Holds world → Holds (disarmed world)
  disarmed-holds world holds n below =
      subst (λ (site : Site). P n site.records site.running) (sym (site-disarmed world n))
      (holds n (subst (λ (count : ℕ). n < count) (length-map world.sites disarmed_site) below))

  pub follow-holds : (world : World) (transition : Transition) → Holds world → MayFollow setup world transition → Holds transition.world
  follow-holds world transition holds follows =
      subst Holds (sym follows.after)
      (disarmed-holds follows.left (come-holds (begun setup world transition.event) transition.lines follows.left (begun-keeps world holds transition.event) follows.comes))

  pub opening-holds : Holds (opening setup)
  opening-holds n below =
      subst (λ (site : Site). P n site.records site.running)
      (sym (get_or-replicate setup.catalog.sites n first_site no_site (subst (λ (count : ℕ). n < count) (length-replicate setup.catalog.sites first_site) below)))
      (kept.first n)

  worlds-hold : (world : World) (transitions : List Transition) → Holds world → AreTransitions setup world transitions → All Holds (worlds_of world transitions)
  worlds-hold world [] holds are = All-cons Holds world [] holds (All-nil Holds)
  worlds-hold world (transition ∷ transitions) holds (one_more world' transition' transitions' is rest) =
      All-cons Holds world (worlds_of transition.world transitions) holds
      (worlds-hold transition.world transitions (subst (λ (t : Transition). Holds t.world) (sym is) (transition-holds world transition.event holds)) rest)

  pub run-holds : (events : List Event) → All Holds (worlds_of (opening setup) (run setup (opening setup) events))
  run-holds events = worlds-hold (opening setup) (run setup (opening setup) events) opening-holds (run-transitions setup (opening setup) events)

  any-hold : (world : World) (transitions : List Transition) → Holds world → IsRunWithFaults setup world transitions → All Holds (worlds_of world transitions)
  any-hold world transitions holds (anywhere.ends world') = All-cons Holds world [] holds (All-nil Holds)
  any-hold world transitions holds (anywhere.goes_on world' transition rest follows run) =
      All-cons Holds world (worlds_of transition.world rest) holds (any-hold transition.world rest (follow-holds world transition holds follows) run)

  pub any-run-holds : (transitions : List Transition) → IsRunWithFaults setup (opening setup) transitions → All Holds (worlds_of (opening setup) transitions)
  any-run-holds transitions run = any-hold (opening setup) transitions opening-holds run

-- What is asked of the memory of a site that is up.
abbrev pub WhereUp : (ℕ → List Record → Running → Type 0) → ℕ → List Record → Option Running → Type 0
WhereUp Q n records running = (up : Running) → running ≡ Some up → Q n records up

module _ (setup : Setup) (Q : ℕ → List Record → Running → Type 0) (kept : IsKept setup (WhereUp Q)) where
  -- Each site of the world that is up has what is asked.
  abbrev UpHas : World → Type 0
  UpHas world = (n : ℕ) (running : Running) → (site_at world n).running ≡ Some running → Q n (site_at world n).records running

  all-up : (worlds : List World) → All (Holds setup (WhereUp Q) kept) worlds → All UpHas worlds
  all-up worlds all =
      All-from_get_or UpHas worlds (opening setup)
      (λ i below n running is.
      All-get_or (Holds setup (WhereUp Q) kept) worlds i (opening setup) below all n (up-within (get_or worlds i (opening setup)).sites n running is) running is)

  pub up-run : (events : List Event) → All UpHas (worlds_of (opening setup) (run setup (opening setup) events))
  up-run events = all-up (worlds_of (opening setup) (run setup (opening setup) events)) (run-holds setup (WhereUp Q) kept events)

  pub up-any-run : (transitions : List Transition) → IsRunWithFaults setup (opening setup) transitions → All UpHas (worlds_of (opening setup) transitions)
  up-any-run transitions run = all-up (worlds_of (opening setup) transitions) (any-run-holds setup (WhereUp Q) kept transitions run)
