-- Each entry is as old as its stage, in ticks of its site.
use Rattle.std.proofs.Common.{◌≡◌, ℕ, ◌+◌, ◌<◌, Bool, false, Some, List, [], ◌∷◌, ◌++◌, refl, sym, ap, subst, ◌∙◌, arith}
use Rattle.std.specs.Prelude.{All, cond}
use Rattle.std.proofs.lemmas.Bool.{eq-eqb}
use Rattle.std.proofs.lemmas.List.{map-append}
use Rattle.std.proofs.lemmas.List.Elements.{All-append, All-cons, All-nil}
use Rattle.std.proofs.lemmas.List.Sums.{sum_by-append}
use Rattle.std.proofs.lemmas.Option.{none-some}
use Rattle.pv_base.specs.declared.limits.TheConstants.{TICKS}
use Rattle.pv_base.specs.declared.txn.TxnId.{TxnId}
use Rattle.pv_law_acts.proofs.PassedLemmas.{opening-each}
use Rattle.pv_law_refusals.proofs.Chains.{IsLink, AreLinks, each-front, whole-run}
use Rattle.pv_law_refusals.proofs.EntrySteps.{ticks_in, EntryStep, goes_on, begins_stage, Needs, step-entry}
use Rattle.pv_law_refusals.proofs.MessageHistories.{later_place}
use Rattle.pv_law_refusals.proofs.Moves.{Comes, TakesInput, SiteAfter, is_as_it_was, has_no_entry, has_stepped}
use Rattle.pv_law_refusals.specs.Waits.{IsWaiting, HasAge, EntriesHaveAge}
use Rattle.pv_law_events.proofs.StepActs.{IsReady}
use Rattle.pv_law_world.proofs.AppendLemmas.{world_after-append}
use Rattle.pv_model.specs.Events.{Event}
use Rattle.pv_protocol.specs.Committed.{home_of, entry_in, entry_of}
use Rattle.pv_protocol.specs.Places.{Place}
use Rattle.pv_protocol.specs.Run.{world_after, worlds_of}
use Rattle.pv_protocol.specs.State.{Setup, Site, Stage, Entry, Running, Input, submit, receive, tick}
use Rattle.pv_protocol.specs.Waiting.{IsInStage, is_tick_of, ticks_of, HasWaited}
use Rattle.pv_protocol.specs.WellFormed.{IsWellFormed}
use Rattle.pv_protocol.specs.World.{World, opening}
use Rattle.pv_protocol.specs.WorldStep.{Transition}

-- how many ticks of the site one transition is
abbrev pub ticks_here : ℕ → Event → ℕ
ticks_here n event = cond (is_tick_of n event) 1 0

pub ticks-more : (n : ℕ) (later : List Transition) (transition : Transition) → ticks_of n (later ++ transition ∷ []) ≡ ticks_of n later + ticks_here n transition.event
ticks-more n later transition =
    let both : ticks_of n (later ++ transition ∷ []) ≡ ticks_of n later + ticks_of n (transition ∷ []) =
    sum_by-append (λ (t : Transition). cond (is_tick_of n t.event) 1 0) later (transition ∷ []) in
    omega (arith, both)

module _ (setup : Setup) (first : World) (earlier : List Transition) (transition : Transition) (link : IsLink setup (world_after first earlier) transition) where
  abbrev w : World
  w = world_after first earlier

  abbrev More : List Transition
  More = earlier ++ transition ∷ []

  -- A stage that goes on.
  waited-more : (txn : TxnId) (stage : Stage) (ticks : ℕ) → HasWaited first earlier txn stage ticks → IsInStage txn stage transition.world
      → HasWaited first More txn stage (ticks + ticks_here (home_of txn) transition.event)
  waited-more txn stage ticks was is = record {
    begin = later_place earlier transition was.begin;
    not_before = was.not_before;
    since = subst (All (IsInStage txn stage)) (ap (λ (worlds : List World). was.begin.transition.world ∷ worlds) (sym (map-append (λ (t : Transition). t.world) was.begin.later (transition ∷ []))))
        (All-append (IsInStage txn stage) (worlds_of was.begin.transition.world was.begin.later) (transition.world ∷ []) was.since
        (All-cons (IsInStage txn stage) transition.world [] is (All-nil (IsInStage txn stage))));
    counted = ticks-more (home_of txn) was.begin.later transition ∙ ap (λ (count : ℕ). count + ticks_here (home_of txn) transition.event) was.counted;
  }

  -- A stage that begins.
  waited-new : (txn : TxnId) (stage : Stage) → (IsInStage txn stage w → ⊥) → IsInStage txn stage transition.world → HasWaited first More txn stage 0
  waited-new txn stage not is = record {
    begin = record { earlier = earlier; transition = transition; later = []; split = refl };
    not_before = not;
    since = All-cons (IsInStage txn stage) transition.world [] is (All-nil (IsInStage txn stage));
    counted = refl;
  }

  untimed : (n : ℕ) (event : Event) → is_tick_of n event ≡ false → ticks_here n event ≡ 0
  untimed n event is = ap (λ (b : Bool). cond b 1 0) is

  ticks-come : (n : ℕ) (input : Input) → Comes w transition.event n input → ticks_here n transition.event ≡ ticks_in input
  ticks-come n (submit program) comes = ap (ticks_here n) comes.1.1
  ticks-come n (receive from message) comes = ap (ticks_here n) comes.1.0
  ticks-come n tick comes = ap (ticks_here n) comes ∙ ap (λ (b : Bool). cond b 1 0) (eq-eqb n n refl)

  needs-come : (n : ℕ) (running : Running) (ready : IsReady setup w n running) (txn : TxnId) (after : Entry) (input : Input) → Comes w transition.event n input
      → Needs setup w n running ready txn after input
  needs-come n running ready txn after (submit program) comes = (subst (IsWellFormed setup.catalog) comes.1.1 link.well).1
  needs-come n running ready txn after (receive from message) comes = tt
  needs-come n running ready txn after tick comes = tt

  module _ (was : EntriesHaveAge setup first earlier) (txn : TxnId) (after : Entry) (found : entry_of transition.world txn ≡ Some after) where
    in-stage : (stage : Stage) → after.stage ≡ stage → IsInStage txn stage transition.world
    in-stage stage is = record { entry = after; works = found; is = is }

    -- of an entry that was there in the same stage
    goes-on : (entry : Entry) → entry_of w txn ≡ Some entry → entry.stage ≡ after.stage → after.age ≡ entry.age + ticks_here (home_of txn) transition.event
        → (entry.age < TICKS → after.age < TICKS) → (IsWaiting setup.catalog entry → IsWaiting setup.catalog after) → HasAge setup first More txn after
    goes-on entry there stage age young waiting =
        let old : HasAge setup first earlier txn entry = was txn entry there in
        record {
          waited = subst (HasWaited first More txn after.stage) (sym age)
              (subst (λ s. HasWaited first More txn s (entry.age + ticks_here (home_of txn) transition.event)) stage
              (waited-more txn entry.stage entry.age old.waited (in-stage entry.stage (sym stage))));
          young = young old.young;
          waiting = waiting old.waiting;
        }

    stepped : (running : Running) (input : Input) → TakesInput w transition.event (home_of txn) running input → EntryStep setup.catalog running input txn after → HasAge setup first More txn after
    stepped running input takes (goes_on entry there stage age young waiting) =
        goes-on entry (ap (λ memory. entry_in memory txn) takes.up ∙ there) stage
        (age ∙ ap (λ ticks. entry.age + ticks) (sym (ticks-come (home_of txn) input takes.comes))) young waiting
    stepped running input takes (begins_stage age fresh waiting) = record {
      waited = subst (HasWaited first More txn after.stage) (sym age)
          (waited-new txn after.stage
          (λ before. fresh before.entry (sym (ap (λ memory. entry_in memory txn) takes.up) ∙ before.works) before.is)
          (in-stage after.stage refl));
      young = omega (arith, age);
      waiting = waiting;
    }

    has-age : SiteAfter setup w transition.event transition.world (home_of txn) → HasAge setup first More txn after
    has-age (is_as_it_was same timeless) =
        goes-on after (ap (λ memory. entry_in memory txn) (sym same) ∙ found) refl
        (let none : ticks_here (home_of txn) transition.event ≡ 0 = untimed (home_of txn) transition.event timeless in omega (arith, none)) (λ young. young) (λ waiting. waiting)
    has-age (has_no_entry none) = absurd (none txn after found)
    has-age (has_stepped running input takes is) =
        let ready : IsReady setup w (home_of txn) running = record {
          up = takes.up;
          settled = link.known.settled;
          recorded = link.known.recorded (home_of txn) running takes.up;
          ordered = link.known.ordered (home_of txn) running takes.up;
        } in
        stepped running input takes
        (step-entry setup w (home_of txn) running ready txn after input (needs-come (home_of txn) running ready txn after input takes.comes)
        (sym (ap (λ memory. entry_in memory txn) is) ∙ found))

  ages-more : EntriesHaveAge setup first earlier → EntriesHaveAge setup first More
  ages-more was txn after found =
      let now : entry_of transition.world txn ≡ Some after = subst (λ (v : World). entry_of v txn ≡ Some after) (world_after-append first earlier (transition ∷ [])) found in
      has-age was txn after now (link.move.sites (home_of txn))

module _ (setup : Setup) where
  ages-first : EntriesHaveAge setup (opening setup) []
  ages-first txn entry found =
      absurd (opening-each setup (λ (s : Site). entry_in s.running txn ≡ Some entry → ⊥) (none-some entry) (none-some entry) (home_of txn) found)

  -- Before each transition of a run each entry is as old as its stage.
  pub ages-before : (transitions : List Transition) → AreLinks setup (opening setup) transitions → (place : Place transitions) → EntriesHaveAge setup (opening setup) place.earlier
  ages-before transitions links place =
      each-front setup (opening setup) (EntriesHaveAge setup (opening setup)) (λ earlier transition link was. ages-more setup (opening setup) earlier transition link was)
      transitions links ages-first place

  -- So is each entry at the end of a run.
  pub ages-after : (transitions : List Transition) → AreLinks setup (opening setup) transitions → EntriesHaveAge setup (opening setup) transitions
  ages-after transitions links =
      whole-run setup (opening setup) (EntriesHaveAge setup (opening setup)) (λ earlier transition link was. ages-more setup (opening setup) earlier transition link was)
      transitions links ages-first
