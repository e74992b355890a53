-- One more event of the run of a world with a host.
use Rattle.std.proofs.Common.{◌≡◌, ℕ, Option, Some, None, IfSome, Result, Ok, Err, List, [], ◌∷◌, ◌++◌, take, drop, refl, sym, ap, ◌∙◌, subst}
use Rattle.std.proofs.lemmas.Grind.{flat_map-append}
use Rattle.std.proofs.lemmas.List.{append-nil, append_assoc, take-append-drop}
use Rattle.pv_base.specs.Catalog.{Declared}
use Rattle.pv_base.specs.declared.limits.TheConstants.{MAX_SENT}
use Rattle.pv_law_world.proofs.AppendLemmas.{run-append, world_after-append}
use Rattle.pv_model.specs.Events.{Event}
use Rattle.pv_model.specs.Schedule.{IsSchedule}
use Rattle.pv_protocol.specs.Limit.{over_limit}
use Rattle.pv_protocol.specs.Lines.{Line}
use Rattle.pv_protocol.specs.Run.{lines_of_transitions, printed, run, transitions_of, world_after}
use Rattle.pv_protocol.specs.State.{Setup}
use Rattle.pv_protocol.specs.World as model
use Rattle.pv_protocol.specs.World.{opening}
use Rattle.pv_protocol.specs.WorldStep.{Transition}
use Rattle.pv_site.specs.SiteState.{setup_of}
use Rattle.pv_script.specs.Behind.{schedule_over}
use Rattle.pv_world.specs.Stands.{StandsFor}
use Rattle.pv_world.specs.Steps.{IsSameBeside}
use Rattle.pv_world.specs.declared.world.World.{World}
use Rattle.pv_run.specs.Forms.{line_in, lines_in}
use Rattle.pv_run.specs.InputAnswers.{output_of}
use Rattle.pv_run.specs.KeptDisks.{last_world}
use Rattle.pv_run.specs.declared.form.Form.TheVariants.{Text}
use Rattle.pv_embed_world.specs.Advance.{Advances, HasAdvanced}
use Rattle.pv_embed_world.specs.Reading.{IsShort, RefusesLine, SaysEvent}
use Rattle.pv_embed_world.specs.World.{Hosted, HasOpened, HasRun, Leaves, LeavesOn, Steps, StepsOn}
use Rattle.pv_embed_world.specs.declared.fault.WorldFault.{WorldFault}
use Rattle.pv_embed_world.specs.declared.fault.WorldFault.TheVariants.{TooLong, Malformed, HasEvents, NotOneEvent, SentLimit, NoMemory, BrokenOff, Closed}

-- Without an event nothing is printed.
pub output-none : (catalog : Declared) → output_of Text (schedule_over catalog []) ≡ []
unfolding output_of printed
output-none catalog = refl

module _ (catalog : Declared) (events : List Event) (event : Event) where
  abbrev setup : Setup
  setup = setup_of catalog

  abbrev before : List Transition
  before = run setup (opening setup) events

  abbrev end : model.World
  end = last_world (schedule_over catalog events)

  abbrev now : List Transition
  now = transitions_of setup end event

  transitions-more : run setup (opening setup) (events ++ event ∷ []) ≡ before ++ now
  transitions-more = run-append setup (opening setup) events (event ∷ []) ∙ ap (λ (transitions : List Transition). before ++ transitions) (append-nil now)

  pub last-more : last_world (schedule_over catalog (events ++ event ∷ [])) ≡ world_after end now
  last-more = ap (world_after (opening setup)) transitions-more ∙ world_after-append (opening setup) before now

  pub output-more : output_of Text (schedule_over catalog (events ++ event ∷ []))
      ≡ output_of Text (schedule_over catalog events) ++ lines_in Text catalog (lines_of_transitions now)
  unfolding output_of printed
  output-more =
      ap (λ (transitions : List Transition). lines_in Text catalog (lines_of_transitions transitions)) transitions-more
      ∙ ap (lines_in Text catalog) (flat_map-append (λ (transition : Transition). transition.lines) before now)
      ∙ flat_map-append (line_in Text catalog) (lines_of_transitions before) (lines_of_transitions now)

-- The world in memory after these events.
pub stands-now : (hosted : Hosted) (events : List Event) (taken : List ℕ) (world : World) → HasRun hosted events taken → hosted.world ≡ Some world
    → StandsFor world (last_world (schedule_over hosted.catalog events))
stands-now hosted events taken world has up =
    subst (λ (o : Option World). IfSome o (λ (w : World). StandsFor w (last_world (schedule_over hosted.catalog events)))) up has.world

module _ (catalog : Declared) (events : List Event) (event : Event) (world : World) (same : world.catalog ≡ catalog) (limit : world.mail.limit ≡ MAX_SENT) where
  abbrev is : model.World
  is = last_world (schedule_over catalog events)

  abbrev after : Declared → model.World
  after declared = world_after is (transitions_of (setup_of declared) is event)

  -- What a step says of the world in memory, said of the next run.
  pub stands-next : (next : World) → StandsFor next (after world.catalog) → StandsFor next (last_world (schedule_over catalog (events ++ event ∷ [])))
  stands-next next stands = subst (StandsFor next) (sym (last-more catalog events event)) (subst (λ (declared : Declared). StandsFor next (after declared)) same stands)

  over-is : over_limit world.mail.limit (after world.catalog) ≡ over_limit MAX_SENT (last_world (schedule_over catalog (events ++ event ∷ [])))
  over-is =
      ap (λ (most : ℕ). over_limit most (after world.catalog)) limit
      ∙ ap (λ (declared : Declared). over_limit MAX_SENT (after declared)) same
      ∙ ap (over_limit MAX_SENT) (sym (last-more catalog events event))

  -- It is within the limit.
  pub within-next : (next : World) → StandsFor next (after world.catalog) → IsSameBeside world next
      → over_limit MAX_SENT (last_world (schedule_over catalog (events ++ event ∷ []))) ≡ None
  within-next next stands beside = sym over-is ∙ ap (λ (most : ℕ). over_limit most (after world.catalog)) (sym beside.limit) ∙ stands.stands.within

  -- Or passes it.
  pub over-next : (total : ℕ) → over_limit world.mail.limit (after world.catalog) ≡ Some total
      → over_limit MAX_SENT (last_world (schedule_over catalog (events ++ event ∷ []))) ≡ Some total
  over-next total over = sym over-is ∙ over

  -- What it prints is kept.
  pub text-next : (taken kept more : List ℕ) (lines : List Line) → taken ++ kept ≡ output_of Text (schedule_over catalog events)
      → lines ≡ lines_of_transitions (transitions_of (setup_of world.catalog) is event) → more ≡ kept ++ lines_in Text catalog lines
      → taken ++ more ≡ output_of Text (schedule_over catalog (events ++ event ∷ []))
  text-next taken kept more lines text printed pushed =
      let fresh = lines_in Text catalog (lines_of_transitions (transitions_of (setup_of catalog) is event)) in
      ap (λ (bytes : List ℕ). taken ++ bytes) pushed
      ∙ ap (λ (ls : List Line). taken ++ (kept ++ lines_in Text catalog ls)) printed
      ∙ ap (λ (declared : Declared). taken ++ (kept ++ lines_in Text catalog (lines_of_transitions (transitions_of (setup_of declared) is event)))) same
      ∙ sym (append_assoc taken kept fresh)
      ∙ ap (λ (bytes : List ℕ). bytes ++ fresh) text
      ∙ sym (output-more catalog events event)

-- What is taken is no longer kept.
pub taken-more : (taken kept output : List ℕ) (n : ℕ) → taken ++ kept ≡ output → (taken ++ take n kept) ++ drop n kept ≡ output
taken-more taken kept output n text =
    append_assoc taken (take n kept) (drop n kept) ∙ ap (λ (bytes : List ℕ). taken ++ bytes) (take-append-drop n kept) ∙ text

-- A world that is opened.
pub opened : (text own : List ℕ) (catalog : Declared) (world : World) (kept : List ℕ) → IsShort text → IsSchedule text (schedule_over catalog []) → own ≡ text
    → StandsFor world (opening (setup_of catalog)) → kept ≡ [] → HasOpened text (record { text = own; catalog = catalog; world = Some world; kept = kept })
opened text own catalog world kept short says same stands none = record {
  same = same;
  short = short;
  says = says;
  up = refl;
  run = record { world = stands; text = none ∙ sym (output-none catalog) };
}

module _ (old : Hosted) (events : List Event) (taken line : List ℕ) (world : World) (up : old.world ≡ Some world) where
  -- The answer where the world takes steps is the answer.
  where-up : {X : Type 0} (new : Hosted) (result : Result X WorldFault) → StepsOn old new events taken line result → Steps old new events taken line old.world result
  where-up new result on = subst (λ (o : Option World). Steps old new events taken line o result) (sym up) on

  -- A line that is refused leaves all as it was.
  refused-on : (new : Hosted) (fault : WorldFault) → RefusesLine old.text old.catalog line fault → new ≡ old → StepsOn old new events taken line {X = Unit {0}} (Err fault)
  refused-on new TooLong why same = (why, same)
  refused-on new (Malformed number cause) why same = (why, same)
  refused-on new HasEvents why same = absurd why
  refused-on new NotOneEvent why same = (why, same)
  refused-on new (SentLimit total) why same = absurd why
  refused-on new NoMemory why same = (why, same)
  refused-on new BrokenOff why same = absurd why
  refused-on new Closed why same = absurd why

  pub refused : (new : Hosted) (fault : WorldFault) → RefusesLine old.text old.catalog line fault → new ≡ old
      → Steps old new events taken line {X = Unit {0}} old.world (Err fault)
  refused new fault why same = where-up new (Err fault) (refused-on new fault why same)

  module _ (same : world.catalog ≡ old.catalog) (limit : world.mail.limit ≡ MAX_SENT) (has : HasRun old events taken) (event : Event)
      (says : SaysEvent old.text old.catalog line event) where
    abbrev here : model.World
    here = last_world (schedule_over old.catalog events)

    abbrev stands-here : StandsFor world here
    stands-here = stands-now old events taken world has up

    -- The step is made.
    pub stepped : (next : World) (kept : List ℕ) → ((is : model.World) → StandsFor world is → HasAdvanced world next old.kept kept event is)
        → Steps old (record old { world = Some next; kept = kept }) events taken line {X = Unit {0}} old.world (Ok tt)
    stepped next kept advances =
        let made = advances here stands-here in
        let pushed = subst (λ (declared : Declared). kept ≡ old.kept ++ lines_in Text declared (lines_of_transitions (transitions_of (setup_of world.catalog) here event)))
        same made.kept in
        where-up (record old { world = Some next; kept = kept }) (Ok tt) (
          event,
          record {
            says = says;
            within = within-next old.catalog events event world same limit next made.stands made.same;
            run = record {
              world = stands-next old.catalog events event world same limit next made.stands;
              text =
                  text-next old.catalog events event world same limit taken old.kept kept (lines_of_transitions (transitions_of (setup_of world.catalog) here event)) has.text refl pushed;
            };
            up = refl;
            same = refl;
          },
        )

    -- It isn't, and the world takes no more steps.
    ended-on : (next : World) (kept : List ℕ) (fault : WorldFault) → Advances world next old.kept kept event here {X = Unit {0}} (Err fault)
        → StepsOn old (record old { world = None; kept = kept }) events taken line {X = Unit {0}} (Err fault)
    ended-on next kept TooLong why = absurd why
    ended-on next kept (Malformed number cause) why = absurd why
    ended-on next kept HasEvents why = absurd why
    ended-on next kept NotOneEvent why = absurd why
    ended-on next kept (SentLimit total) why = (
      (event, record { says = says; over = over-next old.catalog events event world same limit total why.0 }),
      ap (λ (bytes : List ℕ). record old { world = None; kept = bytes }) why.1,
    )
    ended-on next kept NoMemory why = absurd why
    ended-on next kept BrokenOff why = ((event, says), ap (λ (bytes : List ℕ). record old { world = None; kept = bytes }) why)
    ended-on next kept Closed why = absurd why

    pub ended : (next : World) (kept : List ℕ) (fault : WorldFault)
        → ((is : model.World) → StandsFor world is → Advances world next old.kept kept event is {X = Unit {0}} (Err fault))
        → Steps old (record old { world = None; kept = kept }) events taken line {X = Unit {0}} old.world (Err fault)
    ended next kept fault advances =
        where-up (record old { world = None; kept = kept }) (Err fault) (ended-on next kept fault (advances here stands-here))

-- What a line leaves.
module _ (old : Hosted) (line : List ℕ) (world : World) (up : old.world ≡ Some world) where
  pub leaves-up : {X : Type 0} (new : Hosted) (result : Result X WorldFault) → LeavesOn old new line result → Leaves old new line old.world result
  leaves-up new result on = subst (λ (o : Option World). Leaves old new line o result) (sym up) on

  pub refused-leaves : (new : Hosted) (fault : WorldFault) → RefusesLine old.text old.catalog line fault → new ≡ old → LeavesOn {X = Unit {0}} old new line (Err fault)
  refused-leaves new TooLong why same = (why, same)
  refused-leaves new (Malformed number cause) why same = (why, same)
  refused-leaves new HasEvents why same = absurd why
  refused-leaves new NotOneEvent why same = (why, same)
  refused-leaves new (SentLimit total) why same = absurd why
  refused-leaves new NoMemory why same = (why, same)
  refused-leaves new BrokenOff why same = absurd why
  refused-leaves new Closed why same = absurd why

  pub ended-leaves : (next : World) (kept : List ℕ) (event : Event) (now : model.World) (fault : WorldFault)
      → Advances world next old.kept kept event now {X = Unit {0}} (Err fault) → LeavesOn {X = Unit {0}} old (record old { world = None; kept = kept }) line (Err fault)
  ended-leaves next kept event now (SentLimit total) advances = ap (λ (k : List ℕ). record old { world = None; kept = k }) advances.1
  ended-leaves next kept event now BrokenOff advances = ap (λ (k : List ℕ). record old { world = None; kept = k }) advances
  ended-leaves next kept event now TooLong advances = absurd advances
  ended-leaves next kept event now (Malformed number cause) advances = absurd advances
  ended-leaves next kept event now HasEvents advances = absurd advances
  ended-leaves next kept event now NotOneEvent advances = absurd advances
  ended-leaves next kept event now NoMemory advances = absurd advances
  ended-leaves next kept event now Closed advances = absurd advances
