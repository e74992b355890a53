-- A run, event by event, and that it prints only items of the catalog.
use Rattle.std.proofs.Common.{◌≡◌, ℕ, ◌+◌, ◌<◌, List, [], ◌∷◌, ◌++◌, All, length, map, take, get_or, refl, sym, ap, ◌∙◌, subst, arith, append_assoc}
use Rattle.std.proofs.lemmas.Grind.{flat_map-append}
use Rattle.std.proofs.lemmas.List.{append-nil, get_or-map, length-map, map-append, map_more}
use Rattle.std.proofs.lemmas.List.Elements.{All-append, All-cons, All-nil, All-push, All-same}
use Rattle.pv_base.specs.Catalog.{Declared}
use Rattle.pv_law_lines.proofs.LineItems.{lines-name-items}
use Rattle.pv_law_world.proofs.AppendLemmas.{run-append, world_after-append}
use Rattle.pv_model.specs.Events.{Event, report, total}
use Rattle.pv_protocol.specs.Lines.{Line}
use Rattle.pv_protocol.specs.Run.{lines_of_transitions, printed, run, transitions_of, world_after}
use Rattle.pv_protocol.specs.State.{Setup}
use Rattle.pv_protocol.specs.WellFormed.{IsWellFormed}
use Rattle.pv_protocol.specs.World as model
use Rattle.pv_protocol.specs.World.{opening}
use Rattle.pv_protocol.specs.WorldStep.{Transition}
use Rattle.pv_report.specs.NamesOnlyItems.{NamesOnlyItems}
use Rattle.pv_script.specs.LineView.{line_of}
use Rattle.pv_script.specs.ScheduleView.{HasPlan, event_of}
use Rattle.pv_script.specs.declared.line.Line as told
use Rattle.pv_script.specs.declared.schedule.Event as given
use Rattle.pv_script.specs.declared.schedule.Event.TheVariants.{Report, Total}
use Rattle.pv_site.specs.SiteState.{setup_of}
use Rattle.pv_transcript.specs.Transcript.{with_reports}
use Rattle.pv_world.specs.Stands.{StandsFor}
use Rattle.pv_world.specs.Steps.{IsSameBeside}
use Rattle.pv_world.specs.declared.world.World.{World}
use Rattle.pv_live.specs.Lived.{world_of}

-- What holds of the images of all elements holds of that of the next one.
pub mapped-at : {A B : Type 0} (P : B → Type 0) (f : A → B) (xs : List A) (i : ℕ) (x : A) → All P (map f xs) → i < length xs → x ≡ get_or xs i x → P (f x)
mapped-at P f xs i x all below is =
    subst P (get_or-map f xs i x (f x) below ∙ ap f (sym is)) (all i (f x) (omega (arith, below, length-map xs f)))

-- ---- one event more
module _ (setup : Setup) (before : List Event) (event : Event) where
  abbrev now : List Transition
  now = transitions_of setup (world_of setup before) event

  one-more : run setup (opening setup) (before ++ event ∷ []) ≡ run setup (opening setup) before ++ now
  one-more = run-append setup (opening setup) before (event ∷ []) ∙ ap (λ (more : List Transition). run setup (opening setup) before ++ more) (append-nil now)

  world-next : world_of setup (before ++ event ∷ []) ≡ world_after (world_of setup before) now
  world-next = ap (world_after (opening setup)) one-more ∙ world_after-append (opening setup) (run setup (opening setup) before) now

  printed-next : printed setup (before ++ event ∷ []) ≡ printed setup before ++ lines_of_transitions now
  unfolding printed
  printed-next = ap lines_of_transitions one-more ∙ flat_map-append (λ (transition : Transition). transition.lines) (run setup (opening setup) before) now

printed-none : (setup : Setup) → printed setup [] ≡ []
unfolding printed
printed-none setup = refl

-- The world in memory is the one after so many events, which have printed these lines.
pub record HasPrinted (catalog : Declared) (events : List given.Event) (world : World) (count : ℕ) (lines : List told.Line) : Type 0 where
  pub stands : StandsFor world (world_of (setup_of catalog) (map event_of (take count events)))
  pub catalog_is : world.catalog ≡ catalog
  pub so_far : map line_of lines ≡ printed (setup_of catalog) (map event_of (take count events))

pub printed-start : (catalog : Declared) (events : List given.Event) (world : World) (lines : List told.Line) → StandsFor world (opening (setup_of catalog)) → world.catalog ≡ catalog
    → lines ≡ [] → HasPrinted catalog events world 0 lines
printed-start catalog events world lines stands same none = record {
  stands = stands;
  catalog_is = same;
  so_far = ap (map line_of) none ∙ sym (printed-none (setup_of catalog));
}

module _ (catalog : Declared) (events : List given.Event) (world new : World) (count : ℕ) (lines more all : List told.Line) (event : given.Event)
    (has : HasPrinted catalog events world count lines) (below : count < length events) (is : event ≡ get_or events count event) where
  abbrev setup : Setup
  setup = setup_of catalog

  abbrev before : List Event
  before = map event_of (take count events)

  abbrev pub here : model.World
  here = world_of setup before

  events-next : map event_of (take (count + 1) events) ≡ before ++ event_of event ∷ []
  events-next = map_more event_of events count event below ∙ ap (λ (next : given.Event). before ++ event_of next ∷ []) (sym is)

  pub printed-on : StandsFor new (world_after here (transitions_of (setup_of world.catalog) here (event_of event))) → IsSameBeside world new
      → map line_of more ≡ lines_of_transitions (transitions_of (setup_of world.catalog) here (event_of event)) → all ≡ lines ++ more
      → HasPrinted catalog events new (count + 1) all
  printed-on stands beside lines_are pushed =
      let then : StandsFor new (world_after here (transitions_of setup here (event_of event))) =
      subst (λ (c : Declared). StandsFor new (world_after here (transitions_of (setup_of c) here (event_of event)))) has.catalog_is stands in
      let its : map line_of more ≡ lines_of_transitions (transitions_of setup here (event_of event)) =
      subst (λ (c : Declared). map line_of more ≡ lines_of_transitions (transitions_of (setup_of c) here (event_of event))) has.catalog_is lines_are in
      record {
        stands = subst (StandsFor new) (sym (ap (world_of setup) events-next ∙ world-next setup before (event_of event))) then;
        catalog_is = beside.catalog ∙ has.catalog_is;
        so_far =
            ap (map line_of) pushed ∙ map-append line_of lines more ∙ (λ i. has.so_far i ++ its i)
            ∙ sym (ap (λ (them : List Event). printed setup them) events-next ∙ printed-next setup before (event_of event));
      }

-- After all events all is printed.
pub printed-all : (catalog : Declared) (events : List given.Event) (world : World) (count : ℕ) (lines : List told.Line) → HasPrinted catalog events world count lines
    → take count events ≡ events → map line_of lines ≡ printed (setup_of catalog) (map event_of events)
printed-all catalog events world count lines has all =
    has.so_far ∙ ap (λ (them : List given.Event). printed (setup_of catalog) (map event_of them)) all

-- ---- items
module _ (setup : Setup) where
  abbrev Fine : Line → Type 0
  Fine = NamesOnlyItems setup.catalog

  run-fine : (world : model.World) (events : List Event) → All Fine (lines_of_transitions (run setup world events))
  run-fine world [] = All-nil Fine
  run-fine world (event ∷ events) =
      let now = transitions_of setup world event in
      let rest = run setup (world_after world now) events in
      All-same Fine (lines_of_transitions (now ++ rest)) (lines_of_transitions now ++ lines_of_transitions rest)
      (flat_map-append (λ (transition : Transition). transition.lines) now rest)
      (All-append Fine (lines_of_transitions now) (lines_of_transitions rest) (lines-name-items setup world event) (run-fine (world_after world now) events))

  pub printed-fine : (events : List Event) → All Fine (printed setup events)
  unfolding printed
  printed-fine events = run-fine (opening setup) events

-- ---- the reports at the end
pub reports-behind : (first second third : List given.Event) (events : List Event) → second ≡ first ++ Report ∷ [] → third ≡ second ++ Total ∷ [] → map event_of first ≡ events
    → map event_of third ≡ with_reports events
reports-behind first second third events one two is =
    ap (map event_of) (two ∙ ap (λ (front : List given.Event). front ++ Total ∷ []) one ∙ append_assoc first (Report ∷ []) (Total ∷ []))
    ∙ map-append event_of first (Report ∷ Total ∷ [])
    ∙ ap (λ (front : List Event). front ++ report ∷ total ∷ []) is

pub reports-planned : (catalog : Declared) (first second third : List given.Event) → second ≡ first ++ Report ∷ [] → third ≡ second ++ Total ∷ [] → All (HasPlan catalog) first
    → All (HasPlan catalog) third
reports-planned catalog first second third one two all =
    All-same (HasPlan catalog) third (second ++ Total ∷ []) two
    (All-push (HasPlan catalog) second Total (All-same (HasPlan catalog) second (first ++ Report ∷ []) one (All-push (HasPlan catalog) first Report all tt)) tt)

pub reports-well : (catalog : Declared) (events : List Event) → All (IsWellFormed catalog) events → All (IsWellFormed catalog) (with_reports events)
reports-well catalog events all =
    All-append (IsWellFormed catalog) events (report ∷ total ∷ []) all
    (All-cons (IsWellFormed catalog) report (total ∷ []) tt (All-cons (IsWellFormed catalog) total [] tt (All-nil (IsWellFormed catalog))))

-- The parts of a text, each put behind those before it.
pub four-parts : (start one two three four a b c d : List ℕ) → start ≡ [] → one ≡ start ++ a → two ≡ one ++ b → three ≡ two ++ c → four ≡ three ++ d → four ≡ a ++ ((b ++ c) ++ d)
four-parts start one two three four a b c d none first second third last =
    last
    ∙ ap (λ (front : List ℕ). front ++ d)
    (third ∙ ap (λ (front : List ℕ). front ++ c) (second ∙ ap (λ (front : List ℕ). front ++ b) (first ∙ ap (λ (front : List ℕ). front ++ a) none)))
    ∙ append_assoc (a ++ b) c d ∙ append_assoc a b (c ++ d) ∙ ap (λ (back : List ℕ). a ++ back) (sym (append_assoc b c d))
