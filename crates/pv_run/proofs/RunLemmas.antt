-- A run, event by event.
use Rattle.std.proofs.Common.{◌≡◌, ℕ, ◌≤◌, ◌<◌, zero, suc, All, List, [], ◌∷◌, ◌++◌, ◌-◌, map, length, drop, drop-cons, take, get_or, Option, Some, None, refl, sym, ap, ◌∙◌, subst, arith}
use Rattle.std.specs.Io.KnownBytes.{Appends}
use Rattle.std.proofs.KnownBytes.{Appends-trans}
use Rattle.std.proofs.lemmas.List.{append_assoc, drop-map}
use Rattle.std.proofs.lemmas.List.Elements.{All-append, All-nil}
use Rattle.pv_base.specs.Catalog.{Declared}
use Rattle.pv_base.specs.declared.limits.TheConstants.{MAX_SENT}
use Rattle.pv_io.specs.Stream.{AppendsPrefix, KnownAlike}
use Rattle.pv_io.specs.declared.sink.Sink.{Ghosts}
use Rattle.pv_model.specs.Events.{Schedule, Event}
use Rattle.pv_model.specs.Text.{TextLine}
use Rattle.pv_protocol.specs.Limit.{Output, over_limit, run_within, unless_over}
use Rattle.pv_protocol.specs.Lines.{Line}
use Rattle.pv_protocol.specs.Run.{lines_of_transitions, transitions_of, world_after}
use Rattle.pv_protocol.specs.State.{Setup}
use Rattle.pv_protocol.specs.World as model
use Rattle.pv_protocol.specs.World.{opening}
use Rattle.pv_report.specs.NamesOnlyItems.{NamesOnlyItems}
use Rattle.pv_script.specs.declared.schedule.Event as code
use Rattle.pv_script.specs.ScheduleView.{event_of}
use Rattle.pv_site.specs.SiteState.{setup_of}
use Rattle.pv_world.specs.Stands.{StandsFor}
use Rattle.pv_world.specs.Steps.{IsSameBeside}
use Rattle.pv_world.specs.declared.world.World.{World}
use Rattle.pv_run.specs.InputAnswers.{within_limit, written_within}
use Rattle.pv_run.specs.Traced.{event_text, said_in, said_texts, text_unless, text_within}
use Rattle.pv_run.specs.declared.form.Form.{Form}
use Rattle.pv_run.proofs.LimitLemmas.{written-begins}
use Rattle.pv_run.proofs.OutputLemmas.{AppendsPrefix-front, AppendsPrefix-after, both-empty}

-- the world after an event, and after several
abbrev pub after_event : Setup → model.World → Event → model.World
after_event setup world event = world_after world (transitions_of setup world event)

abbrev pub after_events : Setup → model.World → List Event → model.World
after_events setup world [] = world
after_events setup world (event ∷ events) = after_events setup (after_event setup world event) events

-- what a schedule is run with, and the world after so many of its events
abbrev pub setup_for : Schedule → Setup
setup_for schedule = setup_of schedule.catalog

abbrev pub world_at : Schedule → ℕ → model.World
world_at schedule done = after_events (setup_for schedule) (opening (setup_for schedule)) (take done schedule.events)

-- what is left to be printed after so many events
abbrev pub left_at : Schedule → ℕ → Output
left_at schedule done = run_within MAX_SENT (setup_for schedule) (world_at schedule done) (drop done schedule.events)

-- The world in memory is the one after `done` events, within the limit.
pub record IsInCourse (schedule : Schedule) (world : World) (done : ℕ) : Type 0 where
  pub stands : StandsFor world (world_at schedule done)
  pub catalog : world.catalog ≡ schedule.catalog
  pub limit : world.mail.limit ≡ MAX_SENT
  pub over : (left_at schedule done).over ≡ (within_limit schedule).over

-- what is left to be written then, where these lines of the schedule are left
abbrev pub text_at : Form → Schedule → List TextLine → ℕ → List ℕ
text_at form schedule said done = text_within form MAX_SENT (setup_for schedule) (world_at schedule done) said (drop done schedule.events)

-- And what is left to be written ends where all that is to be written ends. Where that is nothing, the sink is as it was.
pub record IsUnderWay {W : Type 0} (sink : Ghosts W) (form : Form) (all : List ℕ) (first now : W) (schedule : Schedule) (world : World) (said : List TextLine) (done : ℕ) : Type 0 where
  pub course : IsInCourse schedule world done
  pub whole : (end : Option (List ℕ)) → Appends (sink.held now) end (text_at form schedule said done) → Appends (sink.held first) end all
  pub prefix : (end : Option (List ℕ)) → AppendsPrefix (sink.held now) end (text_at form schedule said done) → AppendsPrefix (sink.held first) end all
  pub known : KnownAlike (sink.held first) (sink.held now)
  pub counted : sink.faults first ≤ sink.faults now
  pub none : all ≡ [] → (text_at form schedule said done ≡ []) × (now ≡ first)

-- And the lines so far, each of which can be printed, are what was to be printed before what is left.
pub record HasCollected (schedule : Schedule) (world : World) (done : ℕ) (so_far : List Line) : Type 0 where
  pub course : IsInCourse schedule world done
  pub whole : so_far ++ (left_at schedule done).lines ≡ (within_limit schedule).lines
  pub items : All (NamesOnlyItems schedule.catalog) so_far

-- the events, as the definitions see them
abbrev pub events_of : List code.Event → List Event
events_of events = map event_of events

-- the next of the program's events, as the definitions see it
pub drop-events_of : (events items : List code.Event) → events ≡ items → (i : ℕ) (e : code.Event) → i < length events → e ≡ get_or events i e
    → drop i (events_of items) ≡ event_of e ∷ drop (suc i) (events_of items)
drop-events_of events items same i e below is =
    ap (λ (es : List code.Event). drop i (events_of es)) (sym same)
    ∙ drop-map event_of i events
    ∙ ap events_of (drop-cons events i e below)
    ∙ ap (λ (l : List Event). event_of (get_or events i e) ∷ l) (sym (drop-map event_of (suc i) events))
    ∙ ap (λ (es : List code.Event). event_of (get_or events i e) ∷ drop (suc i) (events_of es)) same
    ∙ ap (λ (x : code.Event). event_of x ∷ drop (suc i) (events_of items)) (sym is)

-- What holds of all elements holds of the next one.
pub All-next : {A : Type 0} (P : A → Type 0) (xs : List A) (i : ℕ) (x : A) (rest : List A) → All P xs → drop i xs ≡ x ∷ rest → P x
All-next P [] zero x rest all split = cc
All-next P [] (suc i) x rest all split = cc
All-next P (y ∷ ys) zero x rest all split = let same : y ≡ x = cc in subst P same (all 0 y (omega arith))
All-next P (y ∷ ys) (suc i) x rest all split = All-next P ys i x rest (λ k d below. all (suc k) d (omega (arith, below))) split

-- What holds of the images of all elements holds of the image of the next one.
pub All-mapped : {A B : Type 0} (P : B → Type 0) (f : A → B) (xs : List A) (i : ℕ) (x : A) → All P (map f xs) → i < length xs → x ≡ get_or xs i x → P (f x)
All-mapped P f [] i x all below is = absurd (omega (arith, below))
All-mapped P f (y ∷ ys) zero x all below is = subst P (ap f (sym is)) (all 0 (f y) (omega arith))
All-mapped P f (y ∷ ys) (suc i) x all below is = All-mapped P f ys i x (λ k d b. all (suc k) d (omega (arith, b))) (omega (arith, below)) is

-- nothing is behind the end
drop-end : {A : Type 0} (xs : List A) (i : ℕ) → length xs ≤ i → drop i xs ≡ []
drop-end [] zero end = refl
drop-end [] (suc i) end = refl
drop-end (x ∷ xs) zero end = absurd (omega (arith, end))
drop-end (x ∷ xs) (suc i) end = drop-end xs i (omega (arith, end))

-- After all events nothing is left to be printed, and the limit wasn't passed.
pub left-at-end : (schedule : Schedule) (items : List code.Event) (done : ℕ) → schedule.events ≡ events_of items → length items ≤ done
    → left_at schedule done ≡ record { lines = []; over = None }
left-at-end schedule items done same end =
    ap (λ (events : List Event). run_within MAX_SENT (setup_for schedule) (world_at schedule done) events)
    (ap (drop done) same ∙ drop-map event_of done items ∙ ap events_of (drop-end items done end))

-- Nor is anything left to be written.
pub text-at-end : (form : Form) (schedule : Schedule) (said : List TextLine) (items : List code.Event) (done : ℕ) → schedule.events ≡ events_of items → length items ≤ done
    → text_at form schedule said done ≡ []
text-at-end form schedule said items done same end =
    ap (λ (events : List Event). text_within form MAX_SENT (setup_for schedule) (world_at schedule done) said events)
    (ap (drop done) same ∙ drop-map event_of done items ∙ ap events_of (drop-end items done end))

-- the world after one event more
after-next : (setup : Setup) (world : model.World) (events : List Event) (i : ℕ) (event : Event) (rest : List Event) → drop i events ≡ event ∷ rest
    → after_events setup world (take (suc i) events) ≡ after_event setup (after_events setup world (take i events)) event
after-next setup world [] zero event rest split = cc
after-next setup world [] (suc i) event rest split = cc
after-next setup world (e ∷ events) zero event rest split = let same : e ≡ event = cc in ap (after_event setup world) same
after-next setup world (e ∷ events) (suc i) event rest split = after-next setup (after_event setup world e) events i event rest split

pub course-start : (schedule : Schedule) (world : World)
    → StandsFor world (opening (setup_for schedule)) → world.catalog ≡ schedule.catalog → world.mail.limit ≡ MAX_SENT → IsInCourse schedule world 0
unfolding within_limit
course-start schedule world stands catalog limit = record { stands = stands; catalog = catalog; limit = limit; over = refl }

-- What is written is the lines that declare something, where they are written, and then the events.
pub opens : (form : Form) (input : List ℕ) (schedule : Schedule) (said : List TextLine) (last : ℕ) → said ≡ said_in form input → last ≡ length schedule.events
    → written_within form input schedule ≡ said_texts (take (length said - last) said) ++ text_at form schedule (drop (length said - last) said) 0
opens form input schedule said last are count =
    let all = sym are in
    let events = sym count in
    written-begins form input schedule
    ∙ (λ i. said_texts (take (length (all i) - events i) (all i))
    ++ text_within form MAX_SENT (setup_for schedule) (opening (setup_for schedule)) (drop (length (all i) - events i) (all i)) schedule.events)

-- The first of these were written, and then the events come.
pub start : {W : Type 0} (sink : Ghosts W) (form : Form) (all front : List ℕ) (first now : W) (schedule : Schedule) (world : World) (left said : List TextLine)
    → IsInCourse schedule world 0 → all ≡ front ++ text_at form schedule left 0 → said ≡ left → Appends (sink.held first) (sink.held now) front
    → KnownAlike (sink.held first) (sink.held now) → sink.faults first ≤ sink.faults now → (front ≡ [] → now ≡ first)
    → IsUnderWay sink form all first now schedule world said 0
start sink form all front first now schedule world left said course begins rest written known counted same =
    let more = text_at form schedule said 0 in
    let both : all ≡ front ++ more = begins ∙ ap (λ (ls : List TextLine). front ++ text_at form schedule ls 0) (sym rest) in
    record {
      course = course;
      whole = λ end p. subst (Appends (sink.held first) end) (sym both) (Appends-trans (sink.held first) (sink.held now) end front more written p);
      prefix = λ end p. subst (AppendsPrefix (sink.held first) end) (sym both) (AppendsPrefix-after (sink.held first) (sink.held now) end front more written p);
      known = known;
      counted = counted;
      none = λ none. let empty = both-empty front more (sym both ∙ none) in (empty.1, same empty.0);
    }

pub collect-start : (schedule : Schedule) (world : World)
    → StandsFor world (opening (setup_for schedule)) → world.catalog ≡ schedule.catalog → world.mail.limit ≡ MAX_SENT → HasCollected schedule world 0 []
unfolding within_limit
collect-start schedule world stands catalog limit = record {
  course = course-start schedule world stands catalog limit;
  whole = refl;
  items = All-nil (NamesOnlyItems schedule.catalog);
}

module _ (schedule : Schedule) (world : World) (done : ℕ) (event : Event)
    (course : IsInCourse schedule world done) (split : drop done schedule.events ≡ event ∷ drop (suc done) schedule.events) where
  abbrev setup : Setup
  setup = setup_for schedule

  abbrev is : model.World
  is = world_at schedule done

  abbrev pub lines : List Line
  lines = lines_of_transitions (transitions_of setup is event)

  abbrev pub after : model.World
  after = after_event setup is event

  next-world : world_at schedule (suc done) ≡ after
  next-world = after-next setup (opening setup) schedule.events done event (drop (suc done) schedule.events) split

  abbrev rest : Output
  rest = run_within MAX_SENT setup after (drop (suc done) schedule.events)

  left-is : left_at schedule done ≡ unless_over (over_limit MAX_SENT after) lines rest
  left-is = ap (λ (events : List Event). run_within MAX_SENT setup is events) split

  rest-is : left_at schedule (suc done) ≡ rest
  rest-is = ap (λ (w : model.World). run_within MAX_SENT setup w (drop (suc done) schedule.events)) next-world

  abbrev text-rest : Form → List TextLine → List ℕ
  text-rest form said = text_within form MAX_SENT setup after (drop 1 said) (drop (suc done) schedule.events)

  text-is : (form : Form) (said : List TextLine)
      → text_at form schedule said done ≡ text_unless (over_limit MAX_SENT after) (event_text form schedule.catalog said lines ++ text-rest form said)
  text-is form said = ap (λ (events : List Event). text_within form MAX_SENT setup is said events) split

  -- What a step says of the world in memory, said of the schedule's own catalog and limit.

  pub printed-by : (printed : List Line) → printed ≡ lines_of_transitions (transitions_of (setup_of world.catalog) is event) → printed ≡ lines
  printed-by printed same = subst (λ (catalog : Declared). printed ≡ lines_of_transitions (transitions_of (setup_of catalog) is event)) course.catalog same

  pub stands-after : (new : World) → StandsFor new (after_event (setup_of world.catalog) is event) → StandsFor new after
  stands-after new stands = subst (λ (catalog : Declared). StandsFor new (after_event (setup_of catalog) is event)) course.catalog stands

  pub within-after : (new : World) → StandsFor new (after_event (setup_of world.catalog) is event) → IsSameBeside world new → over_limit MAX_SENT after ≡ None
  within-after new stands beside =
      subst (λ (limit : ℕ). over_limit limit after ≡ None) (beside.limit ∙ course.limit) (stands-after new stands).stands.within

  over-after : (total : ℕ) → over_limit world.mail.limit (after_event (setup_of world.catalog) is event) ≡ Some total → over_limit MAX_SENT after ≡ Some total
  over-after total over =
      subst (λ (limit : ℕ). over_limit limit after ≡ Some total) course.limit
      (subst (λ (catalog : Declared). over_limit world.mail.limit (after_event (setup_of catalog) is event) ≡ Some total) course.catalog over)

  -- The limit is passed in this event, and nothing is left to be written.
  pub text-none : (form : Form) (said : List TextLine) (total : ℕ) → over_limit world.mail.limit (after_event (setup_of world.catalog) is event) ≡ Some total
      → text_at form schedule said done ≡ []
  text-none form said total passed =
      text-is form said ∙ ap (λ (o : Option ℕ). text_unless o (event_text form schedule.catalog said lines ++ text-rest form said)) (over-after total passed)

  -- Nor is anything left to be printed.
  pub passes : (total : ℕ) → over_limit world.mail.limit (after_event (setup_of world.catalog) is event) ≡ Some total
      → (Some total ≡ (within_limit schedule).over) × ((left_at schedule done).lines ≡ [])
  passes total passed =
      let over = over-after total passed in
      let left : left_at schedule done ≡ record { lines = []; over = Some total } = left-is ∙ ap (λ (o : Option ℕ). unless_over o lines rest) over in
      (sym (ap (λ (o : Output). o.over) left) ∙ course.over, ap (λ (o : Output). o.lines) left)

  module _ (within : over_limit MAX_SENT after ≡ None) where
    left-within : left_at schedule done ≡ record { lines = lines ++ (left_at schedule (suc done)).lines; over = (left_at schedule (suc done)).over }
    left-within =
        left-is ∙ ap (λ (o : Option ℕ). unless_over o lines rest) within
        ∙ ap (λ (o : Output). unless_over None lines o) (sym rest-is)

    pub lines-within : (left_at schedule done).lines ≡ lines ++ (left_at schedule (suc done)).lines
    lines-within = ap (λ (o : Output). o.lines) left-within

    pub text-one : (form : Form) (said : List TextLine)
        → text_at form schedule said done ≡ event_text form schedule.catalog said lines ++ text_at form schedule (drop 1 said) (suc done)
    text-one form said =
        text-is form said ∙ ap (λ (o : Option ℕ). text_unless o (event_text form schedule.catalog said lines ++ text-rest form said)) within
        ∙ ap (λ (w : model.World). event_text form schedule.catalog said lines ++ text_within form MAX_SENT setup w (drop 1 said) (drop (suc done) schedule.events)) (sym next-world)

    -- The next event comes.
    pub course-on : (new : World) → StandsFor new after → IsSameBeside world new → IsInCourse schedule new (suc done)
    course-on new stands beside = record {
      stands = subst (StandsFor new) (sym next-world) stands;
      catalog = beside.catalog ∙ course.catalog;
      limit = beside.limit ∙ course.limit;
      over = sym (ap (λ (o : Output). o.over) left-within) ∙ course.over;
    }

-- The event is written, and the next one comes.
pub go_on : {W : Type 0} (sink : Ghosts W) (form : Form) (all : List ℕ) (first now next : W) (schedule : Schedule) (world : World) (said : List TextLine) (done : ℕ) (event : Event)
    (way : IsUnderWay sink form all first now schedule world said done) (split : drop done schedule.events ≡ event ∷ drop (suc done) schedule.events)
    (within : over_limit MAX_SENT (after schedule world done event way.course split) ≡ None)
    (new : World) → StandsFor new (after schedule world done event way.course split) → IsSameBeside world new
    → Appends (sink.held now) (sink.held next) (event_text form schedule.catalog said (lines schedule world done event way.course split))
    → KnownAlike (sink.held now) (sink.held next) → sink.faults now ≤ sink.faults next
    → (event_text form schedule.catalog said (lines schedule world done event way.course split) ≡ [] → next ≡ now)
    → IsUnderWay sink form all first next schedule new (drop 1 said) (suc done)
go_on sink form all first now next schedule world said done event way split within new stands beside written known counted same =
    let text = event_text form schedule.catalog said (lines schedule world done event way.course split) in
    let more = text_at form schedule (drop 1 said) (suc done) in
    let both = text-one schedule world done event way.course split within form said in
    record {
      course = course-on schedule world done event way.course split within new stands beside;
      whole = λ end p. way.whole end (subst (Appends (sink.held now) end) (sym both) (Appends-trans (sink.held now) (sink.held next) end text more written p));
      prefix = λ end p. way.prefix end (subst (AppendsPrefix (sink.held now) end) (sym both) (AppendsPrefix-after (sink.held now) (sink.held next) end text more written p));
      known = known ∙ way.known;
      counted = omega (arith, way.counted, counted);
      none = λ none. let empty = both-empty text more (sym both ∙ (way.none none).0) in (empty.1, same empty.0 ∙ (way.none none).1);
    }

-- A beginning of the event is written.
pub give_up : {W : Type 0} (sink : Ghosts W) (form : Form) (all : List ℕ) (first now next : W) (schedule : Schedule) (world : World) (said : List TextLine) (done : ℕ) (event : Event)
    (way : IsUnderWay sink form all first now schedule world said done) (split : drop done schedule.events ≡ event ∷ drop (suc done) schedule.events)
    → over_limit MAX_SENT (after schedule world done event way.course split) ≡ None
    → AppendsPrefix (sink.held now) (sink.held next) (event_text form schedule.catalog said (lines schedule world done event way.course split))
    → AppendsPrefix (sink.held first) (sink.held next) all
give_up sink form all first now next schedule world said done event way split within written =
    way.prefix (sink.held next) (subst (AppendsPrefix (sink.held now) (sink.held next)) (sym (text-one schedule world done event way.course split within form said))
    (AppendsPrefix-front (sink.held now) (sink.held next) (event_text form schedule.catalog said (lines schedule world done event way.course split))
    (text_at form schedule (drop 1 said) (suc done)) written))

-- Where nothing is written in all, nothing is written of the event.
pub no_text : {W : Type 0} (sink : Ghosts W) (form : Form) (all : List ℕ) (first now : W) (schedule : Schedule) (world : World) (said : List TextLine) (done : ℕ) (event : Event)
    (way : IsUnderWay sink form all first now schedule world said done) (split : drop done schedule.events ≡ event ∷ drop (suc done) schedule.events)
    → over_limit MAX_SENT (after schedule world done event way.course split) ≡ None → all ≡ []
    → event_text form schedule.catalog said (lines schedule world done event way.course split) ≡ []
no_text sink form all first now schedule world said done event way split within none =
    (both-empty (event_text form schedule.catalog said (lines schedule world done event way.course split)) (text_at form schedule (drop 1 said) (suc done))
    (sym (text-one schedule world done event way.course split within form said) ∙ (way.none none).0)).0

-- The event's lines are collected, and the next event comes.
pub collect_on : (schedule : Schedule) (world : World) (done : ℕ) (so_far : List Line) (event : Event)
    (collected : HasCollected schedule world done so_far) (split : drop done schedule.events ≡ event ∷ drop (suc done) schedule.events)
    (within : over_limit MAX_SENT (after schedule world done event collected.course split) ≡ None)
    (new : World) → StandsFor new (after schedule world done event collected.course split) → IsSameBeside world new
    → All (NamesOnlyItems schedule.catalog) (lines schedule world done event collected.course split)
    → HasCollected schedule new (suc done) (so_far ++ lines schedule world done event collected.course split)
collect_on schedule world done so_far event collected split within new stands beside items =
    let now = lines schedule world done event collected.course split in
    let more = (left_at schedule (suc done)).lines in
    record {
      course = course-on schedule world done event collected.course split within new stands beside;
      whole =
          append_assoc so_far now more
          ∙ sym (ap (λ (ls : List Line). so_far ++ ls) (lines-within schedule world done event collected.course split within))
          ∙ collected.whole;
      items = All-append (NamesOnlyItems schedule.catalog) so_far now collected.items items;
    }
