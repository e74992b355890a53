-- What is given to a process is an event of the run, and what is given one after another are events one after another.
use Rattle.std.proofs.Common.{◌≡◌, ◌≢◌, ℕ, zero, suc, ◌+◌, ◌<◌, Bool, true, false, if◌then◌else◌, Option, Some, None, List, [], ◌∷◌, ◌++◌, length, map, set, get_or, All, append_assoc, append-nil, get_or-set_same, get_or-set_other, refl, sym, ap, ap₂, ◌∙◌, subst}
use Rattle.std.specs.Prelude.{slice_get, option_to_list}
use Rattle.std.specs.List.{Contains}
use Rattle.std.proofs.lemmas.List.{length-set, map-append}
use Rattle.std.proofs.lemmas.List.Elements.{All-nil, All-cons, All-append, All-weaker, Contains-append_left}
use Rattle.pv_base.specs.declared.txn.TxnId.{TxnId}
use Rattle.pv_format.specs.Message.{Envelope}
use Rattle.pv_format.specs.Record.{Record}
use Rattle.pv_law_step.proofs.Lists.{OfSome}
use Rattle.pv_law_world.proofs.AppendLemmas.{run-append}
use Rattle.pv_law_world.proofs.GrowthLemmas.{Extends, same}
use Rattle.pv_law_world.specs.Transitions.{site_of}
use Rattle.pv_model.specs.Events as events
use Rattle.pv_model.specs.Events.{Event}
use Rattle.pv_model.specs.Syntax.{Program}
use Rattle.pv_protocol.specs.Arms.{waits, calls_of, reached, attempted, completed}
use Rattle.pv_protocol.specs.Attempt.{Attempt, attempts, begun, given, delivered, opened, of_start, of_step}
use Rattle.pv_protocol.specs.Lines.{Line, line_of, lines_of}
use Rattle.pv_protocol.specs.Run.{run, transitions_of, world_after}
use Rattle.pv_protocol.specs.Start.{site_start}
use Rattle.pv_protocol.specs.State.{Setup, Site, Arm, Placed, Running, Input, Outgoing, Note, submit, receive, tick}
use Rattle.pv_protocol.specs.Step.{site_step}
use Rattle.pv_protocol.specs.WellFormed.{IsWellFormed}
use Rattle.pv_protocol.specs.World.{World, no_site, site_at, with_done, from_site}
use Rattle.pv_protocol.specs.WorldStep.{Transition, transition_of, ended}
use Rattle.pv_embed.specs.Held.{Out, message, note}
use Rattle.pv_embed.specs.Outputs.{outs}
use Rattle.pv_law_hosted.proofs.RunLemmas.{after-append, made-append, made-own, made-other}
use Rattle.pv_law_hosted.proofs.WithinLemmas.{within-same, within-append}
use Rattle.pv_law_hosted.specs.Asked.{Asked, asked_as}
use Rattle.pv_law_hosted.specs.Given.{Content}
use Rattle.pv_law_hosted.specs.Made.{Made, IsWithin, sends, prints, made_as, made_in, made_from}
use Rattle.pv_law_hosted.specs.Made as made
use Rattle.pv_law_hosted.specs.Mirrored as mirrored
use Rattle.pv_law_hosted.specs.Mirrored.{IsBegunIn, IsSeenAs, WorksAsBegun, plain_site, unborn}

-- What a request begins in the transition was asked for of this site, and was last of what got this number.
abbrev pub IsAskedOf : ℕ → List Asked → Transition → Type 0
IsAskedOf n asked transition =
    (m : ℕ) (query : Bool) (text : List ℕ) (program : Program) (txn : TxnId) → transition.event ≡ events.submit m query text program
    → Contains transition.lines (Line.txn txn) → (m ≡ n) × (asked_as asked txn ≡ Some program)

-- What the site works on has begun in these transitions; and what it puts into the order.
abbrev pub WorksOn : ℕ → List Transition → World → Type 0
WorksOn n transitions world = (running : Running) → (site_at world n).running ≡ Some running → All (WorksAsBegun transitions n) running.entries

abbrev pub IsPlacedOf : ℕ → List Transition → Placed → Type 0
IsPlacedOf n transitions placed = IsBegunIn transitions n placed.txn placed.program

abbrev pub PlacesOnly : ℕ → List Transition → World → World → Type 0
PlacesOnly n transitions world after = (more : List Placed) × ((after.order ≡ world.order ++ more) × All (IsPlacedOf n transitions) more)

-- What has begun has, where more came after it.
pub begun-more : (transitions more : List Transition) (n : ℕ) (txn : TxnId) (program : Program) → IsBegunIn transitions n txn program
    → IsBegunIn (transitions ++ more) n txn program
begun-more transitions more n txn program is = record {
  home = is.home;
  transition = is.transition;
  there = Contains-append_left transitions more is.transition is.there;
  query = is.query;
  text = is.text;
  event = is.event;
  printed = is.printed;
}

all-placed : (P : Placed → Type 0) (placed : Option Placed) → OfSome P placed → All P (option_to_list placed)
all-placed P None of = All-nil P
all-placed P (Some placed) of = All-cons P placed [] of (All-nil P)

-- After these events the site stands for this content, and this is what it made; for the other sites nothing has happened.
pub record Settles (setup : Setup) (world : World) (n : ℕ) (asked : List Asked) (content : Content) (out : List Out) (more : List Event) : Type 0 where
  pub well : All (IsWellFormed setup.catalog) more
  pub width : length (world_after world (run setup world more)).sites ≡ length world.sites
  pub seen : IsSeenAs content (site_at (world_after world (run setup world more)) n)
  pub others : (m : ℕ) → n ≢ m → site_at (world_after world (run setup world more)) m ≡ site_at world m
  pub own : IsWithin n (map (made_as n) out) (made_from n world (run setup world more))
  pub silent : (m : ℕ) → n ≢ m → made_from m world (run setup world more) ≡ []
  pub sent : Extends world.sent (world_after world (run setup world more)).sent
  pub asked_for : All (IsAskedOf n asked) (run setup world more)
  pub programs : (before : List Transition) → WorksOn n before world
      → WorksOn n (before ++ run setup world more) (world_after world (run setup world more))
      × PlacesOnly n (before ++ run setup world more) world (world_after world (run setup world more))

module _ (setup : Setup) (n : ℕ) where
  -- nothing happens
  pub settles-nothing : (asked : List Asked) (world : World) (content : Content) → IsSeenAs content (site_at world n) → Settles setup world n asked content [] []
  settles-nothing asked world content seen = record {
    well = All-nil (IsWellFormed setup.catalog);
    width = refl;
    seen = seen;
    others = λ m apart. refl;
    own = made.none;
    silent = λ m apart. refl;
    sent = same world.sent;
    asked_for = All-nil (IsAskedOf n asked);
    programs = λ before own.
        (subst (λ (l : List Transition). WorksOn n l world) (sym (append-nil before)) own, ([], (sym (append-nil world.order), All-nil (IsPlacedOf n (before ++ [])))));
  }

  -- some events and then more
  pub settles-then : (asked : List Asked) (world : World) (content later : Content) (out out_more : List Out) (events more : List Event) → Settles setup world n asked content out events
      → Settles setup (world_after world (run setup world events)) n asked later out_more more → Settles setup world n asked later (out ++ out_more) (events ++ more)
  settles-then asked world content later out out_more events more first then_on =
      let mid = world_after world (run setup world events) in
      let end = world_after mid (run setup mid more) in
      let is : world_after world (run setup world (events ++ more)) ≡ end = after-append setup world events more in
      record {
        well = All-append (IsWellFormed setup.catalog) events more first.well then_on.well;
        width = ap (λ (w : World). length w.sites) is ∙ then_on.width ∙ first.width;
        seen = subst (λ (w : World). IsSeenAs later (site_at w n)) (sym is) then_on.seen;
        others = λ m apart. ap (λ (w : World). site_at w m) is ∙ then_on.others m apart ∙ first.others m apart;
        own = subst (λ (out' : List Made). IsWithin n out' (made_from n world (run setup world (events ++ more)))) (sym (map-append (made_as n) out out_more))
            (subst (IsWithin n (map (made_as n) out ++ map (made_as n) out_more)) (sym (made-append setup n world events more))
            (within-append n (map (made_as n) out) (made_from n world (run setup world events)) (map (made_as n) out_more) (made_from n mid (run setup mid more)) first.own then_on.own));
        silent = λ m apart.
            made-append setup m world events more ∙ ap₂ (λ (a b : List Made). a ++ b) (first.silent m apart) (then_on.silent m apart);
        sent = (
          first.sent.0 ++ then_on.sent.0,
          ap (λ (w : World). w.sent) is ∙ then_on.sent.1 ∙ ap (λ (l : List Envelope). l ++ then_on.sent.0) first.sent.1
              ∙ append_assoc world.sent first.sent.0 then_on.sent.0,
        );
        asked_for = subst (All (IsAskedOf n asked)) (sym (run-append setup world events more))
            (All-append (IsAskedOf n asked) (run setup world events) (run setup mid more) first.asked_for then_on.asked_for);
        programs = λ before own.
            let first_run = run setup world events in
            let second_run = run setup mid more in
            let a = first.programs before own in
            let b = then_on.programs (before ++ first_run) a.0 in
            let all : (before ++ first_run) ++ second_run ≡ before ++ run setup world (events ++ more) =
            append_assoc before first_run second_run ∙ ap (λ (l : List Transition). before ++ l) (sym (run-append setup world events more)) in (
              subst (λ (l : List Transition). WorksOn n l (world_after world (run setup world (events ++ more)))) all
                  (subst (WorksOn n ((before ++ first_run) ++ second_run)) (sym is) b.0),
              (
                a.1.0 ++ b.1.0,
                (
                  ap (λ (w : World). w.order) is ∙ b.1.1.0 ∙ ap (λ (l : List Placed). l ++ b.1.0) a.1.1.0 ∙ append_assoc world.order a.1.0 b.1.0,
                  subst (λ (l : List Transition). All (IsPlacedOf n l) (a.1.0 ++ b.1.0)) all
                      (All-append (IsPlacedOf n ((before ++ first_run) ++ second_run)) a.1.0 b.1.0
                      (All-weaker (IsPlacedOf n (before ++ first_run)) (IsPlacedOf n ((before ++ first_run) ++ second_run))
                      (λ placed it. begun-more (before ++ first_run) second_run n placed.txn placed.program it) a.1.0 a.1.1.1)
                      b.1.1.1),
                ),
              ),
            );
      }

  -- ## An attempt in a world without armed faults
  reached-unarmed : (calls : ℕ) → reached calls None ≡ waits None
  reached-unarmed zero = refl
  reached-unarmed (suc more) = refl

  ended-attempt : (world : World) (attempt : Attempt) → (site_at world n).arm ≡ None
      → ended (attempts world n attempt) ≡ (attempt.lines, completed world n attempt None)
  ended-attempt world attempt unarmed =
      ap (λ (arm : Option Arm). attempted world n attempt (reached (calls_of attempt) arm)) unarmed
      ∙ ap (attempted world n attempt) (reached-unarmed (calls_of attempt))

  -- the transition of an attempt that is completed
  abbrev pub whole : World → Event → Attempt → Transition
  whole world event attempt = record { event = event; lines = attempt.lines; world = completed world n attempt None }

  abbrev transition_by : Event → List Line × World → Transition
  transition_by event end = record { event = event; lines = end.0; world = end.1 }

  abbrev start_of : List Record → Attempt
  start_of records = of_start n (site_start setup 0 records)

  pub start-run : (world : World) (records : List Record) → site_at world n ≡ plain_site records None
      → run setup world (events.start n ∷ []) ≡ whole world (events.start n) (start_of records) ∷ []
  unfolding transitions_of transition_of begun
  start-run world records stands =
      ap (λ (site : Site). transition_by (events.start n) (ended (opened setup world n site.running)) ∷ []) stands
      ∙ ap (λ (l : List Record). transition_by (events.start n) (ended (attempts world n (start_of l))) ∷ []) (ap (λ (site : Site). site.records) stands)
      ∙ ap (λ end. transition_by (events.start n) end ∷ []) (ended-attempt world (start_of records) (ap (λ (site : Site). site.arm) stands))

  abbrev pub step_of : List Record → Running → Input → Attempt
  step_of records running input = of_step n (site_step setup n records running input)

  given-ended : (world : World) (records : List Record) (running : Running) (input : Input) → site_at world n ≡ plain_site records (Some running)
      → ended (given setup world n input (site_at world n).running) ≡ ((step_of records running input).lines, completed world n (step_of records running input) None)
  given-ended world records running input stands =
      ap (λ (site : Site). ended (given setup world n input site.running)) stands
      ∙ ap (λ (l : List Record). ended (attempts world n (step_of l running input))) (ap (λ (site : Site). site.records) stands)
      ∙ ended-attempt world (step_of records running input) (ap (λ (site : Site). site.arm) stands)

  pub submit-run : (world : World) (records : List Record) (running : Running) (program : Program) → site_at world n ≡ plain_site records (Some running)
      → run setup world (events.submit n false [] program ∷ []) ≡ whole world (events.submit n false [] program) (step_of records running (submit program)) ∷ []
  unfolding transitions_of transition_of begun
  submit-run world records running program stands =
      ap (λ end. transition_by (events.submit n false [] program) end ∷ []) (given-ended world records running (submit program) stands)

  pub tick-run : (world : World) (records : List Record) (running : Running) → site_at world n ≡ plain_site records (Some running)
      → run setup world (events.tick n ∷ []) ≡ whole world (events.tick n) (step_of records running tick) ∷ []
  unfolding transitions_of transition_of begun
  tick-run world records running stands = ap (λ end. transition_by (events.tick n) end ∷ []) (given-ended world records running tick stands)

  pub deliver-run : (world : World) (records : List Record) (running : Running) (number : ℕ) (envelope : Envelope) → slice_get world.sent number ≡ Some envelope
      → envelope.to ≡ n → site_at world n ≡ plain_site records (Some running)
      → run setup world (events.deliver number ∷ [])
      ≡ whole (with_done world number) (events.deliver number) (step_of records running (receive envelope.from envelope.message)) ∷ []
  unfolding transitions_of transition_of begun
  deliver-run world records running number envelope there to stands =
      ap (λ (found : Option Envelope). transition_by (events.deliver number) (ended (delivered setup world number found)) ∷ []) there
      ∙ ap (λ k. transition_by (events.deliver number) (ended (given setup (with_done world number) k (receive envelope.from envelope.message) (site_at world k).running)) ∷ []) to
      ∙ ap (λ end. transition_by (events.deliver number) end ∷ [])
      (given-ended (with_done world number) records running (receive envelope.from envelope.message) stands)

  -- ## What it does
  pub settles-attempt : (asked : List Asked) (world before : World) (event : Event) (attempt : Attempt) (records : List Record) (was : Option Running) (out : List Out)
      → run setup world (event ∷ []) ≡ whole before event attempt ∷ [] → before.sites ≡ world.sites → before.sent ≡ world.sent → site_of world event ≡ Some n
      → site_at world n ≡ plain_site records was → attempt.packs ≡ false → n < length world.sites → IsWellFormed setup.catalog event
      → IsWithin n (map (made_as n) out) (map sends (from_site n attempt.sends) ++ map prints attempt.lines) → IsAskedOf n asked (whole before event attempt)
      → before.order ≡ world.order
      → ((before_it : List Transition) → ((running : Running) → was ≡ Some running → All (WorksAsBegun before_it n) running.entries)
      → ((running : Running) → attempt.running ≡ Some running → All (WorksAsBegun (before_it ++ whole before event attempt ∷ []) n) running.entries)
      × OfSome (IsPlacedOf n (before_it ++ whole before event attempt ∷ [])) attempt.placed)
      → Settles setup world n asked (record { records = records ++ option_to_list attempt.appended; running = attempt.running }) out (event ∷ [])
  settles-attempt asked world before event attempt records was out is sites sent of stands plain below well within asked_for order works =
      let t = whole before event attempt in
      let left : Site = plain_site (records ++ option_to_list attempt.appended) attempt.running in
      let new : t.world.sites ≡ set world.sites n left =
      ap₂ (λ (all : List Site) (site : Site). set all n site) sites
      (ap (λ (all : List Site).
      let here : Site = get_or all n no_site in
      record {
        records = here.records ++ option_to_list attempt.appended;
        standing = if attempt.packs then record { number = here.standing.number + 1; other_open = true } else here.standing;
        arm = None;
        running = attempt.running;
      }) sites
      ∙ ap₂ (λ (here : Site) (packs : Bool).
      record {
        records = here.records ++ option_to_list attempt.appended;
        standing = if packs then record { number = here.standing.number + 1; other_open = true } else here.standing;
        arm = None;
        running = attempt.running;
      }) stands plain) in
      let grown : t.world.sent ≡ world.sent ++ from_site n attempt.sends = ap (λ (l : List Envelope). l ++ from_site n attempt.sends) sent in
      let after : world_after world (run setup world (event ∷ [])) ≡ t.world = ap (world_after world) is in
      let content : Content = record { records = records ++ option_to_list attempt.appended; running = attempt.running } in
      let here : site_at t.world n ≡ left = ap (λ (all : List Site). get_or all n no_site) new ∙ get_or-set_same world.sites n left no_site below in
      record {
        well = All-cons (IsWellFormed setup.catalog) event [] well (All-nil (IsWellFormed setup.catalog));
        width = ap (λ (w : World). length w.sites) after ∙ ap (λ (all : List Site). length all) new ∙ length-set world.sites n left;
        seen = subst (λ (w : World). IsSeenAs content (site_at w n)) (sym after)
            (subst (IsSeenAs content) (sym here) (mirrored.same (records ++ option_to_list attempt.appended) attempt.running));
        others = λ m apart.
            ap (λ (w : World). site_at w m) after ∙ ap (λ (all : List Site). get_or all m no_site) new
            ∙ get_or-set_other world.sites n m left no_site (λ e. apart (sym e));
        own = subst (IsWithin n (map (made_as n) out))
            (sym (ap (made_from n world) is ∙ append-nil (made_in n world t) ∙ made-own n world t (from_site n attempt.sends) of grown)) within;
        silent = λ m apart. ap (made_from m world) is ∙ append-nil (made_in m world t) ∙ made-other n m world t of apart;
        sent = (from_site n attempt.sends, ap (λ (w : World). w.sent) after ∙ grown);
        asked_for = subst (All (IsAskedOf n asked)) (sym is) (All-cons (IsAskedOf n asked) t [] asked_for (All-nil (IsAskedOf n asked)));
        programs = λ before_it own.
            let leaves = works before_it (λ now up. own now (ap (λ (s : Site). s.running) stands ∙ up)) in
            let all : before_it ++ t ∷ [] ≡ before_it ++ run setup world (event ∷ []) = ap (λ (l : List Transition). before_it ++ l) (sym is) in (
              (λ now up.
                  subst (λ (l : List Transition). All (WorksAsBegun l n) now.entries) all
                  (leaves.0 now (sym (ap (λ (w : World). (site_at w n).running) after ∙ ap (λ (s : Site). s.running) here) ∙ up))),
              (
                option_to_list attempt.placed,
                (
                  ap (λ (w : World). w.order) after ∙ ap (λ (l : List Placed). l ++ option_to_list attempt.placed) order,
                  subst (λ (l : List Transition). All (IsPlacedOf n l) (option_to_list attempt.placed)) all
                      (all-placed (IsPlacedOf n (before_it ++ t ∷ [])) attempt.placed leaves.1),
                ),
              ),
            );
      }

  -- ## What was made of a step
  made-sends : (outgoing : List Outgoing)
      → map (made_as n) (map (λ (sent : Outgoing). message (record { from = n; to = sent.to; message = sent.message })) outgoing) ≡ map sends (from_site n outgoing)
  made-sends [] = refl
  made-sends (first ∷ outgoing) = ap (λ (l : List Made). sends (record { from = n; to = first.to; message = first.message }) ∷ l) (made-sends outgoing)

  made-notes : (notes : List Note) → map (made_as n) (map note notes) ≡ map prints (lines_of n notes)
  made-notes [] = refl
  made-notes (first ∷ notes) = ap (λ (l : List Made). prints (line_of n first) ∷ l) (made-notes notes)

  made-outs : (outgoing : List Outgoing) (notes : List Note)
      → map (made_as n) (outs n outgoing notes) ≡ map sends (from_site n outgoing) ++ map prints (lines_of n notes)
  made-outs outgoing notes =
      map-append (made_as n) (map (λ (sent : Outgoing). message (record { from = n; to = sent.to; message = sent.message })) outgoing) (map note notes)
      ∙ ap₂ (λ (a b : List Made). a ++ b) (made-sends outgoing) (made-notes notes)

  pub step-within : (outgoing : List Outgoing) (notes : List Note)
      → IsWithin n (map (made_as n) (outs n outgoing notes)) (map sends (from_site n outgoing) ++ map prints (lines_of n notes))
  step-within outgoing notes =
      subst (λ (l : List Made). IsWithin n l (map sends (from_site n outgoing) ++ map prints (lines_of n notes))) (sym (made-outs outgoing notes))
      (within-same n (map sends (from_site n outgoing) ++ map prints (lines_of n notes)))
