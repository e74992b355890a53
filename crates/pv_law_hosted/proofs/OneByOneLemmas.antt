-- Whatever is given to a process is an event of the run or nothing, and what is given one after another are events one after another.
use Rattle.std.proofs.Common.{◌≡◌, ℕ, ◌+◌, ◌<◌, Bool, true, false, if◌then◌else◌, Some, None, List, [], ◌∷◌, ◌++◌, length, All, refl, sym, ap, ◌∙◌, subst, arith}
use Rattle.std.specs.List.{Contains}
use Rattle.std.specs.Prelude.{slice_get, nat_le, nat_lt}
use Rattle.std.proofs.lemmas.List.Elements.{All-nil, All-weaker, Contains-append_left, Contains-append_right}
use Rattle.std.proofs.lemmas.Option.{slice_get-get_or}
use Rattle.pv_base.proofs.Basics.{Some_inj}
use Rattle.pv_base.proofs.ContainsLemmas.{Contains-first}
use Rattle.pv_base.proofs.MapLemmas.{Contains-map, Contains-unmap}
use Rattle.pv_base.specs.declared.limits.TheConstants.{NEVER_GIVEN}
use Rattle.pv_base.specs.declared.txn.TxnId.{TxnId}
use Rattle.pv_format.specs.Message.{Envelope}
use Rattle.pv_format.specs.Contents.{greatest_epoch}
use Rattle.pv_format.specs.Record.{Record, epoch_begun}
use Rattle.pv_law_answers.proofs.BeginNotes.{begin-noted}
use Rattle.pv_law_answers.proofs.TxnNumbers.{began-of}
use Rattle.pv_law_step.proofs.Lists.{OfSome}
use Rattle.pv_law_step.proofs.StartLemmas.{start-case}
use Rattle.pv_law_step.specs.StartCases as of_starts
use Rattle.pv_law_step.specs.StartCases.{StartCase}
use Rattle.pv_law_world.proofs.GrowthLemmas.{Extends}
use Rattle.pv_law_world.specs.Transitions.{receiver_of}
use Rattle.pv_model.specs.Events as events
use Rattle.pv_model.specs.Events.{Event}
use Rattle.pv_protocol.specs.Attempt.{of_start}
use Rattle.pv_protocol.specs.Committed.{home_of}
use Rattle.pv_protocol.specs.Here.{Here}
use Rattle.pv_model.specs.Syntax.{Program}
use Rattle.pv_protocol.specs.Lines.{Line, line_of, lines_of}
use Rattle.pv_protocol.specs.Records.{journal_bytes, record_bytes}
use Rattle.pv_protocol.specs.Run.{run, world_after}
use Rattle.pv_protocol.specs.Start.{Started, starts, too_long, no_epoch, just_started, site_start}
use Rattle.pv_protocol.specs.State.{Setup, Site, Running, Input, Note, submit, receive, tick, began}
use Rattle.pv_protocol.specs.Step.{site_step}
use Rattle.pv_protocol.specs.World.{World, first_site, site_at, with_done}
use Rattle.pv_protocol.specs.WorldStep.{Transition}
use Rattle.pv_embed.specs.Held.{Out}
use Rattle.pv_embed.specs.Outputs.{outs}
use Rattle.pv_law_step.proofs.ProgramSteps.{BeginsOwn, step-own}
use Rattle.pv_law_hosted.proofs.SettleLemmas.{IsPlacedOf, Settles, begun-more, settles-nothing, settles-then, settles-attempt, step-within, step_of, whole, start-run, submit-run, tick-run, deliver-run}
use Rattle.pv_law_hosted.specs.Asked.{Asked}
use Rattle.pv_law_hosted.specs.Deployment.{Deployment, IsCarried}
use Rattle.pv_law_hosted.specs.DeploymentEvents.{MayTake, request, carried, time}
use Rattle.pv_law_hosted.specs.Given as process
use Rattle.pv_law_hosted.specs.Given.{Content, Given, IsAskedFor, MayAllBeGiven, MayBeGiven, started_with, with_given, outs_of_given, with_all, outs_of_all}
use Rattle.pv_law_hosted.specs.Made as made
use Rattle.pv_law_hosted.specs.Mirrored as mirrored
use Rattle.pv_law_hosted.specs.Mirrored.{IsBegunIn, IsSeenAs, WorksAsBegun, plain_site, unborn}

-- A site that has started works on nothing.
pub idle-start : (setup : Setup) (surplus : ℕ) (records : List Record) (started : Started) → StartCase setup surplus records started → (running : Running) (kept : Record)
    → started ≡ starts running kept → running.entries ≡ []
idle-start setup surplus records started (of_starts.no_epoch_left h) running kept is = absurd (let wrong : ⊥ = cc in wrong)
idle-start setup surplus records started (of_starts.no_room h i) running kept is = absurd (let wrong : ⊥ = cc in wrong)
idle-start setup surplus records started (of_starts.begins h i) running kept is =
    let same : just_started (greatest_epoch records + 1) ≡ running = cc in
    ap (λ (r : Running). r.entries) (sym same)

-- what is there before the first opening
abbrev pub nothing_there : Content
nothing_there = record { records = []; running = None }

-- What prints that a transaction has begun notes it.
noted-beginning : (n : ℕ) (notes : List Note) (txn : TxnId) → Contains (lines_of n notes) (Line.txn txn) → Contains notes (began txn)
noted-beginning n notes txn there =
    let found = Contains-unmap (line_of n) notes (Line.txn txn) there in
    subst (Contains notes) (began-of n found.0 txn found.1.1) found.1.0

-- Every message that is carried was sent in this world.
abbrev pub HasSent : Deployment → World → Type 0
HasSent d world = (envelope : Envelope) → IsCarried d envelope → Contains world.sent envelope

-- Before the first opening is written and once it is, a site that was started once stands for what is there.
either-way : (P : Started → Type 0) (test : Bool) (x y : Started) → P x → P y → P (if test then x else y)
either-way P true x y one other = one
either-way P false x y one other = other

seen-born : (setup : Setup) → IsSeenAs (started_with nothing_there (site_start setup 0 [])) first_site
unfolding site_start
seen-born setup =
    let P = λ (started : Started). IsSeenAs (started_with nothing_there started) first_site in
    let length = journal_bytes [] + record_bytes (epoch_begun 1) in
    either-way P (nat_le NEVER_GIVEN 1) no_epoch
    (if nat_lt setup.catalog.journal length then too_long length else starts (just_started 1) (epoch_begun 1)) unborn
    (either-way P (nat_lt setup.catalog.journal length) (too_long length) (starts (just_started 1) (epoch_begun 1)) unborn
    (mirrored.same (epoch_begun 1 ∷ []) (Some (just_started 1))))

module _ (setup : Setup) (n : ℕ) where
  -- Some events settle it.
  abbrev pub IsSettled : List Asked → World → Content → List Out → Type 0
  IsSettled asked world content out = (more : List Event) × Settles setup world n asked content out more

  by-nothing : (asked : List Asked) (world : World) (content : Content) (site : Site) → site_at world n ≡ site → IsSeenAs content site → IsSettled asked world content []
  by-nothing asked world content site stands seen = ([], settles-nothing setup n asked world content (subst (IsSeenAs content) (sym stands) seen))

  -- ## An opening
  at-start : (asked : List Asked) (world : World) (records : List Record) (started : Started) → site_start setup 0 records ≡ started → site_at world n ≡ plain_site records None
      → n < length world.sites → n < setup.catalog.sites → IsSettled asked world (started_with (record { records = records; running = None }) started) []
  at-start asked world records (starts running epoch) is stands below known = (
    events.start n ∷ [],
    settles-attempt setup n asked world world (events.start n) (of_start n (starts running epoch)) records None []
        (start-run setup n world records stands ∙ ap (λ (s : Started). whole setup n world (events.start n) (of_start n s) ∷ []) is)
        refl refl refl stands refl below known (made.starts running.epoch [] [] made.none) (λ m query text program txn is_request there. absurd cc)
        refl
        (λ before_it was. (
          (λ now up.
              let all = before_it ++ whole setup n world (events.start n) (of_start n (starts running epoch)) ∷ [] in
              let none : now.entries ≡ [] =
              ap (λ (r : Running). r.entries) (sym (Some_inj up)) ∙ idle-start setup 0 records (site_start setup 0 records) (start-case setup 0 records) running epoch is in
              subst (All (WorksAsBegun all n)) (sym none) (All-nil (WorksAsBegun all n))),
          tt,
        )),
  )
  at-start asked world records (too_long length) is stands below known =
      by-nothing asked world (record { records = records; running = None }) (plain_site records None) stands (mirrored.same records None)
  at-start asked world records no_epoch is stands below known =
      by-nothing asked world (record { records = records; running = None }) (plain_site records None) stands (mirrored.same records None)

  opening-settled : (asked : List Asked) (world : World) (content : Content) (site : Site) → site_at world n ≡ site → IsSeenAs content site → n < length world.sites → n < setup.catalog.sites
      → IsSettled asked world (with_given setup n content process.opened) []
  opening-settled asked world content site stands (mirrored.same records None) below known = at-start asked world records (site_start setup 0 records) refl stands below known
  opening-settled asked world content site stands (mirrored.same records (Some running)) below known =
      by-nothing asked world (record { records = records; running = Some running }) (plain_site records (Some running)) stands (mirrored.same records (Some running))
  opening-settled asked world content site stands unborn below known =
      by-nothing asked world (started_with nothing_there (site_start setup 0 [])) first_site stands (seen-born setup)

  -- ## An input
  -- what a site sees that is up
  abbrev at_site : List Record → Running → Here
  at_site records running = record { me = n; setup = setup; records = records; surplus = 0; running = running }

  -- What a step leaves has begun by then, where what begins by it begins in this transition.
  step-works : (records : List Record) (running : Running) (input : Input) (t : Transition)
      → ((before_it : List Transition) → BeginsOwn (IsBegunIn (before_it ++ t ∷ []) n) (at_site records running) input)
      → (before_it : List Transition) → ((now : Running) → Some running ≡ Some now → All (WorksAsBegun before_it n) now.entries)
      → ((now : Running) → Some (site_step setup n records running input).running ≡ Some now → All (WorksAsBegun (before_it ++ t ∷ []) n) now.entries)
      × OfSome (IsPlacedOf n (before_it ++ t ∷ [])) (site_step setup n records running input).placed
  step-works records running input t begins before_it was =
      let all = before_it ++ t ∷ [] in
      let before_works =
      All-weaker (WorksAsBegun before_it n) (WorksAsBegun all n) (λ entry it. begun-more before_it (t ∷ []) n entry.txn entry.program it) running.entries (was running refl) in
      let own = step-own (IsBegunIn all n) (at_site records running) before_works input (begins before_it) in
      ((λ now up. subst (λ (r : Running). All (WorksAsBegun all n) r.entries) (Some_inj up) own.entries), own.placed)

  -- A request begins what it notes to have begun.
  begins-here : (world : World) (records : List Record) (running : Running) (program : Program) (before_it : List Transition)
      → BeginsOwn (IsBegunIn (before_it ++ whole setup n world (events.submit n false [] program) (step_of setup n records running (submit program)) ∷ []) n) (at_site records running) (submit program)
  begins-here world records running program before_it =
      let t = whole setup n world (events.submit n false [] program) (step_of setup n records running (submit program)) in
      λ txn there.
      record {
        home = ap home_of (begin-noted (at_site records running) txn (submit program) there).own;
        transition = t;
        there = Contains-append_right before_it (t ∷ []) t (Contains-first t []);
        query = false;
        text = [];
        event = refl;
        printed = Contains-map (line_of n) (site_step setup n records running (submit program)).notes (began txn) there;
      }

  up-settled : (d : Deployment) (asked : List Asked) (world : World) (records : List Record) (running : Running) (given : Input) → MayTake setup.catalog d n given
      → IsAskedFor setup n asked (record { records = records; running = Some running }) (Some running) given → HasSent d world
      → site_at world n ≡ plain_site records (Some running) → n < length world.sites → n < setup.catalog.sites
      → let content : Content = record { records = records; running = Some running } in
      IsSettled asked world (with_given setup n content (process.input given)) (outs_of_given setup n content (process.input given))
  up-settled d asked world records running given (request program can) wanted sent stands below known =
      let step = site_step setup n records running (submit program) in (
        events.submit n false [] program ∷ [],
        settles-attempt setup n asked world world (events.submit n false [] program) (step_of setup n records running (submit program)) records (Some running)
            (outs n step.sends step.notes) (submit-run setup n world records running program stands) refl refl refl stands refl below (known, can)
            (step-within setup n step.sends step.notes)
            (λ m query text other txn same there.
            let at : m ≡ n = cc in
            let own : program ≡ other = cc in
            (at, wanted txn (noted-beginning n step.notes txn there) ∙ ap Some own))
            refl
            (step-works records running (submit program) (whole setup n world (events.submit n false [] program) (step_of setup n records running (submit program)))
            (begins-here world records running program)),
      )
  up-settled d asked world records running given (carried envelope is to from) wanted sent stands below known =
      let step = site_step setup n records running (receive envelope.from envelope.message) in
      let there = sent envelope is in
      let found : slice_get world.sent there.0 ≡ Some envelope = slice_get-get_or world.sent there.0 envelope there.1 ∙ ap Some there.2 in (
        events.deliver there.0 ∷ [],
        settles-attempt setup n asked world (with_done world there.0) (events.deliver there.0) (step_of setup n records running (receive envelope.from envelope.message)) records (Some running)
            (outs n step.sends step.notes) (deliver-run setup n world records running there.0 envelope found to stands) refl refl
            (ap receiver_of found ∙ ap Some to) stands refl below tt (step-within setup n step.sends step.notes)
            (λ m query text program txn is_request there. absurd cc) refl (step-works records running (receive envelope.from envelope.message)
            (whole setup n (with_done world there.0) (events.deliver there.0) (step_of setup n records running (receive envelope.from envelope.message))) (λ before_it. tt)),
      )
  up-settled d asked world records running given time wanted sent stands below known =
      let step = site_step setup n records running tick in (
        events.tick n ∷ [],
        settles-attempt setup n asked world world (events.tick n) (step_of setup n records running tick) records (Some running)
            (outs n step.sends step.notes) (tick-run setup n world records running stands) refl refl refl stands refl below known
            (step-within setup n step.sends step.notes) (λ m query text program txn is_request there. absurd cc) refl (step-works records running tick (whole setup n world (events.tick n) (step_of setup n records running tick)) (λ before_it. tt)),
      )

  input-settled : (d : Deployment) (asked : List Asked) (world : World) (content : Content) (site : Site) (given : Input) → MayTake setup.catalog d n given
      → IsAskedFor setup n asked content content.running given → HasSent d world
      → site_at world n ≡ site → IsSeenAs content site → n < length world.sites → n < setup.catalog.sites
      → IsSettled asked world (with_given setup n content (process.input given)) (outs_of_given setup n content (process.input given))
  input-settled d asked world content site given may wanted sent stands (mirrored.same records None) below known =
      by-nothing asked world (record { records = records; running = None }) (plain_site records None) stands (mirrored.same records None)
  input-settled d asked world content site given may wanted sent stands (mirrored.same records (Some running)) below known =
      up-settled d asked world records running given may wanted sent stands below known
  input-settled d asked world content site given may wanted sent stands unborn below known = by-nothing asked world nothing_there first_site stands unborn

  pub given-settled : (d : Deployment) (asked : List Asked) (world : World) (content : Content) (given : Given) → MayBeGiven setup n d asked content given → HasSent d world
      → IsSeenAs content (site_at world n) → n < length world.sites → n < setup.catalog.sites
      → IsSettled asked world (with_given setup n content given) (outs_of_given setup n content given)
  given-settled d asked world content process.opened may sent seen below known = opening-settled asked world content (site_at world n) refl seen below known
  given-settled d asked world content (process.input given) may sent seen below known =
      input-settled d asked world content (site_at world n) given may.0 may.1 sent refl seen below known

  -- ## One after another
  pub still-sent : (d : Deployment) (world after : World) → Extends world.sent after.sent → HasSent d world → HasSent d after
  still-sent d world after extends sent envelope is =
      subst (λ (l : List Envelope). Contains l envelope) (sym extends.1) (Contains-append_left world.sent extends.0 envelope (sent envelope is))

  pub all-settled : (d : Deployment) (asked : List Asked) (world : World) (content : Content) (givens : List Given) → MayAllBeGiven setup n d asked content givens → HasSent d world
      → IsSeenAs content (site_at world n) → n < length world.sites → n < setup.catalog.sites
      → IsSettled asked world (with_all setup n content givens) (outs_of_all setup n content givens)
  all-settled d asked world content [] may sent seen below known = by-nothing asked world content (site_at world n) refl seen
  all-settled d asked world content (given ∷ later) may sent seen below known =
      let first = given-settled d asked world content given may.0 sent seen below known in
      let mid = world_after world (run setup world first.0) in
      let next = with_given setup n content given in
      let rest =
      all-settled d asked mid next later may.1 (still-sent d world mid first.1.sent sent) first.1.seen
      (let wide = first.1.width in omega (arith, below, wide)) known in (
        first.0 ++ rest.0,
        settles-then setup n asked world next (with_all setup n next later) (outs_of_given setup n content given) (outs_of_all setup n next later) first.0 rest.0 first.1 rest.1,
      )
