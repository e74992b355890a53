-- A deployment in which one station is another one is mirrored by a run that goes on, where the world's site has come to stand for it.
use Rattle.std.proofs.Common.{◌∷◌, ⊎_elim, ◌≡◌, ◌≢◌, ℕ, ◌+◌, ◌<◌, ◌≤◌, Option, Some, None, List, [], ◌++◌, length, map, All, append-nil, get_or-set_same, get_or-set_other, sym, ap, ◌∙◌, subst, arith}
use Rattle.std.specs.List.{Contains}
use mathlib.Core.Logic.{dite}
use native.Mathlib.Decide.{ℕ_discrete, dec_le}
use Rattle.std.proofs.lemmas.List.{get_or_past, length-set, map-append}
use Rattle.std.proofs.lemmas.List.Elements.{All-append, All-contains, All-weaker, Contains-append_left, Contains-append_right}
use Rattle.pv_base.proofs.ContainsLemmas.{Contains-cases}
use Rattle.pv_base.proofs.MapLemmas.{Contains-map}
use Rattle.pv_base.specs.declared.txn.TxnId.{TxnId}
use Rattle.pv_format.specs.Message.{Envelope}
use Rattle.pv_law_step.proofs.Lists.{all-from}
use Rattle.pv_law_world.proofs.AppendLemmas.{run-append}
use Rattle.pv_law_world.proofs.GrowthLemmas.{Extends}
use Rattle.pv_model.specs.Events.{Event}
use Rattle.pv_model.specs.Syntax.{Program}
use Rattle.pv_protocol.specs.Lines.{Line}
use Rattle.pv_protocol.specs.Run.{lines_of_transitions, printed, run, world_after}
use Rattle.pv_protocol.specs.State as state
use Rattle.pv_protocol.specs.Committed.{home_of}
use Rattle.pv_protocol.specs.State.{Running, Setup, Site}
use Rattle.pv_protocol.specs.WellFormed.{IsWellFormed}
use Rattle.pv_protocol.specs.World.{World, opening, site_at}
use Rattle.pv_protocol.specs.WorldStep.{Transition}
use Rattle.pv_embed.specs.Held.{Out, message}
use Rattle.pv_embed.specs.Hosted.{HostedState}
use Rattle.pv_law_hosted.proofs.AskedLemmas.{all-more}
use Rattle.pv_law_hosted.proofs.OneByOneLemmas.{HasSent, all-settled}
use Rattle.pv_law_hosted.proofs.RunLemmas.{IsThere, after-append, by-there, made-append}
use Rattle.pv_law_hosted.proofs.SettleLemmas.{IsAskedOf, IsPlacedOf, PlacesOnly, Settles, WorksOn, begun-more}
use Rattle.pv_law_hosted.proofs.WithinLemmas.{within-append, within-made}
use Rattle.pv_law_hosted.specs.Asked.{Asked, asked_as}
use Rattle.pv_law_hosted.specs.Deployment.{Deployment, IsCarried, Station, no_station, station_at, with_station}
use Rattle.pv_law_hosted.specs.DeploymentEvents.{MayTake, request, carried, time}
use Rattle.pv_law_hosted.specs.Given.{Content, Given, MayAllBeGiven, with_all, outs_of_all}
use Rattle.pv_law_hosted.specs.Made.{Made, IsWithin, sends, made_as, made_by, made_from}
use Rattle.pv_law_hosted.specs.Mirrored.{IsAskedIn, IsBegunIn, IsPlacedAsBegun, RunsAsBegun, WorksAsBegun, IsSeenAs, Follows, FollowsProcess, IsMirrored, world_of}

-- ## What is carried was sent
pub no-member : {X : Type 0} (x : X) → Contains [] x → ⊥
no-member x there = let below = there.1 in omega (arith, below)

no-station : (d : Deployment) (n : ℕ) (envelope : Envelope) → length d ≤ n → Contains (station_at d n).let_out (message envelope) → ⊥
no-station d n envelope beyond there =
    no-member (message envelope) (subst (λ (s : Station). Contains s.let_out (message envelope)) (get_or_past d n no_station beyond) there)

lines-there : (transitions : List Transition) (t : Transition) (line : Line) → Contains transitions t → Contains t.lines line → Contains (lines_of_transitions transitions) line
lines-there [] t line there is = absurd (no-member t there)
lines-there (first ∷ transitions) t line there is =
    ⊎_elim
    (λ same. Contains-append_left first.lines (lines_of_transitions transitions) line (subst (λ (u : Transition). Contains u.lines line) (sym same) is))
    (λ behind. Contains-append_right first.lines (lines_of_transitions transitions) line (lines-there transitions t line behind is)) (Contains-cases first transitions t there)

printed-there : (setup : Setup) (events : List Event) (t : Transition) (line : Line) → Contains (run setup (opening setup) events) t → Contains t.lines line → Contains (printed setup events) line
unfolding printed
printed-there setup events t line there is = lines-there (run setup (opening setup) events) t line there is

-- What was asked for under a number that the run has printed is asked for so still.
abbrev pub KeepsPrinted : Setup → List Event → List Asked → List Asked → Type 0
KeepsPrinted setup events asked more =
    (txn : TxnId) (program : Program) → Contains (printed setup events) (Line.txn txn) → asked_as asked txn ≡ Some program → asked_as more txn ≡ Some program

module _ (setup : Setup) (d : Deployment) (events : List Event) (m : IsMirrored setup d events) where
  pub out-there : (n : ℕ) (envelope : Envelope) → n < setup.catalog.sites → Contains (station_at d n).let_out (message envelope)
      → Contains (world_of setup events).sent envelope
  out-there n envelope below there =
      let follows = m.each n below in
      let out = (station_at d n).let_out in
      let all = map (made_as n) (out ++ follows.rest) in
      let made : Contains (made_by setup n events) (sends envelope) =
      All-contains (Contains (made_by setup n events)) all (sends envelope) (within-made n all (made_by setup n events) follows.within)
      (Contains-map (made_as n) (out ++ follows.rest) (message envelope) (Contains-append_left out follows.rest (message envelope) there)) in
      All-contains (IsThere (world_of setup events).sent) (made_by setup n events) (sends envelope) (by-there n setup events) made

  -- a station that isn't there has let nothing out
  pub has-sent : HasSent d (world_of setup events)
  has-sent envelope is =
      dite (dec_le (is.0 + 1) setup.catalog.sites) (λ below. out-there is.0 envelope (omega (arith, below)) is.1)
      (λ beyond. absurd (no-station d is.0 envelope (let all = m.stations in omega (arith, all, beyond)) is.1))

  -- ## One station is another one
  module _ (n : ℕ) (known : n < setup.catalog.sites) (new : Station) where
    abbrev later : Deployment
    later = with_station d n new

    station-same : station_at later n ≡ new
    station-same = get_or-set_same d n new no_station (let all = m.stations in omega (arith, all, known))

    station-other : (k : ℕ) → n ≢ k → station_at later k ≡ station_at d k
    station-other k apart = get_or-set_other d n k new no_station (λ e. apart (sym e))

    module _ (grows : Extends (station_at d n).let_out new.let_out) where
      carried-later : (envelope : Envelope) → IsCarried d envelope → IsCarried later envelope
      carried-later envelope (k, there) =
          let says = λ (s : Station). Contains s.let_out (message envelope) in (
            k,
            dite (ℕ_discrete n k)
                (λ same.
                subst (λ j. says (station_at later j)) same
                (subst says (sym station-same)
                (subst (λ (l : List Out). Contains l (message envelope)) (sym grows.1)
                (Contains-append_left (station_at d n).let_out grows.0 (message envelope) (subst (λ j. says (station_at d j)) (sym same) there)))))
                (λ apart. subst says (sym (station-other k apart)) there),
          )

      may-later : (k : ℕ) (input : state.Input) → MayTake setup.catalog d k input → MayTake setup.catalog later k input
      may-later k input (request program can) = request program can
      may-later k input (carried envelope is to from) = carried envelope (carried-later envelope is) to from
      may-later k input time = time

      process-later : (k : ℕ) (asked : List Asked) (file : List ℕ) (hosted : Option HostedState) (content : Content) (rest : List Out)
          → FollowsProcess setup d k asked file hosted content rest → FollowsProcess setup later k asked file hosted content rest
      process-later k asked file None content rest gone = gone
      process-later k asked file (Some hosted) content rest f = record {
        is_file = f.is_file;
        stands = f.stands;
        me = f.me;
        catalog = f.catalog;
        surplus = f.surplus;
        stored = f.stored;
        whole = f.whole;
        waiting = f.waiting;
        allowed = all-more setup k d later asked asked (may-later k) (outs_of_all setup k content f.waiting) (λ txn program there is. is) content f.waiting (λ out there. there)
            f.allowed;
        first = f.first;
        come = f.come;
        ready = f.ready;
        held = f.held;
        in_file = f.in_file;
        rest_is = f.rest_is;
        unopened = f.unopened;
      }

      -- The run goes on by events after which the world's site stands for the new station.
      module _ (content : Content) (out rest : List Out) (more : List Event) (s : Settles setup (world_of setup events) n new.asked content out more)
          (keeps : KeepsPrinted setup events (station_at d n).asked new.asked)
          (within : IsWithin n (map (made_as n) (new.let_out ++ rest)) (made_by setup n events ++ made_from n (world_of setup events) (run setup (world_of setup events) more)))
          (follows : FollowsProcess setup d n new.asked new.file new.hosted content rest) where
        goes-on : world_of setup (events ++ more) ≡ world_after (world_of setup events) (run setup (world_of setup events) more)
        goes-on = after-append setup (opening setup) events more

        makes-more : (k : ℕ) → made_by setup k (events ++ more) ≡ made_by setup k events ++ made_from k (world_of setup events) (run setup (world_of setup events) more)
        makes-more k = made-append setup k (opening setup) events more

        own-follows : Follows setup later n (site_at (world_of setup (events ++ more)) n) (made_by setup n (events ++ more))
        own-follows = record {
          content = content;
          seen = subst (λ (w : World). IsSeenAs content (site_at w n)) (sym goes-on) s.seen;
          rest = rest;
          within = subst (λ (station : Station). IsWithin n (map (made_as n) (station.let_out ++ rest)) (made_by setup n (events ++ more))) (sym station-same)
              (subst (IsWithin n (map (made_as n) (new.let_out ++ rest))) (sym (makes-more n)) within);
          process = subst (λ (station : Station). FollowsProcess setup later n station.asked station.file station.hosted content rest) (sym station-same)
              (process-later n new.asked new.file new.hosted content rest follows);
        }

        other-follows : (k : ℕ) → n ≢ k → k < setup.catalog.sites → Follows setup later k (site_at (world_of setup (events ++ more)) k) (made_by setup k (events ++ more))
        other-follows k apart below =
            let old = m.each k below in
            let station = station-other k apart in
            record {
              content = old.content;
              seen = subst (IsSeenAs old.content) (sym (ap (λ (w : World). site_at w k) goes-on ∙ s.others k apart)) old.seen;
              rest = old.rest;
              within = subst (λ (it : Station). IsWithin k (map (made_as k) (it.let_out ++ old.rest)) (made_by setup k (events ++ more))) (sym station)
                  (subst (IsWithin k (map (made_as k) ((station_at d k).let_out ++ old.rest)))
                  (sym (makes-more k ∙ ap (λ (l : List Made). made_by setup k events ++ l) (s.silent k apart) ∙ append-nil (made_by setup k events))) old.within);
              process = subst (λ (it : Station). FollowsProcess setup later k it.asked it.file it.hosted old.content old.rest) (sym station)
                  (process-later k (station_at d k).asked (station_at d k).file (station_at d k).hosted old.content old.rest old.process);
            }

        abbrev before : List Transition
        before = run setup (opening setup) events

        abbrev then_on : List Transition
        then_on = run setup (world_of setup events) more

        all-run : run setup (opening setup) (events ++ more) ≡ before ++ then_on
        all-run = run-append setup (opening setup) events more

        -- What was asked for still was, and what has begun in what the run goes on with was asked of this station.
        was-asked : (t : Transition) → Contains before t → IsAskedIn d t → IsAskedIn later t
        was-asked t there is k query text program txn event line =
            let says = λ (station : Station). asked_as station.asked txn ≡ Some program in
            dite (ℕ_discrete n k)
            (λ same.
            subst (λ j. says (station_at later j)) same
            (subst says (sym station-same)
            (keeps txn program (printed-there setup events t (Line.txn txn) there line) (subst (λ j. says (station_at d j)) (sym same) (is k query text program txn event line)))))
            (λ apart. subst says (sym (station-other k apart)) (is k query text program txn event line))

        own-asked : (t : Transition) → IsAskedOf n new.asked t → IsAskedIn later t
        own-asked t is k query text program txn event line =
            let says = λ (station : Station). asked_as station.asked txn ≡ Some program in
            let at = is k query text program txn event line in
            subst (λ j. says (station_at later j)) (sym at.0) (subst says (sym station-same) at.1)

        all-asked : All (IsAskedIn later) (run setup (opening setup) (events ++ more))
        all-asked =
            subst (All (IsAskedIn later)) (sym all-run)
            (All-append (IsAskedIn later) before then_on
            (all-from (IsAskedIn later) before (λ t there. was-asked t there (All-contains (IsAskedIn d) before t m.asked there)))
            (All-weaker (IsAskedOf n new.asked) (IsAskedIn later) own-asked then_on s.asked_for))

        -- All that runs has begun.
        made : WorksOn n (before ++ then_on) (world_after (world_of setup events) then_on) × PlacesOnly n (before ++ then_on) (world_of setup events) (world_after (world_of setup events) then_on)
        made = s.programs before (λ running up. m.programs.works n running known up)

        works-all : (k : ℕ) (running : Running) → k < setup.catalog.sites → (site_at (world_of setup (events ++ more)) k).running ≡ Some running
            → All (WorksAsBegun (before ++ then_on) k) running.entries
        works-all k running below up =
            let here : (site_at (world_after (world_of setup events) then_on) k).running ≡ Some running = sym (ap (λ (w : World). (site_at w k).running) goes-on) ∙ up in
            dite (ℕ_discrete n k)
            (λ is_own.
            subst (λ j. All (WorksAsBegun (before ++ then_on) j) running.entries) is_own
            (made.0 running (subst (λ j. (site_at (world_after (world_of setup events) then_on) j).running ≡ Some running) (sym is_own) here)))
            (λ apart.
            All-weaker (WorksAsBegun before k) (WorksAsBegun (before ++ then_on) k) (λ entry is. begun-more before then_on k entry.txn entry.program is) running.entries
            (m.programs.works k running below (sym (ap (λ (site : Site). site.running) (s.others k apart)) ∙ here)))

        order-all : All (IsPlacedAsBegun (before ++ then_on)) (world_of setup (events ++ more)).order
        order-all =
            subst (All (IsPlacedAsBegun (before ++ then_on))) (sym (ap (λ (w : World). w.order) goes-on ∙ made.1.1.0))
            (All-append (IsPlacedAsBegun (before ++ then_on)) (world_of setup events).order made.1.0
            (All-weaker (IsPlacedAsBegun before) (IsPlacedAsBegun (before ++ then_on))
            (λ placed is. begun-more before then_on (home_of placed.txn) placed.txn placed.program is) (world_of setup events).order m.programs.order)
            (All-weaker (IsPlacedOf n (before ++ then_on)) (IsPlacedAsBegun (before ++ then_on))
            (λ placed is. subst (λ j. IsBegunIn (before ++ then_on) j placed.txn placed.program) (sym is.home) is) made.1.0 made.1.1.1))

        all-programs : RunsAsBegun setup.catalog.sites (run setup (opening setup) (events ++ more)) (world_of setup (events ++ more))
        all-programs =
            subst (λ (l : List Transition). RunsAsBegun setup.catalog.sites l (world_of setup (events ++ more))) (sym all-run)
            record { works = works-all; order = order-all }

        pub mirrored-after : IsMirrored setup later (events ++ more)
        mirrored-after = record {
          well = All-append (IsWellFormed setup.catalog) events more m.well s.well;
          stations = length-set d n new ∙ m.stations;
          sites = ap (λ (w : World). length w.sites) goes-on ∙ s.width ∙ m.sites;
          asked = all-asked;
          programs = all-programs;
          each = λ k below.
              dite (ℕ_discrete n k)
              (λ same. subst (λ j. Follows setup later j (site_at (world_of setup (events ++ more)) j) (made_by setup j (events ++ more))) same own-follows)
              (λ apart. other-follows k apart below);
        }

-- What a station becomes: some of what waited is done, and what is let out and ready to be let out is what it was and what is to be let out of that.
pub record Becomes (setup : Setup) (d : Deployment) (n : ℕ) (content : Content) (rest : List Out) (new : Station) : Type 0 where
  pub done : List Given
  pub may : MayAllBeGiven setup n d new.asked content done
  pub ready : List Out
  pub grows : Extends (station_at d n).let_out new.let_out
  pub out : new.let_out ++ ready ≡ ((station_at d n).let_out ++ rest) ++ outs_of_all setup n content done
  pub process : FollowsProcess setup d n new.asked new.file new.hosted (with_all setup n content done) ready

pub becomes-mirrored : (setup : Setup) (d : Deployment) (events : List Event) (m : IsMirrored setup d events) (n : ℕ) (known : n < setup.catalog.sites) (new : Station)
    → KeepsPrinted setup events (station_at d n).asked new.asked → Becomes setup d n (m.each n known).content (m.each n known).rest new → (more : List Event) × IsMirrored setup (with_station d n new) (events ++ more)
becomes-mirrored setup d events m n known new keeps becomes =
    let follows = m.each n known in
    let world = world_of setup events in
    let below : n < length world.sites = let all = m.sites in omega (arith, all, known) in
    let settled = all-settled setup n d new.asked world follows.content becomes.done becomes.may (has-sent setup d events m) follows.seen below known in
    let before = (station_at d n).let_out ++ follows.rest in
    let outs = outs_of_all setup n follows.content becomes.done in
    let made = made_by setup n events ++ made_from n world (run setup world settled.0) in (
      settled.0,
      mirrored-after setup d events m n known new becomes.grows (with_all setup n follows.content becomes.done) outs becomes.ready settled.0 settled.1 keeps
          (subst (λ (l : List Out). IsWithin n (map (made_as n) l) made) (sym becomes.out)
          (subst (λ (l : List Made). IsWithin n l made) (sym (map-append (made_as n) before outs))
          (within-append n (map (made_as n) before) (made_by setup n events) (map (made_as n) outs) (made_from n world (run setup world settled.0)) follows.within settled.1.own)))
          becomes.process,
    )
