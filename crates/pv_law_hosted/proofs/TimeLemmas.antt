-- What a site begins from now on has no number that the run has printed so far.
use Rattle.std.proofs.Common.{◌≡◌, ℕ, ◌<◌, Option, Some, List, [], ◌∷◌, ◌++◌, length, map, drop, All, append_assoc, sym, ap, ap₂, ◌∙◌, subst, arith}
use Rattle.std.specs.List.{Contains}
use Rattle.std.proofs.lemmas.Grind.{flat_map-append}
use Rattle.std.proofs.lemmas.List.Elements.{All-append, All-contains, Contains-append_right}
use Rattle.pv_base.proofs.MapLemmas.{Contains-map}
use Rattle.pv_base.specs.declared.txn.TxnId.{TxnId}
use Rattle.pv_law_answers.specs.Numbers.{TxnsAreNew}
use Rattle.pv_law_world.proofs.AppendLemmas.{run-append}
use Rattle.pv_model.specs.Events.{Event}
use Rattle.pv_protocol.specs.Lines.{Line}
use Rattle.pv_protocol.specs.Run.{lines_of_transitions, printed, run, world_after}
use Rattle.pv_protocol.specs.State as model
use Rattle.pv_protocol.specs.State.{Setup, Running, began}
use Rattle.pv_protocol.specs.Step.{site_step}
use Rattle.pv_protocol.specs.WellFormed.{IsWellFormed}
use Rattle.pv_protocol.specs.World.{World, opening}
use Rattle.pv_protocol.specs.WorldStep.{Transition}
use Rattle.pv_embed.specs.Held.{Held, Out, note}
use Rattle.pv_embed.specs.Hosted.{HasStepped, HostedState}
use Rattle.pv_embed.specs.Outputs.{outs}
use Rattle.pv_law_hosted.proofs.AskedLemmas.{last-asked, new-outs}
use Rattle.pv_law_hosted.proofs.AgreeLemmas.{IsPrinted, from-printed}
use Rattle.pv_law_hosted.proofs.MirroredLemmas.{has-sent}
use Rattle.pv_law_hosted.proofs.OneByOneLemmas.{IsSettled, all-settled, given-settled, still-sent}
use Rattle.pv_law_hosted.proofs.ReportLemmas.{PrintedAt, in-run, printed-at}
use Rattle.pv_law_hosted.proofs.RunLemmas.{after-append}
use Rattle.pv_law_hosted.proofs.SaidLemmas.{printed-more}
use Rattle.pv_law_hosted.proofs.WithinLemmas.{within-made}
use Rattle.pv_law_hosted.specs.Asked.{Asked, asked_after}
use Rattle.pv_law_hosted.specs.Deployment.{Deployment, station_at}
use Rattle.pv_law_hosted.specs.DeploymentEvents.{MayTake}
use Rattle.pv_law_hosted.specs.Given as process
use Rattle.pv_law_hosted.specs.Given.{Content, outs_of_all, outs_of_given, with_all, with_given}
use Rattle.pv_law_hosted.specs.Made.{made_as, made_from, prints}
use Rattle.pv_law_hosted.specs.Mirrored.{FollowsHosted, FollowsProcess, IsMirrored, world_of}

module _ (setup : Setup) (d : Deployment) (events : List Event) (m : IsMirrored setup d events) (n : ℕ) (known : n < setup.catalog.sites) (site next : HostedState)
    (f : FollowsHosted setup d n (station_at d n).asked (station_at d n).file site (m.each n known).content (m.each n known).rest)
    (input : model.Input) (may : MayTake setup.catalog d n input) (s : HasStepped site next input) where
  abbrev world : World
  world = world_of setup events

  abbrev content : Content
  content = (m.each n known).content

  -- ## All that waits is done, and then the step
  waited : IsSettled setup n (station_at d n).asked world (with_all setup n content f.waiting) (outs_of_all setup n content f.waiting)
  waited =
      all-settled setup n d (station_at d n).asked world content f.waiting f.allowed (has-sent setup d events m) (m.each n known).seen (let wide = m.sites in omega (arith, wide, known)) known

  abbrev then : Content
  then = with_all setup n content f.waiting

  abbrev mid : World
  mid = world_after world (run setup world waited.0)

  -- what is asked for by the step alone
  abbrev asked : List Asked
  asked = asked_after [] input (drop (length site.held) next.held)

  stepped : IsSettled setup n asked mid (with_given setup n then (process.input input)) (outs_of_given setup n then (process.input input))
  stepped =
      given-settled setup n d asked mid then (process.input input)
      (may, last-asked setup d n (station_at d n).asked (station_at d n).file site next content (m.each n known).rest f input s [])
      (still-sent setup n d world mid waited.1.sent (has-sent setup d events m)) waited.1.seen (let wide = m.sites in let still = waited.1.width in omega (arith, wide, still, known)) known

  abbrev step : model.Step
  step = site_step setup n site.site.records s.running input

  given-outs : outs_of_given setup n then (process.input input) ≡ outs n step.sends step.notes
  given-outs =
      ap (λ (c : Content). outs_of_given setup n c (process.input input))
      (f.come ∙ ap (λ (running : Option Running). record { records = site.site.records; running = running }) s.was)

  -- What is settled prints what it lets out.
  settled-prints : (at : World) (asks : List Asked) (after : Content) (out : List Out) (settled : IsSettled setup n asks at after out) (txn : TxnId) → Contains out (note (began txn))
      → Contains (lines_of_transitions (run setup at settled.0)) (Line.txn txn)
  settled-prints at asks after out settled txn there =
      let transitions = run setup at settled.0 in
      let made = made_from n at transitions in
      let in_made : Contains made (prints (Line.txn txn)) =
      All-contains (Contains made) (map (made_as n) out) (prints (Line.txn txn)) (within-made n (map (made_as n) out) made settled.1.own)
      (Contains-map (made_as n) out (note (began txn)) there) in
      All-contains (IsPrinted (lines_of_transitions transitions)) made (prints (Line.txn txn)) (from-printed n at transitions) in_made

  module _ (new : (setup : Setup) (all_events : List Event) → All (IsWellFormed setup.catalog) all_events → TxnsAreNew (run setup (opening setup) all_events))
      (txn : TxnId) (begins : Contains (map (λ (one : Held). one.out) (drop (length site.held) next.held)) (note (began txn))) where
    step-printed : PrintedAt (run setup mid stepped.0) (Line.txn txn)
    step-printed =
        printed-at (run setup mid stepped.0) (Line.txn txn)
        (settled-prints mid asked (with_given setup n then (process.input input)) (outs_of_given setup n then (process.input input)) stepped txn
        (subst (λ (l : List Out). Contains l (note (began txn))) (new-outs setup n site next f.me f.catalog f.surplus input s ∙ sym given-outs) begins))

    -- The number is printed by nothing before.
    not-twice : Contains (printed setup (events ++ waited.0)) (Line.txn txn) → ⊥
    not-twice before =
        let first = in-run setup (events ++ waited.0) (Line.txn txn) before in
        let a = first.place in
        let b = step-printed.place in
        let all = (events ++ waited.0) ++ stepped.0 in
        let later : run setup (world_of setup (events ++ waited.0)) stepped.0 ≡ run setup mid stepped.0 =
        ap (λ (w : World). run setup w stepped.0) (after-append setup (opening setup) events waited.0) in
        let split : run setup (opening setup) all ≡ a.earlier ++ a.transition ∷ ((a.later ++ b.earlier) ++ b.transition ∷ b.later) =
        run-append setup (opening setup) (events ++ waited.0) stepped.0
        ∙ ap₂ (λ (x y : List Transition). x ++ y) a.split (later ∙ b.split)
        ∙ append_assoc a.earlier (a.transition ∷ a.later) (b.earlier ++ b.transition ∷ b.later)
        ∙ ap (λ (l : List Transition). a.earlier ++ a.transition ∷ l) (sym (append_assoc a.later b.earlier (b.transition ∷ b.later))) in
        new setup all
        (All-append (IsWellFormed setup.catalog) (events ++ waited.0) stepped.0 (All-append (IsWellFormed setup.catalog) events waited.0 m.well waited.1.well) stepped.1.well)
        a.earlier (a.later ++ b.earlier) b.later a.transition b.transition split txn first.there step-printed.there

    pub fresh-run : Contains (printed setup events) (Line.txn txn) → ⊥
    fresh-run before = not-twice (printed-more setup events waited.0 (Line.txn txn) before)

    waiting-printed : Contains (outs_of_all setup n content f.waiting) (note (began txn)) → Contains (printed setup (events ++ waited.0)) (Line.txn txn)
    unfolding printed
    waiting-printed there =
        subst (λ (l : List Transition). Contains (lines_of_transitions l) (Line.txn txn)) (sym (run-append setup (opening setup) events waited.0))
        (subst (λ (l : List Line). Contains l (Line.txn txn)) (sym (flat_map-append (λ (t : Transition). t.lines) (run setup (opening setup) events) (run setup world waited.0)))
        (Contains-append_right (lines_of_transitions (run setup (opening setup) events)) (lines_of_transitions (run setup world waited.0)) (Line.txn txn)
        (settled-prints world (station_at d n).asked then (outs_of_all setup n content f.waiting) waited txn there)))

    pub fresh-waiting : Contains (outs_of_all setup n content f.waiting) (note (began txn)) → ⊥
    fresh-waiting there = not-twice (waiting-printed there)

-- So what a site begins from now on is begun by nothing in the run so far.
pub not-before : (setup : Setup) (d : Deployment) (events : List Event) (m : IsMirrored setup d events) (n : ℕ) (known : n < setup.catalog.sites) (site next : HostedState)
    → (station_at d n).hosted ≡ Some site → (input : model.Input) → MayTake setup.catalog d n input → HasStepped site next input
    → ((setup : Setup) (all_events : List Event) → All (IsWellFormed setup.catalog) all_events → TxnsAreNew (run setup (opening setup) all_events))
    → (held : Held) (txn : TxnId) → Contains (drop (length site.held) next.held) held → held.out ≡ note (began txn) → Contains (printed setup events) (Line.txn txn) → ⊥
not-before setup d events m n known site next here input may s new held txn there is before =
    let follows = m.each n known in
    let f : FollowsHosted setup d n (station_at d n).asked (station_at d n).file site follows.content follows.rest =
    subst (λ (h : Option HostedState). FollowsProcess setup d n (station_at d n).asked (station_at d n).file h follows.content follows.rest) here follows.process in
    let outs = map (λ (one : Held). one.out) (drop (length site.held) next.held) in
    fresh-run setup d events m n known site next f input may s new txn
    (subst (Contains outs) is (Contains-map (λ (one : Held). one.out) (drop (length site.held) next.held) held there)) before
