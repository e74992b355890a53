-- A process goes: what the file has is settled, and then the world's site stops, where it is up.
use Rattle.std.proofs.Common.{◌≡◌, ℕ, ◌<◌, Some, None, List, [], ◌∷◌, ◌++◌, length, map, All, append_assoc, append-nil, get_or-set_same, get_or-set_other, refl, sym, ap, ◌∙◌, subst, arith}
use Rattle.std.proofs.lemmas.List.{length-set, map-append}
use Rattle.std.proofs.lemmas.List.Elements.{All-nil, All-cons}
use Rattle.pv_disk_model.specs.Size.{Contents}
use Rattle.pv_format.specs.Contents.{AreWritten}
use Rattle.pv_format.specs.Journal.{IsJournal}
use Rattle.pv_format.specs.Record.{Record}
use Rattle.pv_model.specs.Events as events
use Rattle.pv_model.specs.Events.{Event}
use Rattle.pv_protocol.specs.Attempt.{begun, halted}
use Rattle.pv_protocol.specs.Lines.{Line}
use Rattle.pv_protocol.specs.Run.{run, transitions_of, world_after}
use Rattle.pv_protocol.specs.State.{Setup, Running, Site}
use Rattle.pv_protocol.specs.WellFormed.{IsWellFormed}
use Rattle.pv_protocol.specs.World.{World, no_site, site_at, with_site}
use Rattle.pv_protocol.specs.WorldStep.{Transition, transition_of, ended}
use Rattle.pv_embed.specs.Held.{Out}
use Rattle.pv_law_hosted.proofs.ClaimLemmas.{seen-up}
use Rattle.pv_law_hosted.proofs.MirroredLemmas.{has-sent, mirrored-after}
use Rattle.pv_law_hosted.proofs.OneByOneLemmas.{all-settled}
use Rattle.pv_law_hosted.proofs.RunLemmas.{made-append, made-other, made-own}
use Rattle.pv_law_hosted.proofs.SettleLemmas.{IsAskedOf, IsPlacedOf, Settles, settles-then}
use Rattle.pv_law_hosted.proofs.WithinLemmas.{within-front, within-stop}
use Rattle.pv_law_hosted.specs.Asked.{Asked}
use Rattle.pv_law_hosted.specs.Deployment.{Deployment, station_at, with_station}
use Rattle.pv_law_hosted.specs.Given.{Content, Given, MayAllBeGiven, outs_of_all, with_all}
use Rattle.pv_law_hosted.specs.Made.{Made, IsWithin, prints, made_as, made_by, made_from, made_in}
use Rattle.pv_law_hosted.specs.Made as made
use Rattle.pv_law_hosted.specs.Mirrored as mirrored
use Rattle.pv_law_hosted.specs.Mirrored.{FollowsGone, IsMirrored, IsSeenAs, plain_site, world_of}

module _ (setup : Setup) (n : ℕ) where
  -- ## A site that is up stops
  abbrev halt : World → Transition
  halt world = record { event = events.stop n; lines = Line.stopped n ∷ []; world = with_site world n (record (site_at world n) { running = None }) }

  stop-run : (world : World) (records : List Record) (running : Running) → site_at world n ≡ plain_site records (Some running)
      → run setup world (events.stop n ∷ []) ≡ halt world ∷ []
  unfolding transitions_of transition_of begun
  stop-run world records running stands =
      ap (λ (site : Site). let end = ended (halted world n site.running) in record { event = events.stop n; lines = end.0; world = end.1 } ∷ []) stands

  stop-made : (world : World) (records : List Record) (running : Running) → site_at world n ≡ plain_site records (Some running)
      → made_from n world (run setup world (events.stop n ∷ [])) ≡ prints (Line.stopped n) ∷ []
  stop-made world records running stands =
      ap (made_from n world) (stop-run world records running stands) ∙ append-nil (made_in n world (halt world))
      ∙ made-own n world (halt world) [] refl (sym (append-nil world.sent))

  settles-stop : (asked : List Asked) (world : World) (records : List Record) (running : Running) → site_at world n ≡ plain_site records (Some running) → n < length world.sites
      → n < setup.catalog.sites → Settles setup world n asked (record { records = records; running = None }) [] (events.stop n ∷ [])
  settles-stop asked world records running stands below known =
      let is = stop-run world records running stands in
      let t = halt world in
      let site = record (site_at world n) { running = None } in
      let left : site_at t.world n ≡ plain_site records None =
      get_or-set_same world.sites n site no_site below ∙ ap (λ (s : Site). record s { running = None }) stands in
      let after : world_after world (run setup world (events.stop n ∷ [])) ≡ t.world = ap (world_after world) is in
      let content : Content = record { records = records; running = None } in
      record {
        well = All-cons (IsWellFormed setup.catalog) (events.stop n) [] known (All-nil (IsWellFormed setup.catalog));
        width = ap (λ (w : World). length w.sites) after ∙ length-set world.sites n site;
        seen = subst (λ (w : World). IsSeenAs content (site_at w n)) (sym after) (subst (IsSeenAs content) (sym left) (mirrored.same records None));
        others = λ m apart. ap (λ (w : World). site_at w m) after ∙ get_or-set_other world.sites n m site no_site (λ e. apart (sym e));
        own = subst (IsWithin n []) (sym (stop-made world records running stands)) (made.stops [] (prints (Line.stopped n) ∷ []) [] [] refl made.none);
        silent = λ m apart. ap (made_from m world) is ∙ append-nil (made_in m world t) ∙ made-other n m world t refl apart;
        sent = ([], ap (λ (w : World). w.sent) after ∙ sym (append-nil world.sent));
        asked_for = subst (All (IsAskedOf n asked)) (sym is)
            (All-cons (IsAskedOf n asked) t [] (λ m query text program txn is_request there. absurd cc) (All-nil (IsAskedOf n asked)));
        programs = λ before own.
            let more = run setup world (events.stop n ∷ []) in
            let down : (site_at (world_after world more) n).running ≡ None = ap (λ (w : World). (site_at w n).running) after ∙ ap (λ (s : Site). s.running) left in (
              (λ now up. let wrong : None ≡ Some now = sym down ∙ up in absurd cc),
              ([], (ap (λ (w : World). w.order) after ∙ sym (append-nil world.order), All-nil (IsPlacedOf n (before ++ more)))),
            );
      }

  -- ## The process goes, and the file has the records of a site that is up
  pub goes-up : (d : Deployment) (events' : List Event) (m : IsMirrored setup d events') (known : n < setup.catalog.sites) (left : List ℕ) (done : List Given)
      → MayAllBeGiven setup n d (station_at d n).asked (m.each n known).content done → (running : Running) → (with_all setup n (m.each n known).content done).running ≡ Some running
      → (contents : Contents) → IsJournal contents left → AreWritten (with_all setup n (m.each n known).content done).records contents
      → (more : List Event) × IsMirrored setup (with_station d n (record (station_at d n) { file = left; hosted = None })) (events' ++ more)
  goes-up d events' m known left done may running up contents journal spelled =
      let follows = m.each n known in
      let world = world_of setup events' in
      let out = (station_at d n).let_out in
      let content = with_all setup n follows.content done in
      let below : n < length world.sites = let all = m.sites in omega (arith, all, known) in
      let asked = (station_at d n).asked in
      let settled = all-settled setup n d asked world follows.content done may (has-sent setup d events' m) follows.seen below known in
      let mid = world_after world (run setup world settled.0) in
      let stands : site_at mid n ≡ plain_site content.records (Some running) =
      seen-up content (site_at mid n) running settled.1.seen up ∙ ap (plain_site content.records) up in
      let below' : n < length mid.sites = let wide = settled.1.width in omega (arith, wide, below) in
      let stop = events.stop n ∷ [] in
      let halts = settles-stop asked mid content.records running stands below' known in
      let gone : Content = record { records = content.records; running = None } in
      let all = settles-then setup n asked world content gone (outs_of_all setup n follows.content done) [] settled.0 stop settled.1 halts in
      let before = made_by setup n events' in
      let middle = made_from n world (run setup world settled.0) in
      let first = within-front n (map (made_as n) out) (map (made_as n) follows.rest) (map (made_as n) (out ++ follows.rest)) before (map-append (made_as n) out follows.rest) follows.within in
      let makes : before ++ made_from n world (run setup world (settled.0 ++ stop)) ≡ first.done ++ ((first.rest ++ middle) ++ prints (Line.stopped n) ∷ []) =
      ap (λ (l : List Made). before ++ l) (made-append setup n world settled.0 stop ∙ ap (λ (l : List Made). middle ++ l) (stop-made mid content.records running stands))
      ∙ ap (λ (l : List Made). l ++ (middle ++ prints (Line.stopped n) ∷ [])) first.is
      ∙ append_assoc first.done first.rest (middle ++ prints (Line.stopped n) ∷ [])
      ∙ ap (λ (l : List Made). first.done ++ l) (sym (append_assoc first.rest middle (prints (Line.stopped n) ∷ []))) in (
        settled.0 ++ stop,
        mirrored-after setup d events' m n known (record (station_at d n) { file = left; hosted = None }) ([], sym (append-nil out)) gone
            (outs_of_all setup n follows.content done ++ []) [] (settled.0 ++ stop) all (λ txn program printed is. is)
            (subst (λ (l : List Out). IsWithin n (map (made_as n) l) (before ++ made_from n world (run setup world (settled.0 ++ stop)))) (sym (append-nil out))
            (subst (IsWithin n (map (made_as n) out)) (sym makes) (within-stop n (map (made_as n) out) first.done (first.rest ++ middle) first.within)))
            record { contents = contents; journal = journal; spelled = spelled; down = refl; silent = refl },
      )
