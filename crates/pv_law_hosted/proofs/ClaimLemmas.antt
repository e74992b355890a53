-- What a deployment promises that a run mirrors; and that a new one is mirrored by no events.
use Rattle.std.proofs.Common.{All, ◌≡◌, inl, inr, ℕ, ◌<◌, ◌≤◌, Option, Some, None, List, [], ◌∷◌, ◌++◌, map, refl, sym, ap, ◌∙◌, subst, arith}
use Rattle.std.proofs.lemmas.List.{get_or-replicate, length-replicate, map-append}
use Rattle.std.proofs.lemmas.List.Elements.{All-nil, All-get_or}
use Rattle.pv_base.proofs.Basics.{Some_inj}
use Rattle.pv_base.specs.Catalog.{Declared}
use Rattle.pv_disk_model.specs.Size.{Contents, size_of}
use Rattle.pv_format.specs.Contents.{AreWritten, IsFirstBadContent, SpellRecords}
use Rattle.pv_format.specs.Journal.{IsJournal}
use Rattle.pv_format.specs.Record.{Record}
use Rattle.pv_law_format.proofs.ReplayLemmas.{no-bad, written-read}
use Rattle.pv_model.specs.Events.{Event}
use Rattle.pv_protocol.specs.Records.{journal_bytes, longer_journal}
use Rattle.pv_protocol.specs.State.{Setup, Running, Site}
use Rattle.pv_protocol.specs.WellFormed.{IsWellFormed}
use Rattle.pv_protocol.specs.World.{no_site, first_site, opening, site_at}
use Rattle.pv_site.specs.SiteState.{setup_of}
use Rattle.pv_site.specs.Steps.{HoldsWhatRuns}
use Rattle.pv_host.specs.HostLaws.{host_model}
use Rattle.pv_embed.specs.Held.{Out}
use Rattle.pv_embed.specs.Hosted.{HostedState, log_length, stored_length}
use Rattle.pv_law_hosted.proofs.GivenLemmas.{nothing-waits}
use Rattle.pv_law_hosted.proofs.WithinLemmas.{within-front}
use Rattle.pv_law_hosted.specs.Claims.{HoldsSite}
use Rattle.pv_law_hosted.specs.DeploymentEvents.{HoldTheSame}
use Rattle.pv_law_hosted.specs.Asked.{Asked}
use Rattle.pv_law_hosted.specs.Deployment.{Deployment, IsNew, IsNewStation, no_station, station_at}
use Rattle.pv_law_hosted.specs.Given.{Content, Given, with_all}
use Rattle.pv_law_hosted.specs.Made.{Made, IsLetOutOf, IsWithin, made_as, made_by}
use Rattle.pv_law_hosted.specs.Made as made
use Rattle.pv_law_hosted.specs.Mirrored as mirrored
use Rattle.pv_law_hosted.specs.Mirrored.{IsAskedIn, IsPlacedAsBegun, WorksAsBegun, IsSeenAs, Follows, FollowsGone, FollowsHosted, FollowsProcess, IsMirrored, plain_site, unborn, world_of}

-- ## What the world's site is
pub seen-up : (content : Content) (site : Site) (running : Running) → IsSeenAs content site → content.running ≡ Some running
    → site ≡ plain_site content.records content.running
seen-up content site running (mirrored.same records present) is = refl
seen-up content site running unborn is = absurd cc

no-contents : (contents : Contents) → AreWritten [] contents → contents ≡ []
no-contents [] spelled = refl
no-contents (content ∷ contents) spelled = absurd spelled

seen-gone : (file : List ℕ) (content : Content) (site : Site) (rest : List Out) → IsSeenAs content site → FollowsGone file content rest → HoldsSite file site
seen-gone file content site rest (mirrored.same records present) gone = inl (gone.contents, gone.journal, written-read records gone.contents gone.spelled, gone.down)
seen-gone file content site rest unborn gone =
    inr (subst (λ (contents : Contents). IsJournal contents file) (no-contents gone.contents gone.spelled) gone.journal, refl)

-- The file is a journal of records.
pub journal-left : (file : List ℕ) (site : Site) → HoldsSite file site → (contents : Contents) × (records : List Record) × IsJournal contents file × SpellRecords records contents
journal-left file site (inl left) = (left.0, site.records, left.1, left.2)
journal-left file site (inr left) = ([], [], left.0, tt)

-- Other bytes that hold the same hold the site, too.
pub holds-moved : (one : (bytes : List ℕ) (contents others : Contents) → IsJournal contents bytes → IsJournal others bytes → contents ≡ others)
    → (file bytes : List ℕ) → HoldTheSame file bytes → (site : Site) → HoldsSite file site → HoldsSite bytes site
holds-moved one file bytes same site (inl left) =
    inl (left.0, subst (λ (contents : Contents). IsJournal contents bytes) (one file same.0 left.0 same.1 left.1) same.2, left.2, left.3)
holds-moved one file bytes same site (inr left) =
    inr (subst (λ (contents : Contents). IsJournal contents bytes) (one file same.0 [] same.1 left.0) same.2, left.1)

-- None of its contents is bad.
pub bad-left : (contents others : Contents) (records : List Record) (index : ℕ) → contents ≡ others → SpellRecords records contents → IsFirstBadContent others index → ⊥
bad-left contents others records index same spelled bad = no-bad others records index (subst (SpellRecords records) same spelled) bad

module _ (tells : (records : List Record) (contents : Contents) → AreWritten records contents → size_of contents ≡ journal_bytes records) where
  -- Where all of its log is said to be in the file nothing waits.
  pub settled-waiting : (setup : Setup) (d : Deployment) (n : ℕ) (asked : List Asked) (file : List ℕ) (hosted : HostedState) (content : Content) (rest : List Out)
      → (follows : FollowsHosted setup d n asked file hosted content rest) → log_length hosted ≤ stored_length hosted → follows.waiting ≡ []
  settled-waiting setup d n asked file hosted content rest follows le =
      let holds = subst (λ r. HoldsWhatRuns host_model hosted.site.log hosted.site.surplus hosted.site.records r) follows.stands.up follows.stands.ready.holds in
      let all : log_length hosted ≡ journal_bytes hosted.site.records = holds.size ∙ ap (λ (n : ℕ). longer_journal n hosted.site.records) follows.surplus in
      let some : stored_length hosted ≡ journal_bytes content.records = tells content.records hosted.site.log.stored follows.stored in
      let come : journal_bytes (with_all setup n content follows.waiting).records ≡ journal_bytes hosted.site.records =
      ap (λ (c : Content). journal_bytes c.records) follows.come in
      nothing-waits setup n content follows.waiting follows.first (omega (arith, le, all, some, come))

  shown-hosted : (setup : Setup) (d : Deployment) (n : ℕ) (asked : List Asked) (file : List ℕ) (hosted : HostedState) (content : Content) (rest : List Out) (site : Site)
      → FollowsHosted setup d n asked file hosted content rest → IsSeenAs content site → log_length hosted ≤ stored_length hosted
      → site ≡ plain_site hosted.site.records hosted.site.running
  shown-hosted setup d n asked file hosted content rest site follows seen le =
      let none = settled-waiting setup d n asked file hosted content rest follows le in
      let here : content ≡ record { records = hosted.site.records; running = hosted.site.running } =
      subst (λ (waiting : List Given). with_all setup n content waiting ≡ record { records = hosted.site.records; running = hosted.site.running }) none follows.come in
      let up : content.running ≡ Some follows.stands.running = ap (λ (c : Content). c.running) here ∙ follows.stands.up in
      seen-up content site follows.stands.running seen up ∙ ap (λ (c : Content). plain_site c.records c.running) here

  pub shown-mirrored : (setup : Setup) (d : Deployment) (events : List Event) (n : ℕ) (hosted : HostedState) → IsMirrored setup d events → n < setup.catalog.sites
      → (station_at d n).hosted ≡ Some hosted → log_length hosted ≤ stored_length hosted
      → site_at (world_of setup events) n ≡ plain_site hosted.site.records hosted.site.running
  shown-mirrored setup d events n hosted mirrored below is le =
      let follows = mirrored.each n below in
      let process : FollowsHosted setup d n (station_at d n).asked (station_at d n).file hosted follows.content follows.rest =
      subst (λ (h : Option HostedState). FollowsProcess setup d n (station_at d n).asked (station_at d n).file h follows.content follows.rest) is follows.process in
      shown-hosted setup d n (station_at d n).asked (station_at d n).file hosted follows.content follows.rest (site_at (world_of setup events) n) process follows.seen le

pub gone-mirrored : (setup : Setup) (d : Deployment) (events : List Event) (n : ℕ) → IsMirrored setup d events → n < setup.catalog.sites
    → (station_at d n).hosted ≡ None → HoldsSite (station_at d n).file (site_at (world_of setup events) n)
gone-mirrored setup d events n mirrored below is =
    let follows = mirrored.each n below in
    let process : FollowsGone (station_at d n).file follows.content follows.rest =
    subst (λ (h : Option HostedState). FollowsProcess setup d n (station_at d n).asked (station_at d n).file h follows.content follows.rest) is follows.process in
    seen-gone (station_at d n).file follows.content (site_at (world_of setup events) n) follows.rest follows.seen process

pub out-mirrored : (setup : Setup) (d : Deployment) (events : List Event) (n : ℕ) → IsMirrored setup d events → n < setup.catalog.sites
    → IsLetOutOf n (map (made_as n) (station_at d n).let_out) (made_by setup n events)
out-mirrored setup d events n mirrored below =
    let follows = mirrored.each n below in
    let out = (station_at d n).let_out in
    within-front n (map (made_as n) out) (map (made_as n) follows.rest) (map (made_as n) (out ++ follows.rest)) (made_by setup n events)
    (map-append (made_as n) out follows.rest) follows.within

-- ## A new deployment
abbrev nothing_there : Content
nothing_there = record { records = []; running = None }

new-follows : (setup : Setup) (d : Deployment) (n : ℕ) → n < setup.catalog.sites → IsNewStation (station_at d n)
    → Follows setup d n (site_at (opening setup) n) []
new-follows setup d n below new = record {
  content = nothing_there;
  seen = subst (IsSeenAs nothing_there) (sym (get_or-replicate setup.catalog.sites n first_site no_site below)) unborn;
  rest = [];
  within = subst (λ (out : List Out). IsWithin n (map (made_as n) (out ++ [])) []) (sym new.silent) made.none;
  process = subst (λ (h : Option HostedState). FollowsProcess setup d n (station_at d n).asked (station_at d n).file h nothing_there []) (sym new.gone)
      record { contents = []; journal = new.file; spelled = tt; down = refl; silent = refl };
}

pub new-mirrored : (catalog : Declared) (d : Deployment) → IsNew catalog d → IsMirrored (setup_of catalog) d []
new-mirrored catalog d new = record {
  well = All-nil (IsWellFormed catalog);
  stations = new.count;
  sites = length-replicate catalog.sites first_site;
  asked = All-nil (IsAskedIn d);
  programs = record {
    works = λ n running below up.
        let entries : running.entries ≡ [] =
        ap (λ (r : Running). r.entries)
        (sym (Some_inj (sym (ap (λ (site : Site). site.running) (get_or-replicate catalog.sites n first_site no_site below)) ∙ up))) in
        subst (All (WorksAsBegun [] n)) (sym entries) (All-nil (WorksAsBegun [] n));
    order = All-nil (IsPlacedAsBegun []);
  };
  each = λ n below. new-follows (setup_of catalog) d n below (All-get_or IsNewStation d n no_station (subst (λ (count : ℕ). n < count) (sym new.count) below) new.each);
}
