-- What a station becomes by what happens to it.
use Rattle.std.proofs.Common.{◌≡◌, ℕ, ◌+◌, ◌≤◌, Some, List, [], ◌∷◌, ◌++◌, map, All, append_assoc, append-nil, refl, sym, ap, ◌∙◌, subst, arith}
use Rattle.std.proofs.lemmas.List.Elements.{All-head, All-tail}
use Rattle.pv_disk_model.specs.Size.{Contents, size_of}
use Rattle.pv_format.specs.Contents.{AreWritten}
use Rattle.pv_format.specs.Record.{Record}
use Rattle.pv_protocol.specs.Records.{journal_bytes}
use Rattle.pv_protocol.specs.State.{Setup}
use Rattle.pv_site.specs.SiteState.{setup_of}
use Rattle.pv_host.specs.HostFile.{IsFile}
use Rattle.pv_host.specs.HostLog.{contents_of}
use Rattle.pv_embed.specs.Held.{Held, Out}
use Rattle.pv_embed.specs.Hosted.{HostedState, stored_length}
use Rattle.pv_law_hosted.proofs.GivenLemmas.{held-waits}
use Rattle.pv_law_hosted.proofs.MirroredLemmas.{Becomes}
use Rattle.pv_law_hosted.proofs.StoreLemmas.{still-written}
use Rattle.pv_law_hosted.specs.Asked.{Asked}
use Rattle.pv_law_hosted.specs.Deployment.{Deployment, Station, station_at}
use Rattle.pv_law_hosted.specs.DeploymentEvents.{Stands}
use Rattle.pv_law_hosted.specs.Given.{Content, held_for}
use Rattle.pv_law_hosted.specs.Mirrored.{FollowsHosted, FollowsProcess}

module _ (setup : Setup) (d : Deployment) (n : ℕ) where
  -- ## The site is the same but for its log, which stores what it stored; the file may be another one
  pub follows-still : (asked : List Asked) (file left : List ℕ) (site next : HostedState) (content : Content) (rest : List Out) → FollowsHosted setup d n asked file site content rest
      → IsFile next.site.log left → Stands next → next.site.log.stored ≡ site.site.log.stored → contents_of next.site.log ≡ contents_of site.site.log
      → next ≡ record site { site = record site.site { log = next.site.log } } → FollowsHosted setup d n asked left next content rest
  follows-still asked file left site next content rest f is_file stands stored same is = record {
    is_file = is_file;
    stands = stands;
    me = ap (λ (h : HostedState). h.site.me) is ∙ f.me;
    catalog = ap (λ (h : HostedState). setup_of h.site.catalog) is ∙ f.catalog;
    surplus = ap (λ (h : HostedState). h.site.surplus) is ∙ f.surplus;
    stored = subst (AreWritten content.records) (sym stored) f.stored;
    whole = still-written site next is same f.whole;
    waiting = f.waiting;
    allowed = f.allowed;
    first = f.first;
    come = f.come ∙ sym (ap (λ (h : HostedState). record { records = h.site.records; running = h.site.running }) is);
    ready = f.ready;
    held = ap (λ (h : HostedState). h.held) is ∙ f.held;
    in_file = subst (λ (l : Contents). All (λ (one : Held). one.length ≤ size_of l) f.ready) (sym stored) f.in_file;
    rest_is = f.rest_is;
    unopened = f.unopened;
  }

  -- a station with another file and process, that has let nothing out
  pub becomes-still : (content : Content) (rest : List Out) (new : Station) → new.let_out ≡ (station_at d n).let_out
      → FollowsProcess setup d n new.asked new.file new.hosted content rest → Becomes setup d n content rest new
  becomes-still content rest new silent follows = record {
    done = [];
    may = tt;
    ready = rest;
    grows = ([], silent ∙ sym (append-nil (station_at d n).let_out));
    out = ap (λ (l : List Out). l ++ rest) silent ∙ sym (append-nil ((station_at d n).let_out ++ rest));
    process = follows;
  }

  module _ (tells : (records : List Record) (contents : Contents) → AreWritten records contents → size_of contents ≡ journal_bytes records) where
    -- ## Something is let out
    -- What can be let out is ready to be.
    first-ready : (asked : List Asked) (file : List ℕ) (site : HostedState) (content : Content) (rest : List Out) (f : FollowsHosted setup d n asked file site content rest)
        (first : Held) (later : List Held) → site.held ≡ first ∷ later → first.length ≤ stored_length site
        → (ready : List Held) → f.ready ≡ ready → (more : List Held) × (ready ≡ first ∷ more) × (later ≡ more ++ held_for setup n content f.waiting)
    first-ready asked file site content rest f first later is le [] none =
        let all : held_for setup n content f.waiting ≡ first ∷ later = sym (ap (λ (l : List Held). l ++ held_for setup n content f.waiting) none) ∙ sym f.held ∙ is in
        let low : journal_bytes content.records + 1 ≤ first.length =
        All-head (λ (one : Held). journal_bytes content.records + 1 ≤ one.length) first later
        (subst (All (λ (one : Held). journal_bytes content.records + 1 ≤ one.length)) all (held-waits setup n content f.waiting f.first)) in
        let long : stored_length site ≡ journal_bytes content.records = tells content.records site.site.log.stored f.stored in
        absurd (omega (arith, le, low, long))
    first-ready asked file site content rest f first later is le (one ∷ more) some =
        let all : one ∷ (more ++ held_for setup n content f.waiting) ≡ first ∷ later =
        sym (ap (λ (l : List Held). l ++ held_for setup n content f.waiting) some) ∙ sym f.held ∙ is in
        let head : one ≡ first = cc in
        let tail : more ++ held_for setup n content f.waiting ≡ later = cc in
        (more, ap (λ (it : Held). it ∷ more) head, sym tail)

    -- The next thing is let out.
    out-follows : (asked : List Asked) (file : List ℕ) (site next : HostedState) (content : Content) (rest : List Out) (f : FollowsHosted setup d n asked file site content rest)
        (first : Held) (later more : List Held) → IsFile next.site.log file → Stands next → next ≡ record site { held = later }
        → f.ready ≡ first ∷ more → later ≡ more ++ held_for setup n content f.waiting
        → FollowsHosted setup d n asked file next content (map (λ (one : Held). one.out) more)
    out-follows asked file site next content rest f first later more is_file stands is some tail = record {
      is_file = is_file;
      stands = stands;
      me = ap (λ (h : HostedState). h.site.me) is ∙ f.me;
      catalog = ap (λ (h : HostedState). setup_of h.site.catalog) is ∙ f.catalog;
      surplus = ap (λ (h : HostedState). h.site.surplus) is ∙ f.surplus;
      stored = subst (AreWritten content.records) (sym (ap (λ (h : HostedState). h.site.log.stored) is)) f.stored;
      whole = subst (λ (h : HostedState). AreWritten h.site.records (contents_of h.site.log)) (sym is) f.whole;
      waiting = f.waiting;
      allowed = f.allowed;
      first = f.first;
      come = f.come ∙ sym (ap (λ (h : HostedState). record { records = h.site.records; running = h.site.running }) is);
      ready = more;
      held = ap (λ (h : HostedState). h.held) is ∙ tail;
      in_file = subst (λ (l : Contents). All (λ (one : Held). one.length ≤ size_of l) more) (sym (ap (λ (h : HostedState). h.site.log.stored) is))
          (All-tail (λ (one : Held). one.length ≤ stored_length site) first more (subst (All (λ (one : Held). one.length ≤ stored_length site)) some f.in_file));
      rest_is = refl;
      unopened = λ down. let never : first ∷ more ≡ [] = sym some ∙ f.unopened down in cc;
    }

    pub becomes-some : (old : Station) (site next : HostedState) (content : Content) (rest : List Out) (f : FollowsHosted setup d n old.asked old.file site content rest)
        (first : Held) (later : List Held) → old ≡ station_at d n → site.held ≡ first ∷ later → first.length ≤ stored_length site
        → next ≡ record site { held = later } → IsFile next.site.log old.file → Stands next
        → Becomes setup d n content rest (record old { hosted = Some next; let_out = old.let_out ++ first.out ∷ [] })
    becomes-some old site next content rest f first later here is le left is_file stands =
        let found = first-ready old.asked old.file site content rest f first later is le f.ready refl in
        let more = found.0 in
        let ready = map (λ (one : Held). one.out) more in
        record {
          done = [];
          may = tt;
          ready = ready;
          grows = (first.out ∷ [], ap (λ (s : Station). s.let_out ++ first.out ∷ []) here);
          out = append_assoc old.let_out (first.out ∷ []) ready
              ∙ ap (λ (l : List Held). old.let_out ++ map (λ (one : Held). one.out) l) (sym found.1)
              ∙ ap (λ (l : List Out). old.let_out ++ l) (sym f.rest_is)
              ∙ ap (λ (s : Station). s.let_out ++ rest) here
              ∙ sym (append-nil ((station_at d n).let_out ++ rest));
          process = out-follows old.asked old.file site next content rest f first later more is_file stands left found.1 found.2;
        }
