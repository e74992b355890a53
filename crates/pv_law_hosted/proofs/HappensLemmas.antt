-- Whatever happens in a deployment, the run that mirrors it goes on, and mirrors it then.
use Rattle.std.proofs.Common.{All, ◌≡◌, ⊎_elim, ℕ, ◌<◌, ◌≤◌, Option, Some, None, List, [], ◌∷◌, ◌++◌, drop, length, map, append-nil, refl, sym, ap, ◌∙◌, subst}
use Rattle.pv_disk_model.specs.Disk.{overlaid}
use Rattle.pv_disk_model.specs.Size.{Contents, size_of}
use Rattle.pv_format.specs.Contents.{AreWritten}
use Rattle.pv_format.specs.Journal.{IsJournal}
use Rattle.pv_format.specs.Record.{Record}
use Rattle.pv_format.specs.RecordSpelling.{IsReadAs}
use Rattle.pv_law_answers.specs.Numbers.{TxnsAreNew}
use Rattle.pv_model.specs.Events.{Event, Schedule}
use Rattle.pv_model.specs.Schedule.{IsSchedule}
use Rattle.pv_protocol.specs.Records.{journal_bytes}
use Rattle.pv_protocol.specs.Run.{run}
use Rattle.pv_protocol.specs.State as model
use Rattle.pv_protocol.specs.State.{Setup, Running}
use Rattle.pv_protocol.specs.WellFormed.{IsWellFormed}
use Rattle.pv_protocol.specs.World.{opening}
use Rattle.pv_site.specs.SiteState.{setup_of}
use Rattle.pv_host.specs.HostFile.{IsFile, IsStored, MayLeave}
use Rattle.pv_host.specs.HostLog.{HostState, HostWrite, contents_of, next_write, with_asked}
use Rattle.pv_embed.proofs.HostedLemmas.{contents_written, stored_asked}
use Rattle.pv_embed.specs.Held.{Held, Out}
use Rattle.pv_embed.specs.Hosted.{AsksForGroup, HasStepped, HostedState, Stays, Writes, stored_length}
use Rattle.pv_embed.specs.Opening.{Configures, HasOpenedOn}
use Rattle.pv_law_hosted.proofs.AheadLemmas.{ahead-file, ahead-stored}
use Rattle.pv_law_hosted.proofs.AskedLemmas.{asked-kept}
use Rattle.pv_law_hosted.proofs.CaseLemmas.{becomes-some, becomes-still, follows-still}
use Rattle.pv_law_hosted.proofs.GivesLemmas.{becomes-given}
use Rattle.pv_law_hosted.proofs.GoesLemmas.{goes-up}
use Rattle.pv_law_hosted.proofs.MirroredLemmas.{Becomes, KeepsPrinted, becomes-mirrored}
use Rattle.pv_law_hosted.proofs.OpensLemmas.{becomes-opened}
use Rattle.pv_law_hosted.proofs.StoreLemmas.{idle-stored, write-stores}
use Rattle.pv_law_hosted.proofs.TakesLemmas.{becomes-written, cut-group}
use Rattle.pv_law_hosted.proofs.TimeLemmas.{fresh-run, fresh-waiting}
use Rattle.pv_law_hosted.specs.Asked.{Asked, asked_after, asked_as}
use Rattle.pv_law_hosted.specs.Deployment.{Deployment, Station, station_at, with_station}
use Rattle.pv_law_hosted.specs.DeploymentEvents.{Happens, HappensAt, HappensTo, Stands, takes, stays, asks, is_writing, writes, idles, lets_out, goes}
use Rattle.pv_law_hosted.specs.Given.{Content}
use Rattle.pv_law_hosted.specs.Mirrored.{FollowsGone, FollowsHosted, FollowsProcess, IsMirrored}

-- What the laws below say that this rests on.
pub record Laws : Type 0 where
  pub tells : (records : List Record) (contents : Contents) → AreWritten records contents → size_of contents ≡ journal_bytes records
  pub one_record : (entry other : Record) (bytes : List ℕ) → IsReadAs entry bytes → IsReadAs other bytes → entry ≡ other
  pub one_journal : (bytes : List ℕ) (contents others : Contents) → IsJournal contents bytes → IsJournal others bytes → contents ≡ others
  pub one_schedule : (text : List ℕ) (schedule other : Schedule) → IsSchedule text schedule → IsSchedule text other → schedule ≡ other
  pub new_numbers : (setup : Setup) (events : List Event) → All (IsWellFormed setup.catalog) events → TxnsAreNew (run setup (opening setup) events)
  pub journals : (log : HostState) (file : List ℕ) → IsFile log file → IsStored log file
  pub keeps : (log : HostState) (room : ℕ) → contents_of (with_asked room log) ≡ contents_of log
  pub opened : (config file : List ℕ) (me : ℕ) (hosted : HostedState) → HasOpenedOn config me file hosted → IsFile hosted.site.log file
  pub stepped : (old new : HostedState) (input : model.Input) (file : List ℕ) → HasStepped old new input → IsFile old.site.log file → IsFile new.site.log file
  pub stayed : (old new : HostedState) (file : List ℕ) → Stays old new → IsFile old.site.log file → IsFile new.site.log file
  pub asked : (old new : HostedState) (room : ℕ) (file : List ℕ) → AsksForGroup room old new → IsFile old.site.log file → IsFile new.site.log file
  pub written : (old new : HostedState) (write : HostWrite) (file : List ℕ) → Writes old new → next_write old.site.log ≡ Some write → IsFile old.site.log file
      → IsFile new.site.log (overlaid file write.place write.bytes)
  pub idle : (old new : HostedState) (file : List ℕ) → Writes old new → next_write old.site.log ≡ None → IsFile old.site.log file → IsFile new.site.log file
  pub crashed : (hosted : HostedState) (file left : List ℕ) → IsFile hosted.site.log file → MayLeave hosted.site.log file left → IsFile hosted.site.log left

module _ (laws : Laws) (config : List ℕ) (schedule : Schedule) (configures : Configures config schedule) (d : Deployment) (events : List Event)
    (m : IsMirrored (setup_of schedule.catalog) d events) (n : ℕ) (known : n < schedule.catalog.sites) where
  abbrev setup : Setup
  setup = setup_of schedule.catalog

  abbrev old : Station
  old = station_at d n

  abbrev content : Content
  content = (m.each n known).content

  abbrev rest : List Out
  rest = (m.each n known).rest

  -- The run goes on, and mirrors the deployment with this station.
  abbrev pub GoesOn : Station → Type 0
  GoesOn new = (more : List Event) × IsMirrored setup (with_station d n new) (events ++ more)

  by-keeping : (new : Station) → KeepsPrinted setup events old.asked new.asked → Becomes setup d n content rest new → GoesOn new
  by-keeping new keeps becomes = becomes-mirrored setup d events m n known new keeps becomes

  -- Nothing more is asked for.
  by : (new : Station) → new.asked ≡ old.asked → Becomes setup d n content rest new → GoesOn new
  by new same becomes =
      by-keeping new (λ txn program line is. subst (λ (asked : List Asked). asked_as asked txn ≡ Some program) (sym same) is) becomes

  module _ (site : HostedState) (f : FollowsHosted setup d n old.asked old.file site content rest) where
    -- ## The process goes
    gone-stored : (left : List ℕ) (running : Option Running) → content.running ≡ running → IsJournal site.site.log.stored left
        → GoesOn (record old { file = left; hosted = None })
    gone-stored left None down journal =
        by (record old { file = left; hosted = None }) refl
        (becomes-still setup d n content rest (record old { file = left; hosted = None }) refl
        record {
          contents = site.site.log.stored;
          journal = journal;
          spelled = f.stored;
          down = down;
          silent = f.rest_is ∙ ap (map (λ (one : Held). one.out)) (f.unopened down);
        })
    gone-stored left (Some running) up journal =
        goes-up setup n d events m known left [] tt running up site.site.log.stored journal f.stored

    gone-more : (left : List ℕ) (asked : Contents) → site.site.log.asked ≡ asked → IsJournal (site.site.log.stored ++ asked) left
        → GoesOn (record old { file = left; hosted = None })
    gone-more left [] none journal =
        gone-stored left content.running refl (subst (λ (l : Contents). IsJournal l left) (append-nil site.site.log.stored) journal)
    gone-more left (one ∷ others) some journal =
        let cut = cut-group setup d n old.asked laws.tells old.file site content rest f one others some in
        goes-up setup n d events m known left cut.done cut.may cut.up.0 cut.up.1 (site.site.log.stored ++ one ∷ others) journal cut.spelled

    -- ## Something is let out
    next-out : (next : HostedState) (first : Held) (later : List Held) → site.held ≡ first ∷ later → first.length ≤ stored_length site → next ≡ record site { held = later }
        → Stands next → GoesOn (record old { hosted = Some next; let_out = old.let_out ++ first.out ∷ [] })
    next-out next first later held within is stands =
        by (record old { hosted = Some next; let_out = old.let_out ++ first.out ∷ [] }) refl
        (becomes-some setup d n laws.tells old site next content rest f first later refl held within is
        (subst (λ (h : HostedState). IsFile h.site.log old.file) (sym is) f.is_file) stands)

    -- ## Each thing that may happen
    happens : (new : Station) → old.hosted ≡ Some site → HappensTo schedule.catalog d n site old new → ((s : HostedState) → new.hosted ≡ Some s → Stands s) → GoesOn new
    happens new here (takes next input may stepped) stands =
        let made = drop (length site.held) next.held in
        let new = record old { hosted = Some next; asked = asked_after old.asked input made } in
        by-keeping new
        (λ txn program line is.
        asked-kept old.asked input made txn program (λ given. fresh-run setup d events m n known site next f input may stepped laws.new_numbers txn given line) is)
        (becomes-given setup d n laws.tells old.asked old.file site next content rest f (laws.stepped site next input old.file stepped f.is_file) (stands next refl) input may stepped
        (fresh-waiting setup d events m n known site next f input may stepped laws.new_numbers)
        new refl)
    happens new here (stays next same) stands =
        by (record old { hosted = Some next }) refl
        (becomes-still setup d n content rest (record old { hosted = Some next }) refl
        (follows-still setup d n old.asked old.file old.file site next content rest f (laws.stayed site next old.file same f.is_file) (stands next refl)
        (ap (λ (log : HostState). log.stored) same.0) (ap contents_of same.0) same.1))
    happens new here (asks next room asked) stands =
        by (record old { hosted = Some next }) refl
        (becomes-still setup d n content rest (record old { hosted = Some next }) refl
        (follows-still setup d n old.asked old.file old.file site next content rest f (laws.asked site next room old.file asked f.is_file) (stands next refl)
        (stored_asked site.site room next.site.log asked.log) (ap contents_of asked.log ∙ laws.keeps site.site.log room) asked.same))
    happens new here (is_writing left may) stands =
        by (record old { file = left }) refl
        (becomes-still setup d n content rest (record old { file = left }) refl
        (subst (λ (h : Option HostedState). FollowsProcess setup d n old.asked left h content rest) (sym here)
        (follows-still setup d n old.asked old.file left site site content rest f (laws.crashed site old.file left f.is_file may) f.stands refl refl refl)))
    happens new here (writes next write is wrote) stands =
        let file = overlaid old.file write.place write.bytes in
        let is_file = laws.written site next write old.file wrote is f.is_file in
        by (record old { file = file; hosted = Some next }) refl
        (⊎_elim
        (λ still.
        becomes-still setup d n content rest (record old { file = file; hosted = Some next }) refl
        (follows-still setup d n old.asked old.file file site next content rest f is_file (stands next refl) still (contents_written site.site next.site.log wrote.log) wrote.same))
        (λ one.
        becomes-written setup d n old.asked laws.tells old.file file site next content rest f is_file (stands next refl) one wrote.same (contents_written site.site next.site.log wrote.log) (record old { file = file; hosted = Some next })
        refl)
        (write-stores site.site.log next.site.log write is wrote.log))
    happens new here (idles next none wrote) stands =
        by (record old { hosted = Some next }) refl
        (becomes-still setup d n content rest (record old { hosted = Some next }) refl
        (follows-still setup d n old.asked old.file old.file site next content rest f (laws.idle site next old.file wrote none f.is_file) (stands next refl)
        (idle-stored site.site.log next.site.log none wrote.log) (contents_written site.site next.site.log wrote.log) wrote.same))
    happens new here (lets_out next first later held within is) stands = next-out next first later held within is (stands next refl)
    happens new here (goes left may) stands =
        ⊎_elim (λ journal. gone-stored left content.running refl journal) (λ journal. gone-more left site.site.log.asked refl journal)
        (ahead-stored laws.journals site.site.log left (ahead-file laws.written laws.crashed site old.file left f.is_file may))

  -- ## With a process or without
  pub happens-at : (new : Station) (hosted : Option HostedState) → old.hosted ≡ hosted → HappensAt config schedule.catalog d n old hosted new
      → FollowsProcess setup d n old.asked old.file hosted content rest → ((s : HostedState) → new.hosted ≡ Some s → Stands s) → GoesOn new
  happens-at new (Some site) here at f stands = happens site f new here at stands
  happens-at new None here (site, left, same, o, is) gone stands =
      let journal : IsJournal gone.contents left = subst (λ (l : Contents). IsJournal l left) (sym (laws.one_journal old.file gone.contents same.0 gone.journal same.1)) same.2 in
      let still : FollowsGone left content rest = record { contents = gone.contents; journal = journal; spelled = gone.spelled; down = gone.down; silent = gone.silent } in
      subst GoesOn (sym is)
      (by (record old { file = left; hosted = Some site }) refl
      (becomes-opened laws.one_record laws.tells laws.one_journal config schedule d n (record old { file = left }) site content rest still o
      (laws.one_schedule config o.schedule schedule o.configured.0 configures.0)
      (laws.opened config left n site o) (stands site (ap (λ (s : Station). s.hosted) is)) refl))

pub goes-on : (laws : Laws) (config : List ℕ) (schedule : Schedule) (d later : Deployment) (events : List Event) → Configures config schedule
    → IsMirrored (setup_of schedule.catalog) d events → Happens config schedule.catalog d later
    → (more : List Event) × IsMirrored (setup_of schedule.catalog) later (events ++ more)
goes-on laws config schedule d later events configures m h =
    subst (λ (after : Deployment). (more : List Event) × IsMirrored (setup_of schedule.catalog) after (events ++ more)) (sym h.after)
    (happens-at laws config schedule configures d events m h.n h.known h.new (station_at d h.n).hosted refl h.at (m.each h.n h.known).process h.stands)
