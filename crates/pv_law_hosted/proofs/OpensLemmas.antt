-- A station gets a process: its site is opened on the file, and its epoch waits for its record.
use Rattle.std.proofs.Common.{◌≡◌, ℕ, ◌≤◌, true, Some, List, [], ◌∷◌, ◌++◌, length, append-nil, refl, sym, ap, ap₂, ◌∙◌, subst, arith}
use Rattle.std.proofs.lemmas.List.Elements.{All-nil}
use Rattle.pv_disk_model.specs.Calls.{read_all, reserve, append}
use Rattle.pv_disk_model.specs.Size.{Contents, size_of}
use Rattle.pv_format.specs.Contents.{AreWritten, SpellRecords}
use Rattle.pv_format.specs.Journal.{IsJournal}
use Rattle.pv_format.specs.Record.{Record, epoch_begun}
use Rattle.pv_format.specs.RecordSpelling.{IsReadAs}
use Rattle.pv_model.specs.Events.{Schedule}
use Rattle.pv_law_format.proofs.ReplayLemmas.{written-more, written-read}
use Rattle.pv_protocol.specs.Records.{journal_bytes}
use Rattle.pv_protocol.specs.Start.{starts, site_start}
use Rattle.pv_protocol.specs.State.{Setup}
use Rattle.pv_base.proofs.Basics.{Some_inj}
use Rattle.pv_site.specs.SiteState.{SiteState, setup_of}
use Rattle.pv_site.specs.Surplus.{surplus_of}
use Rattle.pv_host.specs.HostFile.{IsFile}
use Rattle.pv_host.specs.HostLog.{HostState, contents_of}
use Rattle.pv_embed.specs.Held.{Held, Out}
use Rattle.pv_embed.specs.Hosted.{HostedState}
use Rattle.pv_embed.specs.Opening.{HasOpenedOn}
use Rattle.pv_law_hosted.proofs.CaseLemmas.{becomes-still}
use Rattle.pv_law_hosted.proofs.MirroredLemmas.{Becomes}
use Rattle.pv_embed.proofs.HostedLemmas.{stored_after}
use Rattle.pv_law_hosted.specs.Deployment.{Deployment, Station, station_at}
use Rattle.pv_law_hosted.specs.DeploymentEvents.{Stands}
use Rattle.pv_law_hosted.specs.Given as process
use Rattle.pv_law_hosted.specs.Given.{Content, Given, opened_with, started_with, with_given}
use Rattle.pv_law_hosted.specs.Mirrored.{FollowsGone, FollowsHosted}

module _ (one_record : (entry other : Record) (bytes : List ℕ) → IsReadAs entry bytes → IsReadAs other bytes → entry ≡ other) where
  one-records : (records others : List Record) (contents : Contents) → SpellRecords records contents → SpellRecords others contents → records ≡ others
  one-records [] [] [] a b = refl
  one-records [] (other ∷ others) [] a b = absurd b
  one-records (entry ∷ records) others [] a b = absurd a
  one-records [] others (content ∷ contents) a b = absurd a
  one-records (entry ∷ records) [] (content ∷ contents) a b = absurd b
  one-records (entry ∷ records) (other ∷ others) (content ∷ contents) a b =
      ap₂ (λ (x : Record) (l : List Record). x ∷ l) (one_record entry other content a.0 b.0) (one-records records others contents a.1 b.1)

  module _ (tells : (records : List Record) (contents : Contents) → AreWritten records contents → size_of contents ≡ journal_bytes records)
      (one_journal : (bytes : List ℕ) (contents others : Contents) → IsJournal contents bytes → IsJournal others bytes → contents ≡ others)
      (config : List ℕ) (schedule : Schedule) (d : Deployment) (n : ℕ) (old : Station) (site : HostedState) (content : Content) (rest : List Out)
      (gone : FollowsGone old.file content rest) (o : HasOpenedOn config n old.file site) (one_schedule : o.schedule ≡ schedule)
      (is_file : IsFile site.site.log old.file) (stands : Stands site) where
    abbrev setup : Setup
    setup = setup_of schedule.catalog

    log-stored : o.log.stored ≡ gone.contents
    log-stored = one_journal old.file o.log.stored gone.contents o.opened_on.journal gone.journal

    log-all : contents_of o.log ≡ gone.contents
    log-all = ap (λ (l : Contents). o.log.stored ++ (l ++ o.log.pending)) o.opened_on.asked ∙ ap (λ (l : Contents). o.log.stored ++ l) o.opened_on.pending ∙ append-nil o.log.stored ∙ log-stored

    were-read : o.opened.contents ≡ gone.contents
    were-read = o.opened.read (contents_of o.log) refl ∙ log-all

    same-records : o.opened.records ≡ content.records
    same-records =
        one-records o.opened.records content.records gone.contents (subst (SpellRecords o.opened.records) were-read o.opened.spelled)
        (written-read content.records gone.contents gone.spelled)

    -- The log is as long as its records make it.
    no-surplus : surplus_of o.opened.contents o.opened.records ≡ 0
    no-surplus =
        let long : size_of gone.contents ≡ journal_bytes content.records = tells content.records gone.contents gone.spelled in
        omega (arith, long, ap size_of were-read, ap journal_bytes same-records)

    starts-so : site_start setup 0 content.records ≡ starts o.opened.running (epoch_begun o.opened.epoch)
    starts-so =
        ap₂ (λ (s : Schedule) (records : List Record). site_start (setup_of s.catalog) 0 records) (sym one_schedule) (sym same-records)
        ∙ ap (λ (n : ℕ). site_start (setup_of o.schedule.catalog) n o.opened.records) (sym no-surplus) ∙ o.opened.starts

    given-so : with_given setup n content process.opened ≡ record { records = content.records ++ epoch_begun o.opened.epoch ∷ []; running = Some o.opened.running }
    given-so =
        ap (opened_with setup n content) gone.down ∙ ap (started_with content) starts-so

    now-so : record { records = site.site.records; running = site.site.running } ≡ with_given setup n content process.opened
    now-so =
        ap (λ (s : SiteState HostState). record { records = s.records; running = s.running }) o.opened.site
        ∙ ap (λ (l : List Record). record { records = l ++ epoch_begun o.opened.epoch ∷ []; running = Some o.opened.running }) same-records ∙ sym given-so

    still-stored : site.site.log.stored ≡ gone.contents
    still-stored =
        stored_after (read_all ∷ reserve (length o.opened.content) ∷ append o.opened.content ∷ []) o.log site.site.log true o.opened.calls ∙ log-stored

    all-written : AreWritten site.site.records (contents_of site.site.log)
    all-written =
        let holds : contents_of site.site.log ≡ gone.contents ++ o.opened.content ∷ [] = Some_inj (o.opened.log.contents (contents_of o.log) refl) ∙ ap (λ (l : Contents). l ++ o.opened.content ∷ []) log-all in
        let has : site.site.records ≡ content.records ++ epoch_begun o.opened.epoch ∷ [] =
        ap (λ (s : SiteState HostState). s.records) o.opened.site ∙ ap (λ (l : List Record). l ++ epoch_begun o.opened.epoch ∷ []) same-records in
        subst (λ (l : List Record). AreWritten l (contents_of site.site.log)) (sym has)
        (subst (AreWritten (content.records ++ epoch_begun o.opened.epoch ∷ [])) (sym holds)
        (written-more content.records gone.contents (epoch_begun o.opened.epoch) o.opened.content gone.spelled o.opened.content_is))

    opened-follows : FollowsHosted setup d n old.asked old.file site content []
    opened-follows = record {
      is_file = is_file;
      stands = stands;
      me = ap (λ (s : SiteState HostState). s.me) o.opened.site;
      catalog = ap (λ (s : SiteState HostState). setup_of s.catalog) o.opened.site ∙ ap (λ (s : Schedule). setup_of s.catalog) one_schedule;
      surplus = ap (λ (s : SiteState HostState). s.surplus) o.opened.site ∙ no-surplus;
      stored = subst (AreWritten content.records) (sym still-stored) gone.spelled;
      whole = all-written;
      waiting = process.opened ∷ [];
      allowed = (tt, tt);
      first = (epoch_begun o.opened.epoch, ap (λ (c : Content). c.records) given-so);
      come = sym now-so;
      ready = [];
      held = o.held;
      in_file = All-nil (λ (one : Held). one.length ≤ _);
      rest_is = refl;
      unopened = λ down. refl;
    }

    pub becomes-opened : old.let_out ≡ (station_at d n).let_out → Becomes setup d n content rest (record old { hosted = Some site })
    becomes-opened here =
        subst (λ (l : List Out). Becomes setup d n content l (record old { hosted = Some site })) (sym gone.silent)
        (becomes-still setup d n content [] (record old { hosted = Some site }) here opened-follows)
