-- What a station's file begins with it begins with whatever happens to the station, under whatever configuration; and numbers that were given aren't given again.
use Rattle.std.proofs.Common.{◌≡◌, ◌⊎◌, inl, inr, ⊎_elim, ℕ, Bool, true, ◌+◌, ◌<◌, ◌≤◌, Option, Some, None, Ok, Err, List, [], ◌∷◌, ◌++◌, length, append_assoc, append-nil, option_to_list, refl, sym, ap, ap₂, ◌∙◌, subst, arith}
use Rattle.std.specs.Prelude.{◌&&◌, ◌||◌, ◌==◌, nat_lt}
use Rattle.std.proofs.Math.Bool.{or-true}
use Rattle.std.proofs.lemmas.Bool.{and_from, and_parts, eq-eqb, eqb-true, lt-ltb, ltb-true, or_cases, true≢false}
use Rattle.std.proofs.lemmas.List.Sums.{sum_by-append, sum_by-cons}
use Rattle.pv_base.specs.Catalog.{Declared}
use Rattle.pv_base.specs.declared.txn.TxnId.{TxnId}
use Rattle.pv_disk_model.specs.Calls.{append, read_all, reserve}
use Rattle.pv_disk_model.specs.Disk.{overlaid}
use Rattle.pv_disk_model.specs.Size.{Contents, size_of}
use Rattle.pv_format.specs.Contents.{SpellRecords, greatest_epoch}
use Rattle.pv_format.specs.Journal.{IsJournal}
use Rattle.pv_format.specs.Record.{Record, epoch_begun, outcome_known, prepared}
use Rattle.pv_format.specs.RecordSpelling.{IsReadAs}
use Rattle.pv_law_step.proofs.Appended.{steady}
use Rattle.pv_law_step.proofs.EpochLemmas.{epoch-rises}
use Rattle.pv_law_step.proofs.StartLemmas.{start-case}
use Rattle.pv_law_step.specs.Appends.{Rises}
use Rattle.pv_law_step.specs.StartCases as start_cases
use Rattle.pv_law_step.specs.StartCases.{StartCase}
use Rattle.pv_law_values.proofs.ChoiceLemmas.{known-longer}
use Rattle.pv_law_world.specs.Sites.{AreEpochsRecorded}
use Rattle.pv_model.specs.Events.{Event}
use Rattle.pv_protocol.specs.Here.{Here}
use Rattle.pv_protocol.specs.Outcome.{is_issued}
use Rattle.pv_protocol.specs.Records.{known}
use Rattle.pv_protocol.specs.Start.{Started, just_started, site_start, starts}
use Rattle.pv_protocol.specs.State as model
use Rattle.pv_protocol.specs.State.{Running, Setup, Site}
use Rattle.pv_protocol.specs.Step.{step_on}
use Rattle.pv_protocol.specs.World.{site_at}
use Rattle.pv_site.specs.SiteState.{SiteState, here_with}
use Rattle.pv_site.specs.Steps.{HoldsWhatRuns}
use Rattle.pv_host.specs.HostFile.{IsFile}
use Rattle.pv_host.specs.HostLaws.{host_model}
use Rattle.pv_host.specs.HostLog.{HostState, contents_of}
use Rattle.pv_embed.proofs.HostedLemmas.{stored_after, stored_asked, stored_logged}
use Rattle.pv_embed.specs.Held.{Held, Out}
use Rattle.pv_embed.specs.Hosted.{HasStepped, HostedState}
use Rattle.pv_embed.specs.Opening.{HasOpenedOn}
use Rattle.pv_embed.specs.Outcomes.{MayTell, TellsOutcome}
use Rattle.pv_embed.specs.declared.asked.Outcome.{Outcome}
use Rattle.pv_embed.specs.declared.asked.Outcome.TheVariants.{AtWork, Committed, NotCommitted}
use Rattle.pv_embed.specs.declared.asked.OutcomeFault.TheVariants.{NotBegun}
use Rattle.pv_law_hosted.proofs.AheadLemmas.{ahead-file, ahead-stored}
use Rattle.pv_law_hosted.proofs.CallLemmas.{some-same}
use Rattle.pv_law_hosted.proofs.HappensLemmas.{Laws}
use Rattle.pv_law_hosted.proofs.StoreLemmas.{idle-stored, write-stores}
use Rattle.pv_law_hosted.specs.Alone as alone
use Rattle.pv_law_hosted.specs.Alone.{GoesOn, HasFile, IsFileOf, IsInRecordedEpoch}
use Rattle.pv_law_hosted.specs.Asked.{Asked}
use Rattle.pv_law_hosted.specs.Deployment.{Deployment, Station, station_at}
use Rattle.pv_law_hosted.specs.DeploymentEvents.{HappensAt, HappensTo, Stands, asks, goes, idles, is_writing, lets_out, stays, takes, writes}
use Rattle.pv_law_hosted.specs.Given as process
use Rattle.pv_law_hosted.specs.Given.{Content, Given, opened_with, started_with, step_with, stepped_with, with_all, with_given}
use Rattle.pv_law_hosted.specs.Mirrored as mirrored
use Rattle.pv_law_hosted.specs.Mirrored.{FollowsProcess, IsMirrored, IsSeenAs, world_of}

-- There are these contents first, and perhaps more.
abbrev BeginsWith : Contents → Contents → Type 0
BeginsWith front contents = (more : Contents) × (contents ≡ front ++ more)

begins-longer : (front contents more : Contents) → BeginsWith front contents → BeginsWith front (contents ++ more)
begins-longer front contents more (later, is) = (later ++ more, ap (λ (l : Contents). l ++ more) is ∙ append_assoc front later more)

module _ (R : HostedState → Type 0) (front : Contents) where
  -- The file is one of the site's log, and what the host has told to be in it begins so; and this holds of the site.
  record KeepsSite (file : List ℕ) (site : HostedState) : Type 0 where
    is_file : IsFile site.site.log file
    stands : Stands site
    holds : R site
    begins : BeginsWith front site.site.log.stored

  -- What is in the file begins so, with a process or without.
  abbrev Keeps : List ℕ → Option HostedState → Type 0
  Keeps file None = (contents : Contents) × IsJournal contents file × BeginsWith front contents
  Keeps file (Some site) = KeepsSite file site

  module _ (laws : Laws) (n : ℕ)
      (steps : (site next : HostedState) (input : model.Input) → HasStepped site next input → R site → R next)
      (logs : (site : HostedState) (log : HostState) → R site → R (record site { site = record site.site { log = log } }))
      (outs : (site : HostedState) (held : List Held) → R site → R (record site { held = held }))
      (opens : (config file : List ℕ) (site : HostedState) → HasOpenedOn config n file site → BeginsWith front site.site.log.stored → R site) where
    module _ (catalog : Declared) (d : Deployment) (old : Station) (site : HostedState) (here : old.hosted ≡ Some site) (keeps : KeepsSite old.file site) where
      same-log : (next : HostedState) (file : List ℕ) → IsFile next.site.log file → Stands next → BeginsWith front next.site.log.stored
          → next ≡ record site { site = record site.site { log = next.site.log } } → KeepsSite file next
      same-log next file is_file stands begins same =
          record { is_file = is_file; stands = stands; holds = subst R (sym same) (logs site next.site.log keeps.holds); begins = begins }

      still : (next : HostedState) → next.site.log.stored ≡ site.site.log.stored → BeginsWith front next.site.log.stored
      still next same = subst (BeginsWith front) (sym same) keeps.begins

      to-keeps : (new : Station) → HappensTo catalog d n site old new → ((s : HostedState) → new.hosted ≡ Some s → Stands s) → Keeps new.file new.hosted
      to-keeps new (takes next input may stepped) stands = record {
        is_file = laws.stepped site next input old.file stepped keeps.is_file;
        stands = stands next refl;
        holds = steps site next input stepped keeps.holds;
        begins = still next (stored_logged _ site.site.log next.site.log stepped.steps.log);
      }
      to-keeps new (stays next same) stands =
          same-log next old.file (laws.stayed site next old.file same keeps.is_file) (stands next refl) (still next (ap (λ (log : HostState). log.stored) same.0)) same.1
      to-keeps new (asks next room asked) stands =
          same-log next old.file (laws.asked site next room old.file asked keeps.is_file) (stands next refl)
          (still next (stored_asked site.site room next.site.log asked.log)) asked.same
      to-keeps new (is_writing left may) stands =
          subst (λ (h : Option HostedState). Keeps left h) (sym here)
          record { is_file = laws.crashed site old.file left keeps.is_file may; stands = keeps.stands; holds = keeps.holds; begins = keeps.begins }
      to-keeps new (writes next write is wrote) stands =
          let is_file = laws.written site next write old.file wrote is keeps.is_file in
          same-log next (overlaid old.file write.place write.bytes) is_file (stands next refl)
          (⊎_elim (λ same. still next same)
          (λ group. subst (BeginsWith front) (sym group.1.2) (begins-longer front site.site.log.stored (group.0 ∷ group.1.0) keeps.begins))
          (write-stores site.site.log next.site.log write is wrote.log)) wrote.same
      to-keeps new (idles next none wrote) stands =
          same-log next old.file (laws.idle site next old.file wrote none keeps.is_file) (stands next refl)
          (still next (idle-stored site.site.log next.site.log none wrote.log)) wrote.same
      to-keeps new (lets_out next first later held within is) stands = record {
        is_file = subst (λ (h : HostedState). IsFile h.site.log old.file) (sym is) keeps.is_file;
        stands = stands next refl;
        holds = subst R (sym is) (outs site later keeps.holds);
        begins = still next (ap (λ (h : HostedState). h.site.log.stored) is);
      }
      to-keeps new (goes left may) stands =
          ⊎_elim (λ journal. (site.site.log.stored, journal, keeps.begins))
          (λ journal. (site.site.log.stored ++ site.site.log.asked, journal, begins-longer front site.site.log.stored site.site.log.asked keeps.begins))
          (ahead-stored laws.journals site.site.log left (ahead-file laws.written laws.crashed site old.file left keeps.is_file may))

    -- ## With a process or without
    at-keeps : (config : List ℕ) (catalog : Declared) (d : Deployment) (old new : Station) (hosted : Option HostedState) → old.hosted ≡ hosted
        → HappensAt config catalog d n old hosted new → ((s : HostedState) → new.hosted ≡ Some s → Stands s) → Keeps old.file hosted → Keeps new.file new.hosted
    at-keeps config catalog d old new (Some site) here at stands keeps = to-keeps catalog d old site here keeps new at stands
    at-keeps config catalog d old new None here (site, left, same, o, is) stands (contents, journal, begins) =
        let stored : site.site.log.stored ≡ contents =
        stored_after (read_all ∷ reserve (length o.opened.content) ∷ append o.opened.content ∷ []) o.log site.site.log true o.opened.calls
        ∙ laws.one_journal left o.log.stored same.0 o.opened_on.journal same.2 ∙ laws.one_journal old.file same.0 contents same.1 journal in
        let still_begins : BeginsWith front site.site.log.stored = subst (BeginsWith front) (sym stored) begins in
        subst (λ (s : Station). Keeps s.file s.hosted) (sym is)
        (record {
          is_file = laws.opened config left n site o;
          stands = stands site (ap (λ (s : Station). s.hosted) is);
          holds = opens config left site o still_begins;
          begins = still_begins;
        })

    all-keep : (first last : Station) → GoesOn n first last → Keeps first.file first.hosted → Keeps last.file last.hosted
    all-keep first last (alone.is station) keeps = keeps
    all-keep first last (alone.happens config catalog d first' next last' at stands goes_on) keeps =
        all-keep next last goes_on (at-keeps config catalog d first next first.hosted refl at stands keeps)

-- ## Epochs and numbers
greatest-front : (records more : List Record) → greatest_epoch records ≤ greatest_epoch (records ++ more)
greatest-front [] more = omega arith
greatest-front (epoch_begun epoch ∷ records) more = let rest = greatest-front records more in omega (arith, rest)
greatest-front (prepared txn promised ∷ records) more = greatest-front records more
greatest-front (outcome_known txn commits ∷ records) more = greatest-front records more

-- An opening begins the epoch after the last one.
pub record StartsAfter (records : List Record) (running : Running) (epoch : ℕ) : Type 0 where
  pub now : running.epoch ≡ greatest_epoch records + 1
  pub recorded : epoch ≡ greatest_epoch records + 1

starts-after : (setup : Setup) (surplus : ℕ) (records : List Record) (started : Started) → StartCase setup surplus records started → (running : Running) (epoch : ℕ)
    → started ≡ starts running (epoch_begun epoch) → StartsAfter records running epoch
starts-after setup surplus records _ (start_cases.no_epoch_left none) running epoch is = absurd cc
starts-after setup surplus records _ (start_cases.no_room left full) running epoch is = absurd cc
starts-after setup surplus records _ (start_cases.begins left room) running epoch is =
    let same : just_started (greatest_epoch records + 1) ≡ running = cc in
    let begun : greatest_epoch records + 1 ≡ epoch = cc in
    record { now = sym (ap (λ (r : Running). r.epoch) same); recorded = sym begun }

module _ (config : List ℕ) (n : ℕ) (file : List ℕ) (site : HostedState) (o : HasOpenedOn config n file site) where
  pub opened-after : StartsAfter o.opened.records o.opened.running o.opened.epoch
  opened-after = starts-after _ _ o.opened.records _ (start-case _ _ o.opened.records) o.opened.running o.opened.epoch o.opened.starts

  opened-running : (running : Running) → site.site.running ≡ Some running → running.epoch ≡ greatest_epoch o.opened.records + 1
  opened-running running up =
      let same : o.opened.running ≡ running = some-same (sym (ap (λ (s : SiteState HostState). s.running) o.opened.site) ∙ up) in
      sym (ap (λ (r : Running). r.epoch) same) ∙ opened-after.now

  opened-recorded : IsInRecordedEpoch site
  opened-recorded running up =
      let all : site.site.records ≡ o.opened.records ++ epoch_begun o.opened.epoch ∷ [] = ap (λ (s : SiteState HostState). s.records) o.opened.site in
      let most = ap greatest_epoch all ∙ epoch-rises o.opened.records o.opened.epoch (let is = opened-after.recorded in omega (arith, is)) in
      omega (arith, opened-running running up, opened-after.recorded, most)

module _ (site next : HostedState) (input : model.Input) (s : HasStepped site next input) (running : Running) (up : next.site.running ≡ Some running) where
  abbrev step : model.Step
  step = step_on (here_with site.site s.running) input

  step-rises : Rises s.running running
  step-rises =
      subst (Rises s.running) (some-same (sym (ap (λ (st : SiteState HostState). st.running) s.steps.site) ∙ up)) (steady (here_with site.site s.running) input).rises

  step-records : greatest_epoch site.site.records ≤ greatest_epoch next.site.records
  step-records =
      let all = ap (λ (st : SiteState HostState). greatest_epoch st.records) s.steps.site in
      let front = greatest-front site.site.records (option_to_list step.appended) in
      omega (arith, all, front)

steps-recorded : (site next : HostedState) (input : model.Input) → HasStepped site next input → IsInRecordedEpoch site → IsInRecordedEpoch next
steps-recorded site next input s recorded running up =
    let rises = step-rises site next input s running up in
    omega (arith, rises.epoch, recorded s.running s.was, step-records site next input s running up)

-- The number will not be given any more.
abbrev IsPast : TxnId → Running → Type 0
IsPast txn running = (txn.epoch < running.epoch) ⊎ ((txn.epoch ≡ running.epoch) × (txn.number < running.next_txn))

abbrev HasPast : TxnId → HostedState → Type 0
HasPast txn site = (running : Running) → site.site.running ≡ Some running → IsPast txn running

past-rises : (txn : TxnId) (before after : Running) → Rises before after → IsPast txn before → IsPast txn after
past-rises txn before after rises (inl earlier) = inl (omega (arith, earlier, rises.epoch))
past-rises txn before after rises (inr now) = inr (now.0 ∙ sym rises.epoch, omega (arith, now.1, rises.txns))

steps-past : (txn : TxnId) (site next : HostedState) (input : model.Input) → HasStepped site next input → HasPast txn site → HasPast txn next
steps-past txn site next input s past running up = past-rises txn s.running running (step-rises site next input s running up) (past s.running s.was)

past-issued : (here : Here) (txn : TxnId) → here.me ≡ txn.site.0 → IsPast txn here.running → is_issued here txn ≡ true
past-issued here txn mine (inl earlier) =
    and_from (here.me == txn.site.0) _ (eq-eqb here.me txn.site.0 mine)
    (ap (λ (b : Bool). b || ((txn.epoch == here.running.epoch) && nat_lt txn.number here.running.next_txn)) (lt-ltb txn.epoch here.running.epoch earlier))
past-issued here txn mine (inr now) =
    and_from (here.me == txn.site.0) _ (eq-eqb here.me txn.site.0 mine)
    (ap (λ (b : Bool). nat_lt txn.epoch here.running.epoch || b)
    (and_from _ _ (eq-eqb txn.epoch here.running.epoch now.0) (lt-ltb txn.number here.running.next_txn now.1))
    ∙ or-true _)

issued-past : (here : Here) (txn : TxnId) → is_issued here txn ≡ true → IsPast txn here.running
issued-past here txn issued =
    let epochs = (and_parts (here.me == txn.site.0) _ issued).1 in
    ⊎_elim (λ earlier. inl (ltb-true txn.epoch here.running.epoch earlier))
    (λ now. let both = and_parts (txn.epoch == here.running.epoch) _ now in
    inr (eqb-true txn.epoch here.running.epoch both.0, ltb-true txn.number here.running.next_txn both.1))
    (or_cases (nat_lt txn.epoch here.running.epoch) _ epochs)

past-within : (txn : TxnId) (running : Running) → IsPast txn running → txn.epoch ≤ running.epoch
past-within txn running (inl earlier) = omega (arith, earlier)
past-within txn running (inr now) = let is = now.0 in omega (arith, is)

-- ## A station that has its file
from-file : (file : List ℕ) (hosted : Option HostedState) → IsFileOf file hosted → Keeps IsInRecordedEpoch [] file hosted
from-file file None (contents, journal) = (contents, journal, (contents, refl))
from-file file (Some site) has = record { is_file = has.is_file; stands = has.stands; holds = has.epoch; begins = (site.site.log.stored, refl) }

to-file : (file : List ℕ) (hosted : Option HostedState) → Keeps IsInRecordedEpoch [] file hosted → IsFileOf file hosted
to-file file None (contents, journal, begins) = (contents, journal)
to-file file (Some site) keeps = record { is_file = keeps.is_file; stands = keeps.stands; epoch = keeps.holds }

pub keeps-file : (laws : Laws) (n : ℕ) (first last : Station) → HasFile first → GoesOn n first last → HasFile last
keeps-file laws n first last has goes_on =
    to-file last.file last.hosted
    (all-keep IsInRecordedEpoch [] laws n steps-recorded (λ site log recorded. recorded) (λ site held recorded. recorded)
    (λ config file site o begins. opened-recorded config n file site o) first last goes_on (from-file first.file first.hosted has))

-- ## A mirrored station has it
module _ (setup : Setup) (n : ℕ) where
  abbrev RecordsEpoch : Content → Type 0
  RecordsEpoch content = (running : Running) → content.running ≡ Some running → running.epoch ≤ greatest_epoch content.records

  opened-records : (content : Content) (was : Option Running) → content.running ≡ was → RecordsEpoch content → RecordsEpoch (opened_with setup n content was)
  opened-records content (Some one) here recorded = recorded
  opened-records content None here recorded = by (site_start setup 0 content.records) (start-case setup 0 content.records) where
    by : (started : Started) → StartCase setup 0 content.records started → RecordsEpoch (started_with content started)
    by _ (start_cases.no_epoch_left none) = recorded
    by _ (start_cases.no_room left full) = recorded
    by _ (start_cases.begins left room) = λ running up.
        let next = greatest_epoch content.records + 1 in
        let same : just_started next ≡ running = some-same up in
        let epoch : running.epoch ≡ next = sym (ap (λ (r : Running). r.epoch) same) in
        let most = epoch-rises content.records next (omega arith) in
        omega (arith, epoch, most)

  stepped-records : (content : Content) (was : Option Running) → content.running ≡ was → (given : model.Input) → RecordsEpoch content
      → RecordsEpoch (stepped_with setup n content was given)
  stepped-records content None here given recorded = recorded
  stepped-records content (Some one) here given recorded = λ running up.
      let made = step_with setup n content one given in
      let same : made.running ≡ running = some-same up in
      let rises = (steady (record { me = n; setup = setup; records = content.records; surplus = 0; running = one }) given).rises in
      let epoch = sym (ap (λ (r : Running). r.epoch) same) ∙ rises.epoch in
      let front = greatest-front content.records (option_to_list made.appended) in
      omega (arith, epoch, recorded one here, front)

  all-records : (content : Content) (givens : List Given) → RecordsEpoch content → RecordsEpoch (with_all setup n content givens)
  all-records content [] recorded = recorded
  all-records content (process.opened ∷ later) recorded = all-records (with_given setup n content process.opened) later (opened-records content content.running refl recorded)
  all-records content (process.input given ∷ later) recorded = all-records (with_given setup n content (process.input given)) later (stepped-records content content.running refl given recorded)

  seen-records : (content : Content) (site : Site) → IsSeenAs content site → ((running : Running) → site.running ≡ Some running → running.epoch ≡ greatest_epoch site.records)
      → RecordsEpoch content
  seen-records _ _ (mirrored.same records running) world one up = let is = world one up in omega (arith, is)
  seen-records _ _ mirrored.unborn world one up = absurd cc

process-file : (setup : Setup) (d : Deployment) (n : ℕ) (asked : List Asked) (file : List ℕ) (hosted : Option HostedState) (content : Content) (rest : List Out)
    → RecordsEpoch setup n content → FollowsProcess setup d n asked file hosted content rest → IsFileOf file hosted
process-file setup d n asked file None content rest recorded gone = (gone.contents, gone.journal)
process-file setup d n asked file (Some site) content rest recorded follows = record {
  is_file = follows.is_file;
  stands = follows.stands;
  epoch = subst (RecordsEpoch setup n) follows.come (all-records setup n content follows.waiting recorded);
}

pub mirrored-file : (setup : Setup) (d : Deployment) (events : List Event) (n : ℕ) → AreEpochsRecorded (world_of setup events) → IsMirrored setup d events
    → n < setup.catalog.sites → HasFile (station_at d n)
mirrored-file setup d events n epochs mirrored below =
    let follows = mirrored.each n below in
    process-file setup d n (station_at d n).asked (station_at d n).file (station_at d n).hosted follows.content follows.rest
    (seen-records setup n follows.content (site_at (world_of setup events) n) follows.seen (epochs n)) follows.process

-- ## What is told to have committed
no-more : (stored rest : Contents) → size_of (stored ++ rest) ≤ size_of stored → rest ≡ []
no-more stored [] le = refl
no-more stored (content ∷ rest) le =
    absurd (omega (arith, le, sum_by-cons (λ (c : List ℕ). 5 + length c) content rest, sum_by-append (λ (c : List ℕ). 5 + length c) stored (content ∷ rest)))

spelled-all : (site : HostedState) → Stands site → SpellRecords site.site.records (contents_of site.site.log)
spelled-all site stands = (subst (λ r. HoldsWhatRuns host_model site.site.log site.site.surplus site.site.records r) stands.up stands.ready.holds).held (contents_of site.site.log) refl

module _ (one_record : (entry other : Record) (bytes : List ℕ) → IsReadAs entry bytes → IsReadAs other bytes → entry ≡ other) where
  -- Where one spelling begins with the other, so do the records.
  records-begin : (records all : List Record) (contents more : Contents) → SpellRecords records contents → SpellRecords all (contents ++ more)
      → (others : List Record) × (all ≡ records ++ others)
  records-begin [] all [] more spelled whole = (all, refl)
  records-begin [] all (content ∷ contents) more spelled whole = absurd spelled
  records-begin (entry ∷ records) all [] more spelled whole = absurd spelled
  records-begin (entry ∷ records) [] (content ∷ contents) more spelled whole = absurd whole
  records-begin (entry ∷ records) (other ∷ all) (content ∷ contents) more spelled whole =
      let rest = records-begin records all contents more spelled.1 whole.1 in (
        rest.0,
        ap (λ (first : Record). first ∷ all) (one_record other entry content whole.0 spelled.0) ∙ ap (λ (l : List Record). entry ∷ l) rest.1,
      )

module _ (laws : Laws) (n : ℕ) (first last : Station) (site new later : HostedState) (txn : TxnId) (has : HasFile first) (here : first.hosted ≡ Some site)
    (told : TellsOutcome site new txn (Ok Committed)) (goes_on : GoesOn n first last) (there : last.hosted ≡ Some later) where
  abbrev stored : Contents
  stored = site.site.log.stored

  was : IsFileOf first.file (Some site)
  was = subst (IsFileOf first.file) here has

  all-stored : contents_of site.site.log ≡ stored
  all-stored = ap (λ (l : Contents). stored ++ l) (no-more stored (site.site.log.asked ++ site.site.log.pending) told.1.written) ∙ append-nil stored

  spelled-stored : SpellRecords site.site.records stored
  spelled-stored = subst (SpellRecords site.site.records) all-stored (spelled-all site was.stands)

  -- as it was told
  was-past : HasPast txn site
  was-past running up =
      let past = issued-past (here_with site.site told.2.0) txn told.2.2.0 in
      subst (IsPast txn) (some-same (sym told.2.1 ∙ up)) past

  -- The epoch of the number is among the records on which it was told.
  within : txn.epoch ≤ greatest_epoch site.site.records
  within =
      let up = told.2.1 in
      let past = past-within txn told.2.0 (was-past told.2.0 up) in
      omega (arith, past, was.epoch told.2.0 up)

  opens-past : (config file : List ℕ) (opened : HostedState) → HasOpenedOn config n file opened → BeginsWith stored opened.site.log.stored → HasPast txn opened
  opens-past config file opened o begins running up =
      let before = stored_after (read_all ∷ reserve (length o.opened.content) ∷ append o.opened.content ∷ []) o.log opened.site.log true o.opened.calls in
      let all : contents_of o.log ≡ o.log.stored ++ ([] ++ []) = ap₂ (λ (asked pending : Contents). o.log.stored ++ (asked ++ pending)) o.opened_on.asked o.opened_on.pending in
      let read : o.opened.contents ≡ stored ++ begins.0 = o.opened.read (contents_of o.log) refl ∙ all ∙ append-nil o.log.stored ∙ sym before ∙ begins.1 in
      let front =
      records-begin laws.one_record site.site.records o.opened.records stored begins.0 spelled-stored (subst (SpellRecords o.opened.records) read o.opened.spelled) in
      let more = greatest-front site.site.records front.0 in
      let same = ap greatest_epoch front.1 in
      inl (omega (arith, within, more, same, opened-running config n file opened o running up))

  now : Keeps (HasPast txn) stored last.file (Some later)
  now =
      subst (Keeps (HasPast txn) stored last.file) there
      (all-keep (HasPast txn) stored laws n (steps-past txn) (λ site log past. past) (λ site held past. past) opens-past first last goes_on
      (subst (Keeps (HasPast txn) stored first.file) (sym here)
      (record { is_file = was.is_file; stands = was.stands; holds = was-past; begins = ([], sym (append-nil stored)) })))

  goes-on-with : contents_of later.site.log ≡ stored ++ (now.begins.0 ++ (later.site.log.asked ++ later.site.log.pending))
  goes-on-with =
      ap (λ (l : Contents). l ++ (later.site.log.asked ++ later.site.log.pending)) now.begins.1
      ∙ append_assoc stored now.begins.0 (later.site.log.asked ++ later.site.log.pending)

  still-begins : (others : List Record) × (later.site.records ≡ site.site.records ++ others)
  still-begins =
      records-begin laws.one_record site.site.records later.site.records stored (now.begins.0 ++ (later.site.log.asked ++ later.site.log.pending)) spelled-stored
      (subst (SpellRecords later.site.records) goes-on-with (spelled-all later now.stands))

  pub still-known : known later.site.records txn ≡ Some true
  still-known =
      ap (λ (records : List Record). known records txn) still-begins.1 ∙ known-longer site.site.records still-begins.0 txn true told.2.2.1

  still-issued : MayTell later txn → (running : Running) → later.site.running ≡ Some running → is_issued (here_with later.site running) txn ≡ true
  still-issued may running up = past-issued (here_with later.site running) txn (sym may.here) (now.holds running up)

  pub still-committed : (again : HostedState) (outcome : Outcome) → TellsOutcome later again txn (Ok outcome) → outcome ≡ Committed
  still-committed again Committed other = refl
  still-committed again NotCommitted other = absurd (other.2.2.1 still-known)
  still-committed again AtWork other = absurd (other.2.2.1 (still-issued other.1 other.2.0 other.2.1) still-known)

  pub still-begun : (again : HostedState) → TellsOutcome later again txn (Err NotBegun) → ⊥
  still-begun again other = true≢false (sym (still-issued other.1 other.2.0 other.2.1) ∙ other.2.2.not_issued)
