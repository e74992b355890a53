-- Whatever happens in a deployment, numbers are let out first; and what commits in the run that mirrors it has had its number let out.
use Rattle.std.proofs.Common.{◌≡◌, ◌≢◌, ⊎_elim, ℕ, ◌+◌, ◌<◌, true, Option, Some, None, List, [], ◌∷◌, ◌++◌, drop, length, map, All, IsTrue, append_assoc, append-nil, get_or-set_same, get_or-set_other, refl, sym, ap, ◌∙◌, subst, arith}
use Rattle.std.specs.List.{Contains, list_any}
use mathlib.Core.Logic.{dite}
use native.Mathlib.Decide.{ℕ_discrete, dec_le}
use Rattle.std.proofs.lemmas.Bool.{and_parts, false≢true, or_cases}
use Rattle.std.proofs.lemmas.List.{get_or_past}
use Rattle.std.proofs.lemmas.List.Elements.{All-append, All-cons, All-contains, All-get_or, All-nil, Contains-append_left}
use Rattle.pv_base.proofs.AssignmentLemmas.{same-eq}
use Rattle.pv_base.specs.Assignment.{is_same_txn}
use Rattle.pv_base.specs.Catalog.{Declared}
use Rattle.pv_base.specs.declared.txn.TxnId.{TxnId}
use Rattle.pv_disk_model.specs.Disk.{overlaid}
use Rattle.pv_disk_model.specs.Size.{Contents}
use Rattle.pv_format.specs.Contents.{SpellRecords}
use Rattle.pv_format.specs.Journal.{IsJournal}
use Rattle.pv_format.specs.Record.{Record, epoch_begun, prepared, outcome_known}
use Rattle.pv_format.specs.RecordSpelling.{IsReadAs}
use Rattle.pv_law_format.proofs.ReplayLemmas.{written-read}
use Rattle.pv_law_hosted.proofs.AheadLemmas.{ahead-file}
use Rattle.pv_law_hosted.proofs.GivenLemmas.{all-grows}
use Rattle.pv_law_hosted.proofs.MirroredLemmas.{no-member}
use Rattle.pv_law_hosted.proofs.OneByOneLemmas.{idle-start}
use Rattle.pv_law_hosted.proofs.NumberLemmas.{All-front, first-gone, first-later, first-same, first-stepped, kept-front, parted}
use Rattle.pv_law_hosted.proofs.NumberSteps.{IsGivenWell}
use Rattle.pv_law_hosted.specs.Asked.{Asked, asked_after}
use Rattle.pv_law_hosted.specs.Deployment.{Deployment, IsNew, IsNewStation, Station, no_station, station_at, with_station}
use Rattle.pv_law_hosted.specs.DeploymentEvents.{Happens, HappensAt, HappensTo, HoldTheSame, MayLeaveAhead, MayTake, request, carried, time, takes, stays, asks, is_writing, writes, idles, lets_out, goes}
use Rattle.pv_law_hosted.specs.Given.{Content}
use Rattle.pv_law_hosted.specs.Mirrored as mirrored
use Rattle.pv_law_hosted.specs.Mirrored.{FollowsHosted, FollowsProcess, IsMirrored, IsSeenAs, world_of}
use Rattle.pv_law_hosted.specs.Numbers.{AreNumbersFirst, HasNumbers, IsAskedAfter, IsKept, IsNumberFirst, IsNumbered, IsSaying, WereVotesAsked, held_by, outs_of}
use Rattle.pv_law_step.proofs.Lists.{all-head, all-tail}
use Rattle.pv_law_step.proofs.StartLemmas.{start-case}
use Rattle.pv_law_world.proofs.GrowthLemmas.{Extends, same}
use Rattle.pv_model.specs.Events.{Event, Schedule}
use Rattle.pv_protocol.specs.Committed.{home_of, is_committed, says_yes}
use Rattle.pv_protocol.specs.State as model
use Rattle.pv_protocol.specs.State.{Entry, Running, Setup, began}
use Rattle.pv_protocol.specs.World.{no_site, site_at}
use Rattle.pv_site.specs.SiteState.{SiteState, setup_of}
use Rattle.pv_site.specs.Steps.{HoldsWhatRuns}
use Rattle.pv_site.specs.Surplus.{surplus_of}
use Rattle.pv_host.specs.HostFile.{HoldsStored, IsFile, MayLeave}
use Rattle.pv_host.specs.HostLaws.{host_model}
use Rattle.pv_host.specs.HostLog.{HostState, HostWrite, contents_of, next_write, with_written}
use Rattle.pv_embed.proofs.HostedLemmas.{contents_written}
use Rattle.pv_embed.specs.Held.{Held, Out, message, note}
use Rattle.pv_embed.specs.Hosted.{HostedState, Writes}
use Rattle.pv_embed.specs.Opening.{HasOpenedOn}

-- What the laws below say that this rests on.
pub record NumberLaws : Type 0 where
  pub one_record : (entry other : Record) (bytes : List ℕ) → IsReadAs entry bytes → IsReadAs other bytes → entry ≡ other
  pub one_journal : (bytes : List ℕ) (contents others : Contents) → IsJournal contents bytes → IsJournal others bytes → contents ≡ others
  pub holds : (log : HostState) (file : List ℕ) → IsFile log file → HoldsStored log file
  pub written : (old new : HostedState) (write : HostWrite) (file : List ℕ) → Writes old new → next_write old.site.log ≡ Some write → IsFile old.site.log file
      → IsFile new.site.log (overlaid file write.place write.bytes)
  pub crashed : (hosted : HostedState) (file left : List ℕ) → IsFile hosted.site.log file → MayLeave hosted.site.log file left → IsFile hosted.site.log left

-- What was asked for has no part in it.
asked-first : (txn : TxnId) (votes : Type 0) (n : ℕ) (station : Station) (asked : List Asked) → IsNumberFirst txn votes n station
    → IsNumberFirst txn votes n (record station { asked = asked })
asked-first txn votes n station asked is = record { first = is.first; own = is.own; says = is.says; process = is.process }

module _ (laws : NumberLaws) (config : List ℕ) (schedule : Schedule) (d : Deployment) (events : List Event)
    (m : IsMirrored (setup_of schedule.catalog) d events) (firsts : AreNumbersFirst (setup_of schedule.catalog) d) (n : ℕ) (known : n < schedule.catalog.sites) where
  abbrev setup : Setup
  setup = setup_of schedule.catalog

  abbrev old : Station
  old = station_at d n

  module _ (txn : TxnId) where
    abbrev asked : Type 0
    asked = WereVotesAsked d txn

    is : IsNumberFirst txn asked n old
    is = firsts txn n known

    -- What was let out asks for votes, or speaks of them where they were asked for.
    says-so : (k : ℕ) (out : Out) → Contains (station_at d k).let_out out → IsSaying txn out → asked
    says-so k out there says =
        dite (dec_le (k + 1) schedule.catalog.sites)
        (λ below.
        All-contains (λ (it : Out). IsSaying txn it → asked) (outs_of (station_at d k)) out (firsts txn k (omega (arith, below))).says
        (Contains-append_left (station_at d k).let_out (held_by (station_at d k).hosted) out there) says)
        (λ beyond.
        absurd (no-member out (subst (λ (s : Station). Contains s.let_out out) (get_or_past d k no_station (let all = m.stations in omega (arith, all, beyond))) there)))

    given-well : (input : model.Input) → MayTake schedule.catalog d n input → IsGivenWell txn asked input
    given-well input (request program can) = tt
    given-well input (carried envelope is_carried to from) =
        (λ asks. (is_carried.0, message envelope, is_carried.1, asks), λ says. says-so is_carried.0 (message envelope) is_carried.1 says)
    given-well input time = tt

    -- ## A process is there
    module _ (site : HostedState) (here : old.hosted ≡ Some site) (f : FollowsHosted setup d n old.asked old.file site (m.each n known).content (m.each n known).rest) where
      has : HasNumbers txn asked (outs_of old) old.file (Some site)
      has = subst (HasNumbers txn asked (outs_of old) old.file) here is.process

      held-here : (next : HostedState) → next.held ≡ site.held → old.let_out ++ held_by (Some next) ≡ outs_of old
      held-here next still =
          ap (λ (l : List Held). old.let_out ++ map (λ (one : Held). one.out) l) still ∙ ap (λ (h : Option HostedState). old.let_out ++ held_by h) (sym here)

      -- The site is the same but for its log.
      still-first : (next : HostedState) (file : List ℕ) → next ≡ record site { site = record site.site { log = next.site.log } }
          → IsNumberFirst txn asked n (record old { file = file; hosted = Some next })
      still-first next file still =
          first-same txn asked n old is (record old { file = file; hosted = Some next }) (held-here next (ap (λ (h : HostedState). h.held) still))
          (subst (λ (h : HostedState). HasNumbers txn asked (outs_of old) file (Some h)) (sym still) has)

      -- A file of a log that holds what the site's log holds has the first of its records.
      holds-kept : (log : HostState) (left : List ℕ) → contents_of log ≡ contents_of site.site.log → IsFile log left → (records : List Record) (contents : Contents)
          → IsJournal contents left → SpellRecords records contents → All (IsKept txn asked) records
      holds-kept log left equal is_file records contents journal spelled =
          let stored = laws.holds log left is_file in
          let contents-same : contents ≡ stored.contents = laws.one_journal left contents stored.contents journal stored.journal in
          let whole : SpellRecords site.site.records (contents_of site.site.log) =
          (subst (λ r. HoldsWhatRuns host_model site.site.log site.site.surplus site.site.records r) f.stands.up f.stands.ready.holds).held (contents_of site.site.log) refl in
          kept-front txn asked laws.one_record records site.site.records stored.contents stored.later (subst (SpellRecords records) contents-same spelled)
          (subst (SpellRecords site.site.records) (sym equal ∙ stored.first) whole) has.0

      left-kept : (left : List ℕ) → MayLeaveAhead site.site.log old.file left → (records : List Record) (contents : Contents) → IsJournal contents left
          → SpellRecords records contents → All (IsKept txn asked) records
      left-kept left may =
          ⊎_elim (λ file. holds-kept site.site.log left refl file)
          (λ file. holds-kept (with_written site.site.log) left (contents_written site.site (with_written site.site.log) refl) file)
          (ahead-file laws.written laws.crashed site old.file left f.is_file may)

      happens : (new : Station) → HappensTo schedule.catalog d n site old new → IsNumberFirst txn asked n new
      happens new (takes next input may stepped) =
          asked-first txn asked n (record old { hosted = Some next }) (asked_after old.asked input (drop (length site.held) next.held))
          (first-stepped txn asked n old is site next here f.me input (given-well input may) stepped)
      happens new (stays next still) = still-first next old.file still.1
      happens new (asks next room asked_so) = still-first next old.file asked_so.same
      happens new (is_writing left may) =
          first-same txn asked n old is (record old { file = left }) refl (subst (HasNumbers txn asked (outs_of old) left) (sym here) has)
      happens new (writes next write is_next wrote) = still-first next _ wrote.same
      happens new (idles next none wrote) = still-first next old.file wrote.same
      happens new (lets_out next first later held within left) =
          first-same txn asked n old is (record old { hosted = Some next; let_out = old.let_out ++ first.out ∷ [] })
          (ap (λ (h : HostedState). (old.let_out ++ first.out ∷ []) ++ held_by (Some h)) left
          ∙ append_assoc old.let_out (first.out ∷ []) (map (λ (one : Held). one.out) later)
          ∙ ap (λ (l : List Held). old.let_out ++ map (λ (one : Held). one.out) l) (sym held)
          ∙ ap (λ (h : Option HostedState). old.let_out ++ held_by h) (sym here))
          (subst (λ (h : HostedState). HasNumbers txn asked (outs_of old) old.file (Some h)) (sym left) has)
      happens new (goes left may) = first-gone txn asked n old is left (left-kept left may)

    -- ## A site is opened
    module _ (site : HostedState) (here : old.hosted ≡ None) (left : List ℕ) (same_journal : HoldTheSame old.file left) (o : HasOpenedOn config n left site) where
      left-file : HasNumbers txn asked (outs_of old) old.file None
      left-file = subst (HasNumbers txn asked (outs_of old) old.file) here is.process

      log-all : contents_of o.log ≡ o.log.stored
      log-all = ap (λ (l : Contents). o.log.stored ++ (l ++ o.log.pending)) o.opened_on.asked ∙ ap (λ (l : Contents). o.log.stored ++ l) o.opened_on.pending ∙ append-nil o.log.stored

      read-kept : All (IsKept txn asked) o.opened.records
      read-kept =
          left-file o.opened.records o.log.stored
          (subst (λ (l : Contents). IsJournal l old.file) (laws.one_journal left same_journal.0 o.log.stored same_journal.2 o.opened_on.journal) same_journal.1)
          (subst (SpellRecords o.opened.records) (o.opened.read (contents_of o.log) refl ∙ log-all) o.opened.spelled)

      works-nothing : (running : Running) → Some o.opened.running ≡ Some running → All (IsNumbered txn (outs_of old)) running.entries
      works-nothing running up =
          let same : o.opened.running ≡ running = cc in
          let none : running.entries ≡ [] =
          ap (λ (r : Running). r.entries) (sym same) ∙ idle-start (setup_of o.schedule.catalog) (surplus_of o.opened.contents o.opened.records) o.opened.records _ (start-case (setup_of o.schedule.catalog) (surplus_of o.opened.contents o.opened.records) o.opened.records) o.opened.running (epoch_begun o.opened.epoch) o.opened.starts in
          subst (All (IsNumbered txn (outs_of old))) (sym none) (All-nil (IsNumbered txn (outs_of old)))

      opened-first : IsNumberFirst txn asked n (record old { file = left; hosted = Some site })
      opened-first =
          first-same txn asked n old is (record old { file = left; hosted = Some site })
          (ap (λ (l : List Held). old.let_out ++ map (λ (one : Held). one.out) l) o.held ∙ ap (λ (h : Option HostedState). old.let_out ++ held_by h) (sym here))
          (subst (λ (s : SiteState HostState). All (IsKept txn asked) s.records × ((running : Running) → s.running ≡ Some running → All (IsNumbered txn (outs_of old)) running.entries))
          (sym o.opened.site) (
            All-append (IsKept txn asked) o.opened.records (epoch_begun o.opened.epoch ∷ []) read-kept
                (All-cons (IsKept txn asked) (epoch_begun o.opened.epoch) [] (λ no. absurd no) (All-nil (IsKept txn asked))),
            works-nothing,
          ))

    happens-at : (new : Station) (hosted : Option HostedState) → old.hosted ≡ hosted → HappensAt config schedule.catalog d n old hosted new
        → FollowsProcess setup d n old.asked old.file hosted (m.each n known).content (m.each n known).rest → IsNumberFirst txn asked n new
    happens-at new (Some site) here at f = happens site here f new at
    happens-at new None here at f = subst (IsNumberFirst txn asked n) (sym at.4) (opened-first at.0 here at.1 at.2 at.3)

  -- ## At all stations
  grows-to : (site : HostedState) (new : Station) → HappensTo schedule.catalog d n site old new → Extends old.let_out new.let_out
  grows-to site new (takes next input may stepped) = same old.let_out
  grows-to site new (stays next still) = same old.let_out
  grows-to site new (asks next room asked_so) = same old.let_out
  grows-to site new (is_writing left may) = same old.let_out
  grows-to site new (writes next write is_next wrote) = same old.let_out
  grows-to site new (idles next none wrote) = same old.let_out
  grows-to site new (lets_out next first later held within left) = (first.out ∷ [], refl)
  grows-to site new (goes left may) = same old.let_out

  grows-at : (new : Station) (hosted : Option HostedState) → HappensAt config schedule.catalog d n old hosted new → Extends old.let_out new.let_out
  grows-at new (Some site) at = grows-to site new at
  grows-at new None at = subst (λ (s : Station). Extends old.let_out s.let_out) (sym at.4) (same old.let_out)

  module _ (new : Station) (grows : Extends old.let_out new.let_out) where
    abbrev later : Deployment
    later = with_station d n new

    station-same : station_at later n ≡ new
    station-same = get_or-set_same d n new no_station (let all = m.stations in omega (arith, all, known))

    station-other : (k : ℕ) → n ≢ k → station_at later k ≡ station_at d k
    station-other k apart = get_or-set_other d n k new no_station (λ e. apart (sym e))

    out-later : (k : ℕ) (out : Out) → Contains (station_at d k).let_out out → Contains (station_at later k).let_out out
    out-later k out there =
        let says = λ (s : Station). Contains s.let_out out in
        dite (ℕ_discrete n k)
        (λ own.
        subst (λ j. says (station_at later j)) own
        (subst says (sym station-same)
        (subst (λ (l : List Out). Contains l out) (sym grows.1) (Contains-append_left old.let_out grows.0 out (subst (λ j. says (station_at d j)) (sym own) there)))))
        (λ apart. subst says (sym (station-other k apart)) there)

    asked-later : (txn : TxnId) → WereVotesAsked d txn → WereVotesAsked later txn
    asked-later txn (k, out, there, asking) = (k, out, out-later k out there, asking)

    firsts-later : ((txn : TxnId) → IsNumberFirst txn (WereVotesAsked d txn) n new) → AreNumbersFirst setup later
    firsts-later own txn k below =
        let all = WereVotesAsked later txn in
        dite (ℕ_discrete n k)
        (λ same-number.
        subst (λ j. IsNumberFirst txn all j (station_at later j)) same-number
        (subst (IsNumberFirst txn all n) (sym station-same) (first-later txn (WereVotesAsked d txn) all (asked-later txn) n new (own txn))))
        (λ apart.
        subst (IsNumberFirst txn all k) (sym (station-other k apart)) (first-later txn (WereVotesAsked d txn) all (asked-later txn) k (station_at d k) (firsts txn k below)))

pub numbers-stay-first : (laws : NumberLaws) (config : List ℕ) (schedule : Schedule) (d after : Deployment) (events : List Event)
    → IsMirrored (setup_of schedule.catalog) d events → AreNumbersFirst (setup_of schedule.catalog) d → Happens config schedule.catalog d after
    → AreNumbersFirst (setup_of schedule.catalog) after
numbers-stay-first laws config schedule d after events m firsts h =
    subst (AreNumbersFirst (setup_of schedule.catalog)) (sym h.after)
    (firsts-later laws config schedule d events m firsts h.n h.known h.new (grows-at laws config schedule d events m firsts h.n h.known h.new (station_at d h.n).hosted h.at)
    (λ txn. happens-at laws config schedule d events m firsts h.n h.known txn h.new (station_at d h.n).hosted refl h.at (m.each h.n h.known).process))

-- ## In a new deployment
nothing-there : {X : Type 0} (earlier later : List X) (x : X) → [] ≡ earlier ++ x ∷ later → ⊥
nothing-there [] later x is = let wrong : ⊥ = cc in wrong
nothing-there (one ∷ earlier) later x is = let wrong : ⊥ = cc in wrong

spelled-none : (P : Record → Type 0) (records : List Record) → SpellRecords records [] → All P records
spelled-none P [] spelled = All-nil P
spelled-none P (one ∷ records) spelled = absurd spelled

pub new-numbers : (laws : NumberLaws) (catalog : Declared) (d : Deployment) → IsNew catalog d → AreNumbersFirst (setup_of catalog) d
new-numbers laws catalog d new txn n below =
    let station = station_at d n in
    let asked = WereVotesAsked d txn in
    let fresh : IsNewStation station = All-get_or IsNewStation d n no_station (let all = new.count in omega (arith, all, below)) new.each in
    let outs-none : outs_of station ≡ [] = ap (λ (h : Option HostedState). station.let_out ++ held_by h) fresh.gone ∙ ap (λ (l : List Out). l ++ []) fresh.silent in
    record {
      first = λ earlier later out split asks. absurd (nothing-there earlier later out (sym outs-none ∙ split));
      own = λ there. absurd (no-member (note (began txn)) (subst (λ (l : List Out). Contains l (note (began txn))) outs-none there));
      says = subst (All (λ (out : Out). IsSaying txn out → asked)) (sym outs-none) (All-nil (λ (out : Out). IsSaying txn out → asked));
      process = subst (HasNumbers txn asked (outs_of station) station.file) (sym fresh.gone)
          (λ records contents journal spelled.
          spelled-none (IsKept txn asked) records (subst (SpellRecords records) (laws.one_journal station.file contents [] journal fresh.file) spelled));
    }

-- ## What has committed
module _ (setup : Setup) (d : Deployment) (events : List Event) (m : IsMirrored setup d events) (firsts : AreNumbersFirst setup d) (txn : TxnId) where
  abbrev votes : Type 0
  votes = WereVotesAsked d txn

  -- The records that the run's site has are the first of those that the process has.
  content-kept : (n : ℕ) (content : Content) (rest out : List Out) (requests : List Asked) (file : List ℕ) (hosted : Option HostedState) → FollowsProcess setup d n requests file hosted content rest
      → HasNumbers txn votes out file hosted → All (IsKept txn votes) content.records
  content-kept n content rest out requests file None gone left = left content.records gone.contents gone.journal (written-read content.records gone.contents gone.spelled)
  content-kept n content rest out requests file (Some hosted) f has =
      let grown = all-grows setup n content f.waiting in
      All-front (IsKept txn votes) content.records grown.0
      (subst (All (IsKept txn votes)) (sym (ap (λ (c : Content). c.records) f.come) ∙ grown.1) has.0)

  seen-kept : (content : Content) (site : model.Site) → IsSeenAs content site → All (IsKept txn votes) content.records → All (IsKept txn votes) site.records
  seen-kept content site (mirrored.same records running) kept = kept
  seen-kept content site mirrored.unborn kept = All-cons (IsKept txn votes) (epoch_begun 1) [] (λ no. absurd no) kept

  committed-asked : (records : List Record) → All (IsKept txn votes) records → list_any (says_yes txn) records ≡ true → votes
  committed-asked [] kept says = absurd (false≢true says)
  committed-asked (epoch_begun epoch ∷ records) kept says = committed-asked records (all-tail (IsKept txn votes) (epoch_begun epoch) records kept) says
  committed-asked (prepared promised values ∷ records) kept says = committed-asked records (all-tail (IsKept txn votes) (prepared promised values) records kept) says
  committed-asked (outcome_known decided commits ∷ records) kept says =
      ⊎_elim
      (λ first.
      let both = and_parts commits (is_same_txn decided txn) first in
      all-head (IsKept txn votes) (outcome_known decided commits) records kept (same-eq both.1, both.0))
      (λ behind. committed-asked records (all-tail (IsKept txn votes) (outcome_known decided commits) records kept) behind)
      (or_cases (says_yes txn (outcome_known decided commits)) (list_any (says_yes txn) records) says)

  asked-of : is_committed (world_of setup events) txn ≡ true → votes
  asked-of says =
      let n = home_of txn in
      let world = world_of setup events in
      dite (dec_le (n + 1) setup.catalog.sites)
      (λ below.
      let follows = m.each n (omega (arith, below)) in
      committed-asked (site_at world n).records
      (seen-kept follows.content (site_at world n) follows.seen
      (content-kept n follows.content follows.rest (outs_of (station_at d n)) (station_at d n).asked (station_at d n).file (station_at d n).hosted follows.process (firsts txn n (omega (arith, below))).process))
      says)
      (λ beyond.
      absurd (false≢true (subst (λ (s : model.Site). list_any (says_yes txn) s.records ≡ true) (get_or_past world.sites n no_site (let all = m.sites in omega (arith, all, beyond))) says)))

  asked-out : votes → IsAskedAfter txn (station_at d (home_of txn)).let_out
  asked-out (n, out, there, asking) =
      let station = station_at d n in
      let held = held_by station.hosted in
      dite (dec_le (n + 1) setup.catalog.sites)
      (λ below.
      let is = firsts txn n (omega (arith, below)) in
      let p = parted station.let_out out there in
      let first : Contains p.0 (note (began txn)) =
      is.first p.0 (p.1 ++ held) out (ap (λ (l : List Out). l ++ held) p.2 ∙ append_assoc p.0 (out ∷ p.1) held) asking in
      let number : Contains station.let_out (note (began txn)) =
      subst (λ (l : List Out). Contains l (note (began txn))) (sym p.2) (Contains-append_left p.0 (out ∷ p.1) (note (began txn)) first) in
      let after : IsAskedAfter txn station.let_out =
      record { earlier = p.0; out = out; later = p.1; split = p.2; asking = asking; numbered = first } in
      subst (λ k. IsAskedAfter txn (station_at d k).let_out) (sym (is.own (Contains-append_left station.let_out held (note (began txn)) number))) after)
      (λ beyond.
      absurd (no-member out (subst (λ (s : Station). Contains s.let_out out) (get_or_past d n no_station (let all = m.stations in omega (arith, all, beyond))) there)))

  pub is-asked-after : IsTrue (is_committed (world_of setup events) txn) → IsAskedAfter txn (station_at d (home_of txn)).let_out
  is-asked-after is = asked-out (asked-of is)

  pub has-number-out : IsTrue (is_committed (world_of setup events) txn) → Contains (station_at d (home_of txn)).let_out (note (began txn))
  has-number-out is =
      let after = is-asked-after is in
      subst (λ (l : List Out). Contains l (note (began txn))) (sym after.split)
      (Contains-append_left after.earlier (after.out ∷ after.later) (note (began txn)) after.numbered)
