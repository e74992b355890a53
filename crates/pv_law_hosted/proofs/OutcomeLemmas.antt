-- What is told of a transaction is so in the run that mirrors the deployment, and stays so.
use Rattle.std.proofs.Common.{◌≡◌, ℕ, ◌<◌, Bool, true, false, if◌then◌else◌, Option, Some, None, List, [], ◌∷◌, ◌++◌, map, All, append-nil, refl, sym, ap, ◌∙◌, subst}
use Rattle.std.specs.Prelude.{◌≢◌, is_some}
use Rattle.std.specs.List.{Contains}
use Rattle.std.proofs.lemmas.List.Elements.{All-cons}
use Rattle.pv_base.proofs.ContainsLemmas.{Contains-first}
use Rattle.pv_base.specs.declared.txn.TxnId.{TxnId}
use Rattle.pv_format.specs.Contents.{greatest_epoch}
use Rattle.pv_format.specs.Message.{Envelope, Message, outcome_reported}
use Rattle.pv_format.specs.Record.{Record}
use Rattle.pv_law_acts.specs.Acts.{Acts, no_act}
use Rattle.pv_law_acts.specs.Guards.{HasOutcome}
use Rattle.pv_law_acts.specs.Seen.{records_at, memory_at, ageless_entry, next_txn_in, IsDead, IsNumberPassed, IsPassed}
use Rattle.pv_law_events.proofs.OutcomeActs.{on-ask-acts}
use Rattle.pv_law_events.proofs.StepActs.{IsActs, IsReady, here_at}
use Rattle.pv_law_events.proofs.WorldLemmas.{At, own-site}
use Rattle.pv_law_events.specs.Reached.{AreReached}
use Rattle.pv_law_outcomes.proofs.DecidedLemmas.{always-settled}
use Rattle.pv_law_outcomes.specs.Decided.{AreDecided}
use Rattle.pv_law_world.proofs.AppendLemmas.{run-append}
use Rattle.pv_law_world.specs.Sites.{AreEpochsRecorded, AreMemoriesInOrder}
use Rattle.pv_model.specs.Events.{Event}
use Rattle.pv_protocol.specs.Committed.{entry_in, entry_of, home_of, is_committed}
use Rattle.pv_protocol.specs.Here.{Here, nothing, only_to, sending}
use Rattle.pv_protocol.specs.Keyed.{of_txn}
use Rattle.pv_protocol.specs.Outcome.{at_known, is_issued, on_ask, works_on}
use Rattle.pv_protocol.specs.Outcomes.{Knows}
use Rattle.pv_protocol.specs.Records.{known}
use Rattle.pv_protocol.specs.Run.{run, world_after, worlds_of}
use Rattle.pv_protocol.specs.State.{Entry, Placed, Running, Setup, Site}
use Rattle.pv_protocol.specs.World.{World, opening, site_at}
use Rattle.pv_protocol.specs.WorldStep.{Transition}
use Rattle.pv_site.specs.SiteState.{here_with}
use Rattle.pv_embed.specs.Hosted.{HostedState}
use Rattle.pv_law_hosted.proofs.AgreeLemmas.{last-world}
use Rattle.pv_law_hosted.proofs.BegunLemmas.{passed-issued}
use Rattle.pv_law_hosted.proofs.RunLemmas.{after-append}
use Rattle.pv_law_hosted.specs.Deployment.{Deployment, station_at}
use Rattle.pv_law_hosted.specs.Mirrored.{FollowsHosted, FollowsProcess, IsMirrored, plain_site, world_of}

-- ## Worlds of a run that goes on
worlds-join : (first : World) (earlier later : List Transition)
    → (before : List World) × (worlds_of first (earlier ++ later) ≡ before ++ world_after first earlier ∷ map (λ (t : Transition). t.world) later)
worlds-join first [] later = ([], refl)
worlds-join first (t ∷ earlier) later = let rest = worlds-join t.world earlier later in (first ∷ rest.0, ap (λ (ws : List World). first ∷ ws) rest.1)

module _ (setup : Setup) (events : List Event) where
  abbrev now : World
  now = world_of setup events

  -- Acts lead to the last world, and from it to that of each longer run.
  pub world-reached : AreReached setup (worlds_of (opening setup) (run setup (opening setup) events)) → Acts setup (opening setup) now
  world-reached reached = last-world (Acts setup (opening setup)) (opening setup) (run setup (opening setup) events) (all-reached reached) where
    all-reached : AreReached setup (worlds_of (opening setup) (run setup (opening setup) events)) → All (Acts setup (opening setup)) (worlds_of (opening setup) (run setup (opening setup) events))
    all-reached reached =
        All-cons (Acts setup (opening setup)) (opening setup) (map (λ (t : Transition). t.world) (run setup (opening setup) events)) (no_act (opening setup))
        (reached [] (map (λ (t : Transition). t.world) (run setup (opening setup) events)) (opening setup) refl).1

  module _ (more : List Event) where
    abbrev later : List Transition
    later = run setup now more

    pub later-acts : AreReached setup (worlds_of (opening setup) (run setup (opening setup) (events ++ more))) → Acts setup now (world_of setup (events ++ more))
    later-acts reached =
        let cut = worlds-join (opening setup) (run setup (opening setup) events) later in
        let is : worlds_of (opening setup) (run setup (opening setup) (events ++ more)) ≡ cut.0 ++ now ∷ map (λ (t : Transition). t.world) later =
        ap (worlds_of (opening setup)) (run-append setup (opening setup) events more) ∙ cut.1 in
        let all = (reached cut.0 (map (λ (t : Transition). t.world) later) now is).1 in
        subst (Acts setup now) (sym (after-append setup (opening setup) events more))
        (last-world (Acts setup now) now later (All-cons (Acts setup now) now (map (λ (t : Transition). t.world) later) (no_act now) all))

-- ## What is answered
-- Of a transaction that its site has numbered, doesn't work on and doesn't know to have committed, it is answered that it doesn't commit.
no-answered : (here : Here) (from : ℕ) (txn : TxnId) (outcome : Option Bool) → is_issued here txn ≡ true → known here.records txn ≡ outcome → outcome ≢ Some true
    → works_on here.running txn ≡ false → on_ask here from txn ≡ sending here.running (only_to from (outcome_reported txn false))
unfolding on_ask
no-answered here from txn (Some true) issued is unknown idle = absurd (unknown refl)
no-answered here from txn (Some false) issued is unknown idle =
    ap (λ (test : Bool). if test then at_known here from txn (known here.records txn) else nothing here) issued
    ∙ ap (at_known here from txn) is
    ∙ ap (λ (test : Bool). if test then nothing here else sending here.running (only_to from (outcome_reported txn false))) idle
no-answered here from txn None issued is unknown idle =
    ap (λ (test : Bool). if test then at_known here from txn (known here.records txn) else nothing here) issued
    ∙ ap (at_known here from txn) is
    ∙ ap (λ (test : Bool). if test then nothing here else sending here.running (only_to from (outcome_reported txn false))) idle

-- So it is dead.
module _ (setup : Setup) (w : World) (n : ℕ) (running : Running) (up : memory_at w n ≡ Some running) (reached : Acts setup (opening setup) w)
    (recorded : AreEpochsRecorded w) (ordered : AreMemoriesInOrder w) where
  ready : IsReady setup w n running
  ready = record { up = up; settled = always-settled setup w reached; recorded = recorded n running up; ordered = ordered n running up }

  same-world : (records : List Record) (order : List Placed) → records ≡ records_at w n ++ [] → order ≡ w.order ++ [] → At w n records (Some running) order ≡ w
  same-world records order same placed =
      ap (λ (rs : List Record). At w n rs (Some running) order) (same ∙ append-nil (records_at w n))
      ∙ ap (λ (o : List Placed). At w n (records_at w n) (Some running) o) (placed ∙ append-nil w.order)
      ∙ ap (λ (memory : Option Running). At w n (records_at w n) memory w.order) (sym up)
      ∙ own-site w n

  pub never-dead : (txn : TxnId) → is_issued (here_at setup w n running) txn ≡ true → known (records_at w n) txn ≢ Some true → works_on running txn ≡ false → IsDead w txn
  never-dead txn issued unknown idle =
      let here = here_at setup w n running in
      let said = only_to n (outcome_reported txn false) in
      let acts : IsActs setup w n (sending running said) =
      subst (IsActs setup w n) (no-answered here n txn (known (records_at w n) txn) issued refl unknown idle) (on-ask-acts setup w n running ready n txn) in
      let may = acts.sends (record { to = n; message = outcome_reported txn false }) (Contains-first (record { to = n; message = outcome_reported txn false }) []) in
      subst (λ (v : World). IsDead v txn) (same-world acts.records acts.order acts.appends acts.places) may.outcome

-- ## What is told
-- A mirrored deployment's site has its number.
pub number-is : (setup : Setup) (d : Deployment) (events : List Event) (n : ℕ) (hosted : HostedState) → IsMirrored setup d events → n < setup.catalog.sites
    → (station_at d n).hosted ≡ Some hosted → hosted.site.me ≡ n
number-is setup d events n hosted mirrored known is =
    let follows = mirrored.each n known in
    let process : FollowsHosted setup d n (station_at d n).asked (station_at d n).file hosted follows.content follows.rest =
    subst (λ (h : Option HostedState). FollowsProcess setup d n (station_at d n).asked (station_at d n).file h follows.content follows.rest) is follows.process in
    process.me

some-found : (found : Option Entry) → is_some found ≡ true → (entry : Entry) × (found ≡ Some entry)
some-found None is = absurd cc
some-found (Some entry) is = (entry, refl)

module _ (setup : Setup) (w : World) (n : ℕ) (hosted : HostedState) (running : Running) (txn : TxnId)
    (is : site_at w n ≡ plain_site hosted.site.records hosted.site.running) (up : hosted.site.running ≡ Some running)
    (me : hosted.site.me ≡ n) (home : txn.site.0 ≡ hosted.site.me) where
  memory-is : memory_at w n ≡ Some running
  memory-is = ap (λ (site : Site). site.running) is ∙ up

  records-are : records_at w n ≡ hosted.site.records
  records-are = ap (λ (site : Site). site.records) is

  home-is : home_of txn ≡ n
  home-is = home ∙ me

  pub knows-told : known hosted.site.records txn ≡ Some true → Knows w n txn true
  knows-told says = ap (λ (rs : List Record). known rs txn) records-are ∙ says

  pub dead-told : Acts setup (opening setup) w → AreEpochsRecorded w → AreMemoriesInOrder w → is_issued (here_with hosted.site running) txn ≡ true
      → known hosted.site.records txn ≢ Some true → works_on running txn ≡ false → IsDead w txn
  dead-told reached recorded ordered issued unknown idle =
      never-dead setup w n running memory-is reached recorded ordered txn
      (subst (λ (m : ℕ). is_issued (record { me = m; setup = setup; records = records_at w n; surplus = 0; running = running }) txn ≡ true) me issued)
      (λ says. unknown (sym (ap (λ (rs : List Record). known rs txn) records-are) ∙ says)) idle

  pub works-told : works_on running txn ≡ true → (entry : Entry) × (entry_of w txn ≡ Some entry)
  works-told works =
      let found = some-found (of_txn (λ (entry : Entry). entry.txn) txn running.entries) works in
      (found.0, ap (λ (m : ℕ). entry_in (memory_at w m) txn) home-is ∙ ap (λ (memory : Option Running). entry_in memory txn) memory-is ∙ found.1)

  pub passed-told : AreEpochsRecorded w → IsPassed w txn → is_issued (here_with hosted.site running) txn ≡ true
  passed-told recorded passed =
      let number : IsNumberPassed hosted.site.records (Some running.next_txn) txn.epoch txn.number =
      subst (λ (rs : List Record). IsNumberPassed rs (Some running.next_txn) txn.epoch txn.number) records-are
      (subst (λ (memory : Option Running). IsNumberPassed (records_at w n) (next_txn_in memory) txn.epoch txn.number) memory-is
      (subst (λ (m : ℕ). IsNumberPassed (records_at w m) (next_txn_in (memory_at w m)) txn.epoch txn.number) home-is passed)) in
      passed-issued (here_with hosted.site running) txn (sym home) (recorded n running memory-is ∙ ap greatest_epoch records-are) number

-- What a site works on isn't committed.
pub works-uncommitted : (w : World) (txn : TxnId) (entry : Entry) → AreDecided w → entry_of w txn ≡ Some entry → is_committed w txn ≡ false
works-uncommitted w txn entry decided works = decided.working (home_of txn) txn (record entry { age = 0 }) (ap ageless_entry works)

-- ## One outcome
-- What is reported of a transaction is one outcome.
pub one-reported : (w : World) (txn : TxnId) (commits reported : Bool) → HasOutcome w txn commits → HasOutcome w txn reported → commits ≡ reported
one-reported w txn true true first second = refl
one-reported w txn false false first second = refl
one-reported w txn true false first second = let wrong : true ≡ false = sym first ∙ second.uncommitted in cc
one-reported w txn false true first second = let wrong : true ≡ false = sym second ∙ first.uncommitted in cc

-- A message that was sent reports an outcome of the transaction.
pub sent-outcome : (w : World) (envelope : Envelope) (txn : TxnId) (commits : Bool) → AreDecided w → Contains w.sent envelope → envelope.message ≡ outcome_reported txn commits
    → HasOutcome w txn commits
sent-outcome w envelope txn commits decided sent is =
    (decided.reported envelope.from envelope.to txn commits
    (subst (λ (m : Message). Contains w.sent (record { from = envelope.from; to = envelope.to; message = m })) is sent)).outcome
