-- A site takes something: it waits behind what waits, or is done at once where nothing waits and it appends nothing.
use Rattle.std.proofs.Common.{◌≡◌, ℕ, ◌≤◌, Option, Some, None, List, [], ◌∷◌, ◌++◌, map, drop, length, All, append_assoc, append-nil, refl, sym, ap, ap₂, ◌∙◌, subst}
use Rattle.std.specs.List.{Contains}
use Rattle.pv_base.specs.declared.txn.TxnId.{TxnId}
use Rattle.pv_disk_model.specs.Size.{Contents, size_of}
use Rattle.pv_format.specs.Contents.{AreWritten}
use Rattle.pv_format.specs.Record.{Record}
use Rattle.pv_protocol.specs.Records.{journal_bytes, longer_journal}
use Rattle.pv_protocol.specs.State as model
use Rattle.pv_protocol.specs.State.{Setup, Running, began}
use Rattle.pv_protocol.specs.Step.{records_after, site_step, step_on}
use Rattle.pv_site.specs.SiteState.{SiteState, here_with, setup_of}
use Rattle.pv_site.specs.Steps.{HoldsWhatRuns}
use Rattle.pv_host.specs.HostFile.{IsFile}
use Rattle.pv_host.specs.HostLaws.{host_model}
use Rattle.pv_host.specs.HostLog.{HostState, contents_of}
use Rattle.pv_embed.specs.Held.{Held, Out, note}
use Rattle.pv_embed.specs.Hosted.{HostedState, HasStepped, log_length}
use Rattle.pv_embed.specs.Outputs.{outs}
use Rattle.pv_law_hosted.proofs.AskedLemmas.{all-taken, may-parts}
use Rattle.pv_law_hosted.proofs.GivenLemmas.{held_for-append, with_all-append}
use Rattle.pv_law_hosted.proofs.MirroredLemmas.{Becomes}
use Rattle.pv_law_hosted.proofs.SplitLemmas.{all-up, parted}
use Rattle.pv_law_hosted.proofs.StoreLemmas.{logged-written}
use Rattle.pv_embed.proofs.HostedLemmas.{stored_logged}
use Rattle.pv_law_hosted.proofs.TakesLemmas.{HasDone, done-becomes, now}
use Rattle.pv_law_hosted.specs.Asked.{Asked, asked_after}
use Rattle.pv_law_hosted.specs.Deployment.{Deployment, Station, station_at}
use Rattle.pv_law_hosted.specs.DeploymentEvents.{MayTake, Stands}
use Rattle.pv_law_hosted.specs.Given as process
use Rattle.pv_law_hosted.specs.Given.{Content, Given, MayAllBeGiven, WaitsForRecord, held_for, held_of_given, outs_of_all, outs_with, stepped_with, with_all, with_given}
use Rattle.pv_law_hosted.specs.Mirrored.{FollowsHosted}

module _ (setup : Setup) (d : Deployment) (n : ℕ)
    (tells : (records : List Record) (contents : Contents) → AreWritten records contents → size_of contents ≡ journal_bytes records)
    (before : List Asked) (file : List ℕ) (site next : HostedState) (content : Content) (rest : List Out) (f : FollowsHosted setup d n before file site content rest)
    (is_file : IsFile next.site.log file) (stands : Stands next) (input : model.Input) (may : MayTake setup.catalog d n input) (s : HasStepped site next input)
    (fresh : (txn : TxnId) → Contains (map (λ (one : Held). one.out) (drop (length site.held) next.held)) (note (began txn))
    → Contains (outs_of_all setup n content f.waiting) (note (began txn)) → ⊥) where
  -- what was asked for then
  abbrev asked : List Asked
  asked = asked_after before input (drop (length site.held) next.held)

  abbrev step : model.Step
  step = site_step setup n site.site.records s.running input

  -- the step of the site is the one of the run
  same-step : step_on (here_with site.site s.running) input ≡ step
  same-step = λ i. step_on (record { me = f.me i; setup = f.catalog i; records = site.site.records; surplus = f.surplus i; running = s.running }) input

  left : next.site ≡ record site.site { records = records_after site.site.records step; running = Some step.running; log = next.site.log }
  left =
      s.steps.site
      ∙ ap (λ (made : model.Step). record site.site { records = records_after site.site.records made; running = Some made.running; log = next.site.log }) same-step

  was-now : now setup d n asked tells site ≡ record { records = site.site.records; running = Some s.running }
  was-now = ap (λ (running : Option Running). record { records = site.site.records; running = running }) s.was

  is-now : with_given setup n (now setup d n asked tells site) (process.input input) ≡ now setup d n asked tells next
  is-now =
      ap (λ (c : Content). with_given setup n c (process.input input)) was-now
      ∙ sym (ap (λ (after : SiteState HostState). record { records = after.records; running = after.running }) left)

  no-surplus : next.site.surplus ≡ 0
  no-surplus = ap (λ (after : SiteState HostState). after.surplus) left ∙ f.surplus

  long : log_length next ≡ journal_bytes next.site.records
  long =
      (subst (λ r. HoldsWhatRuns host_model next.site.log next.site.surplus next.site.records r) stands.up stands.ready.holds).size
      ∙ ap (λ (n : ℕ). longer_journal n next.site.records) no-surplus

  whole : AreWritten next.site.records (contents_of next.site.log)
  whole =
      subst (λ (l : List Record). AreWritten l (contents_of next.site.log)) (sym (ap (λ (after : SiteState HostState). after.records) s.steps.site))
      (logged-written (step_on (here_with site.site s.running) input).appended site.site.log next.site.log site.site.records s.steps.log f.whole)

  abbrev held_now : List Held
  held_now = held_of_given setup n (now setup d n asked tells site) (process.input input)

  me-next : next.site.me ≡ n
  me-next = ap (λ (after : SiteState HostState). after.me) left ∙ f.me

  made-held : next.held ≡ site.held ++ held_now
  made-held =
      s.held
      ∙ ap (λ (made : model.Step). site.held ++ map (λ out. record { length = log_length next; out = out }) (outs next.site.me made.sends made.notes)) same-step
      ∙ ap₂ (λ k me. site.held ++ map (λ out. record { length = k; out = out }) (outs me step.sends step.notes)) (long ∙ sym (ap (λ (c : Content). journal_bytes c.records) is-now)) me-next
      ∙ ap (λ (running : Option Running). site.held ++ map (λ out. record { length = journal_bytes (with_given setup n (now setup d n asked tells site) (process.input input)).records; out = out })
      (outs_with setup n (now setup d n asked tells site) running input)) (sym s.was)

  abbrev all : List Given
  all = f.waiting ++ process.input input ∷ []

  come : with_all setup n content all ≡ now setup d n asked tells next
  come =
      with_all-append setup n content f.waiting (process.input input ∷ [])
      ∙ ap (λ (c : Content). with_given setup n c (process.input input)) f.come ∙ is-now

  held-all : next.held ≡ f.ready ++ held_for setup n content all
  held-all =
      made-held ∙ ap (λ (l : List Held). l ++ held_now) f.held
      ∙ append_assoc f.ready (held_for setup n content f.waiting) held_now
      ∙ ap (λ (l : List Held). f.ready ++ (held_for setup n content f.waiting ++ l))
      (ap (λ (c : Content). held_of_given setup n c (process.input input)) (sym f.come) ∙ sym (append-nil (held_of_given setup n (with_all setup n content f.waiting) (process.input input))))
      ∙ ap (λ (l : List Held). f.ready ++ l) (sym (held_for-append setup n content f.waiting (process.input input ∷ [])))

  stored : next.site.log.stored ≡ site.site.log.stored
  stored = stored_logged _ site.site.log next.site.log s.steps.log

  allowed : MayAllBeGiven setup n d asked content all
  allowed = all-taken setup d n before file site next content rest f input may s fresh

  -- Of all this the first things are done, which append nothing.
  done-so : (done left_over : List Given) → all ≡ done ++ left_over → (with_all setup n content done).records ≡ content.records
      → WaitsForRecord setup n (with_all setup n content done) left_over
      → ((with_all setup n content done).running ≡ None → f.ready ++ held_for setup n content done ≡ [])
      → HasDone setup d n asked tells file next content f.ready done left_over
  done-so done left_over split still waits unopened = record {
    is_file = is_file;
    stands = stands;
    me = me-next;
    catalog = ap (λ (after : SiteState HostState). setup_of after.catalog) left ∙ f.catalog;
    surplus = no-surplus;
    stored = subst (λ (l : List Record). AreWritten l next.site.log.stored) (sym still) (subst (AreWritten content.records) (sym stored) f.stored);
    whole = whole;
    allowed = (may-parts setup n d asked content done left_over (subst (MayAllBeGiven setup n d asked content) split allowed)).1;
    first = waits;
    come = sym (ap (with_all setup n content) split) ∙ come;
    held = held-all ∙ ap (λ (l : List Given). f.ready ++ held_for setup n content l) split;
    in_file = subst (λ (l : Contents). All (λ (one : Held). one.length ≤ size_of l) f.ready) (sym stored) f.in_file;
    unopened = unopened;
  }

  -- Where nothing waited the site is up, and what appends nothing is done at once.
  done-now : f.waiting ≡ [] → (done : List Given) × ((left_over : List Given) × (MayAllBeGiven setup n d asked content done × HasDone setup d n asked tells file next content f.ready done left_over))
  done-now none =
      let parts = parted setup n content (process.input input ∷ []) in
      let split : all ≡ parts.quiet ++ parts.left = ap (λ (l : List Given). l ++ process.input input ∷ []) none ∙ parts.split in
      let here : content ≡ now setup d n asked tells site = sym (ap (with_all setup n content) none) ∙ f.come in
      let up = all-up setup n content parts.quiet (s.running, ap (λ (c : Content). c.running) here ∙ s.was) in (
        parts.quiet,
        (
          parts.left,
          (
            (may-parts setup n d asked content parts.quiet parts.left (subst (MayAllBeGiven setup n d asked content) split allowed)).0,
            done-so parts.quiet parts.left split parts.still parts.waits (λ down. let wrong : Some up.0 ≡ None = sym up.1 ∙ down in cc),
          ),
        ),
      )

  first-still : (given : Given) (later : List Given) → f.waiting ≡ given ∷ later → WaitsForRecord setup n content all
  first-still given later some =
      subst (λ (l : List Given). WaitsForRecord setup n content (l ++ process.input input ∷ [])) (sym some) (subst (WaitsForRecord setup n content) some f.first)

  done-any : (waiting : List Given) → f.waiting ≡ waiting
      → (done : List Given) × ((left_over : List Given) × (MayAllBeGiven setup n d asked content done × HasDone setup d n asked tells file next content f.ready done left_over))
  done-any [] none = done-now none
  done-any (given ∷ later) some = (
    [],
    (
      all,
      (
        tt,
        done-so [] all refl refl (first-still given later some) (λ down. append-nil f.ready ∙ f.unopened down),
      ),
    ),
  )

  pub becomes-given : (new : Station) → new ≡ record { file = file; hosted = Some next; let_out = (station_at d n).let_out; asked = asked }
      → Becomes setup d n content rest new
  becomes-given new here =
      let done = done-any f.waiting refl in
      done-becomes setup d n asked tells file next content rest f.ready done.0 done.1.0 new done.1.1.0 done.1.1.1 f.rest_is here
