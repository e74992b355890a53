-- The worked request, event by event.
use Rattle.std.proofs.Common.{◌≡◌, inl, ⊎_elim, ℕ, ◌+◌, ◌<◌, ◌≤◌, ◌==◌, true, false, Some, None, List, [], ◌∷◌, ◌++◌, IsTrue, arith, refl, sym, ap, ap₂, ◌∙◌, subst}
use Rattle.std.specs.List.{Contains}
use Rattle.std.proofs.lemmas.Bool.{eqb-true, false≢true, or_cases}
use Rattle.std.proofs.lemmas.List.Elements.{All-nil, All-cons}
use Rattle.pv_base.specs.BigEndian.{big_endian}
use Rattle.pv_disk_model.specs.Size.{Contents, size_of}
use Rattle.pv_embed.specs.Held.{Held, note}
use Rattle.pv_embed.specs.Hosted.{HasStepped, HostedState, held_after, stored_length}
use Rattle.pv_embed.specs.Opening.{HasOpenedOn}
use Rattle.pv_format.specs.Contents.{SpellRecords, greatest_epoch}
use Rattle.pv_format.specs.Journal.{IsJournal, end_of}
use Rattle.pv_format.specs.Message.{lock}
use Rattle.pv_format.specs.Record.{Record, epoch_begun}
use Rattle.pv_format.specs.RecordSpelling.{IsReadAs}
use Rattle.pv_host.specs.HostLaws.{host_model}
use Rattle.pv_host.specs.HostLog.{HostState, contents_of}
use Rattle.pv_law_hosted.proofs.AloneLemmas.{opened-after}
use Rattle.pv_law_hosted.proofs.CallLemmas.{give-happens, going-happens, opening-happens, some-same, write-happens}
use Rattle.pv_law_hosted.proofs.WorkedLemmas.{found-journal, one-epoch, spelled-epoch, stands}
use Rattle.pv_law_hosted.specs.Deployment.{Deployment, station_at}
use Rattle.pv_law_hosted.specs.DeploymentEvents.{Happens, Stands, request, takes}
use Rattle.pv_law_hosted.specs.Mirrored.{IsMirrored}
use Rattle.pv_law_hosted.specs.Worked.{asked_by, asked_log, asking, begun, begun_records, catalog, config, first_epoch, found, found_again, found_file, found_records, killed, number, numbered, numbering, opened_again, program, requested, requests, sent, stored, stored_log, wants, writing}
use Rattle.pv_model.specs.Check.{names_item}
use Rattle.pv_model.specs.Events.{Event}
use Rattle.pv_model.specs.Plan.{plan_of}
use Rattle.pv_protocol.specs.Lines.{Line}
use Rattle.pv_protocol.specs.Lock.{on_submit}
use Rattle.pv_protocol.specs.Records.{journal_bytes}
use Rattle.pv_protocol.specs.Run.{printed}
use Rattle.pv_protocol.specs.Start.{just_started}
use Rattle.pv_protocol.specs.State as State
use Rattle.pv_protocol.specs.State.{Note, Running, Setup, Step, began, submit}
use Rattle.pv_protocol.specs.Step.{records_after, step_on}
use Rattle.pv_protocol.specs.WellFormed.{CanRun}
use Rattle.pv_site.specs.OnLog.{Logs}
use Rattle.pv_site.specs.SiteState.{SiteState, here_with, setup_of}

-- ## The host tells that the record is stored
pub stores : Happens config catalog writing stored
unfolding big_endian
stores =
    write-happens config catalog writing 0 (begun (asked_log true)) (record { known = omega arith; here = refl; me = refl; declared = refl }) (begun stored_log)
    (record { place = end_of []; bytes = 1 ∷ [] }) (stands stored_log refl refl refl) refl (record { log = refl; same = refl })

-- ## The site takes the request
-- the step that it makes
abbrev asked-step : Step
asked-step = record {
  running = record (just_started 1) { next_txn = 1; entries = record { txn = number; program = program; stage = State.locking; age = 0; taken = []; votes = [] } ∷ [] };
  appended = None;
  sends = record { to = 0; message = lock number wants } ∷ [];
  notes = began number ∷ [];
  placed = None;
}

steps-so : step_on (here_with (begun stored_log).site (just_started 1)) (submit program) ≡ asked-step
unfolding on_submit plan_of
steps-so = refl

module _ (next : HostedState) (s : HasStepped (begun stored_log) next (submit program)) where
  step-is : step_on (here_with (begun stored_log).site s.running) (submit program) ≡ asked-step
  step-is = ap (λ (running : Running). step_on (here_with (begun stored_log).site running) (submit program)) (sym (some-same s.was)) ∙ steps-so

  log-is : next.site.log ≡ stored_log
  log-is = subst (λ (step : Step). Logs host_model stored_log next.site.log step.appended) step-is s.steps.log

  site-is : next.site ≡ (asked_by []).site
  site-is =
      s.steps.site
      ∙ ap₂ (λ (step : Step) (log : HostState). record (begun stored_log).site { records = records_after begun_records step; running = Some step.running; log = log }) step-is log-is

  held-is : next.held ≡ asking ∷ numbering ∷ []
  held-is = s.held ∙ ap₂ (λ (site : SiteState HostState) (step : Step). held_after (record { site = site; held = [] }) [] step) site-is step-is

  pub next-is : next ≡ asked_by (asking ∷ numbering ∷ [])
  next-is = ap₂ (λ (site : SiteState HostState) (held : List Held). record { site = site; held = held }) site-is held-is

-- The site stands with whatever it holds.
asked-stands : (held : List Held) → Stands (asked_by held)
unfolding journal_bytes
asked-stands held = record {
  ready = record {
    intact = let size : size_of (contents_of stored_log) ≡ 19 = refl in omega (arith, size);
    limit = refl;
    holds = record { up = refl; size = refl; held = λ contents is. subst (SpellRecords begun_records) (some-same is) (inl spelled-epoch, tt) };
  };
  running = (record (just_started 1) { next_txn = 1; entries = record { txn = number; program = program; stage = State.locking; age = 0; taken = []; votes = [] } ∷ [] });
  up = refl;
}

-- ## The program can run
whole-item : (n : ℕ) → IsTrue (names_item program n) → Contains (0 ∷ []) n
whole-item n named =
    ⊎_elim (λ same. subst (Contains (0 ∷ [])) (eqb-true 0 n same) (0, omega arith, refl)) (λ never. absurd (false≢true never)) (or_cases (0 == n) false named)

can-run : CanRun catalog program
can-run = record {
  runnable = record {
    items = 0 ∷ [];
    are = record {
      ascending = λ i j d before within. absurd (omega (arith, before, within));
      each = All-cons (λ n. IsTrue (names_item program n)) 0 [] refl (All-nil (λ n. IsTrue (names_item program n)));
      whole = whole-item;
    };
    some = omega arith;
    few = omega arith;
    known = All-cons (λ n. n < 1) 0 [] (omega arith) (All-nil (λ n. n < 1));
  };
  numbers = refl;
}

-- ## What happens
pub takes-request : (next : HostedState) → HasStepped (begun stored_log) next (submit program) → Happens config catalog stored requested
takes-request next stepped = record {
  n = 0;
  known = omega arith;
  new = record { file = found_file; hosted = Some (asked_by (asking ∷ numbering ∷ [])); let_out = []; asked = requests };
  at = takes (asked_by (asking ∷ numbering ∷ [])) (submit program) (request program can-run)
      (subst (λ (site : HostedState). HasStepped (begun stored_log) site (submit program)) (next-is next stepped) stepped);
  stands = λ site is. subst Stands (some-same is) (asked-stands (asking ∷ numbering ∷ []));
  after = refl;
}

fits : (held : List Held) → 19 ≤ stored_length (asked_by held)
fits held = let long : stored_length (asked_by held) ≡ 19 = refl in omega (arith, long)

pub asks-out : Happens config catalog requested sent
asks-out =
    give-happens config catalog requested 0 (asked_by (asking ∷ numbering ∷ [])) (record { known = omega arith; here = refl; me = refl; declared = refl })
    (asked_by (numbering ∷ [])) asking (numbering ∷ []) (asked-stands (numbering ∷ [])) refl (fits (asking ∷ numbering ∷ [])) refl

pub numbers-out : Happens config catalog sent numbered
numbers-out =
    give-happens config catalog sent 0 (asked_by (numbering ∷ [])) (record { known = omega arith; here = refl; me = refl; declared = refl })
    (asked_by []) numbering [] (asked-stands []) refl (fits (numbering ∷ [])) refl

pub kills : Happens config catalog numbered killed
kills = going-happens config catalog numbered 0 (asked_by []) (record { known = omega arith; here = refl; me = refl; declared = refl }) found_file (inl (inl refl))

pub opens-again : (site : HostedState) → HasOpenedOn config 0 found_file site → Stands site → Happens config catalog killed (opened_again site)
opens-again site opened stands = opening-happens config catalog killed 0 site (omega arith) refl stands opened

pub finds-again : (site : HostedState) → HasOpenedOn config 0 found_file site → Stands site → Happens config catalog found (found_again site)
finds-again site opened stands = opening-happens config catalog found 0 site (omega arith) refl stands opened

-- ## The next epoch
module _ (one_record : (entry other : Record) (bytes : List ℕ) → IsReadAs entry bytes → IsReadAs other bytes → entry ≡ other)
    (one_journal : (bytes : List ℕ) (contents others : Contents) → IsJournal contents bytes → IsJournal others bytes → contents ≡ others) where
  found-read : (site : HostedState) (o : HasOpenedOn config 0 found_file site) → o.opened.records ≡ begun_records
  found-read site o =
      let stored : o.log.stored ≡ first_epoch ∷ [] = one_journal found_file o.log.stored (first_epoch ∷ []) o.opened_on.journal found-journal in
      let all : contents_of o.log ≡ o.log.stored ++ ([] ++ []) = ap₂ (λ (asked pending : Contents). o.log.stored ++ (asked ++ pending)) o.opened_on.asked o.opened_on.pending in
      let read : o.opened.contents ≡ first_epoch ∷ [] =
      o.opened.read (contents_of o.log) refl ∙ all ∙ ap (λ (l : Contents). l ++ ([] ++ [])) stored in
      one-epoch one_record one_journal o.opened.records (subst (SpellRecords o.opened.records) read o.opened.spelled)

  begun-then : (site : HostedState) (o : HasOpenedOn config 0 found_file site) → o.opened.epoch ≡ 2
  begun-then site o = (opened-after config 0 found_file site o).recorded ∙ ap (λ (l : List Record). greatest_epoch l + 1) (found-read site o)

  pub second-epoch : (site : HostedState) → HasOpenedOn config 0 found_file site → site.site.epoch ≡ 2
  second-epoch site o = ap (λ (s : SiteState HostState). s.epoch) o.opened.site ∙ begun-then site o

  pub second-records : (site : HostedState) → HasOpenedOn config 0 found_file site → site.site.records ≡ found_records
  second-records site o =
      ap (λ (s : SiteState HostState). s.records) o.opened.site
      ∙ ap₂ (λ (records : List Record) (epoch : ℕ). records ++ epoch_begun epoch ∷ []) (found-read site o) (begun-then site o)

-- ## What the law says of it
module _ (goes_on : (d later : Deployment) (events : List Event) → IsMirrored (setup_of catalog) d events → Happens config catalog d later
    → (more : List Event) × IsMirrored (setup_of catalog) later (events ++ more))
    (says : (d : Deployment) (events : List Event) → IsMirrored (setup_of catalog) d events → Contains (station_at d 0).let_out (note (began number))
    → Contains (printed (setup_of catalog) events) (Line.txn number))
    (events : List Event) (mirrored : IsMirrored (setup_of catalog) writing events) where
  pub mirrored-again : (next : HostedState) → HasStepped (begun stored_log) next (submit program) → (site : HostedState) → HasOpenedOn config 0 found_file site → Stands site
      → (more : List Event) × IsMirrored (setup_of catalog) (opened_again site) more × Contains (printed (setup_of catalog) more) (Line.txn number)
  mirrored-again next stepped site opened stands =
      let first = goes_on writing stored events mirrored stores in
      let second = goes_on stored requested (events ++ first.0) first.1 (takes-request next stepped) in
      let third = goes_on requested sent ((events ++ first.0) ++ second.0) second.1 asks-out in
      let fourth = goes_on sent numbered (((events ++ first.0) ++ second.0) ++ third.0) third.1 numbers-out in
      let fifth = goes_on numbered killed ((((events ++ first.0) ++ second.0) ++ third.0) ++ fourth.0) fourth.1 kills in
      let sixth = goes_on killed (opened_again site) (((((events ++ first.0) ++ second.0) ++ third.0) ++ fourth.0) ++ fifth.0) fifth.1 (opens-again site opened stands) in
      let all = (((((events ++ first.0) ++ second.0) ++ third.0) ++ fourth.0) ++ fifth.0) ++ sixth.0 in
      (all, sixth.1, says (opened_again site) all sixth.1 (1, omega arith, refl))
