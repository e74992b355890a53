-- The worked deployment, event by event.
use Rattle.std.proofs.Common.{◌≡◌, ◌⊎◌, inl, inr, ⊎_elim, ℕ, zero, suc, ◌+◌, ◌^◌, ◌<◌, pos, true, false, Option, Some, None, List, [], ◌∷◌, ◌++◌, length, codes, arith, refl, sym, ap, ◌∙◌, subst}
use Rattle.std.proofs.lemmas.List.Elements.{All-nil, All-cons}
use Rattle.pv_base.specs.BigEndian.{big_endian}
use Rattle.pv_base.specs.declared.limits.TheConstants.{MAX_JOURNAL}
use Rattle.pv_disk_model.specs.Disk.{Torn}
use Rattle.pv_disk_model.specs.Log.{Adds, IsBeforeOrAfter, LeavesOnly}
use Rattle.pv_disk_model.specs.Size.{Contents, size_of}
use Rattle.pv_embed.specs.Opening.{Configures, HasOpenedOn}
use Rattle.pv_format.specs.Contents.{SpellRecords}
use Rattle.pv_format.specs.Journal.{IsJournal, end_of, framed}
use Rattle.pv_format.specs.Record.{Record, epoch_begun}
use Rattle.pv_format.specs.RecordSpelling.{IsReadAs, SpellsRecord}
use Rattle.pv_host.specs.HostLaws.{host_model}
use Rattle.pv_host.specs.HostLog.{HostState, WasHeld, contents_of}
use Rattle.pv_law_hosted.proofs.CallLemmas.{ask-happens, going-happens, opening-happens, some-same, write-happens}
use Rattle.pv_law_hosted.specs.Calls.{HasSite}
use Rattle.pv_law_hosted.specs.Claims.{HoldsSite}
use Rattle.pv_law_hosted.specs.Deployment.{Deployment, IsNew, IsNewStation}
use Rattle.pv_law_hosted.specs.DeploymentEvents.{Happens, Stands}
use Rattle.pv_law_hosted.specs.Worked.{config, catalog, schedule, first_epoch, new_file, written_file, found_file, opened_log, begun_log, asked_log, begun_records, begun, fresh, up, asked, writing, found}
use Rattle.pv_law_hosted.specs.Mirrored.{IsMirrored, world_of}
use Rattle.pv_model.specs.Events.{Event}
use Rattle.pv_model.specs.LineCauses.{Before, at_first}
use Rattle.pv_model.specs.LineForms.{scheduled}
use Rattle.pv_model.specs.Schedule.{AreLines, IsSchedule, declaration, none, significant}
use Rattle.pv_base.specs.Name.{is_keyword, is_name, is_spelled_as_name}
use Rattle.pv_model.specs.Text.{is_significant, lines, numbered, words}
use Rattle.pv_protocol.specs.Records.{journal_bytes}
use Rattle.pv_protocol.specs.Start.{just_started, site_start, starts}
use Rattle.pv_protocol.specs.State.{Site}
use Rattle.pv_protocol.specs.World.{site_at}
use Rattle.pv_site.specs.Opens.{HasOpened}
use Rattle.pv_site.specs.SiteState.{setup_of}
use Rattle.pv_store.specs.Refusals.{too_many_in}

-- ## What is declared
abbrev said_sites : Before
said_sites = record (at_first scheduled) { sites = Some 1 }

abbrev said : Before
said = record said_sites { items = record { name = codes "a"; site = 0; value = pos 5 } ∷ [] }

are-lines : AreLines (at_first scheduled) (significant config) [] said
unfolding is_significant lines numbered words is_name is_spelled_as_name is_keyword
are-lines =
    declaration (at_first scheduled) said_sites said (codes "sites 1") (codes "item a 0 5" ∷ []) []
    (inl (record {
      text = record { short = omega arith; bytes = refl };
      first = refl;
      count = 1;
      is = (49 ∷ [], refl, (record { some = omega arith; digits = refl; value = refl }, omega arith, omega arith));
      same = refl;
    }))
    (declaration said_sites said said (codes "item a 0 5") [] []
    (inr (inr (inl (record {
      text = record { short = omega arith; bytes = refl };
      sites = 1;
      said = refl;
      early = refl;
      item = record { name = codes "a"; site = 0; value = pos 5 };
      at = 48 ∷ [];
      number = 53 ∷ [];
      is = refl;
      place = (record { some = omega arith; digits = refl; value = refl }, omega arith);
      worth = record { some = omega arith; digits = refl; value = refl };
      fits = refl;
      name = refl;
      free = refl;
      room = omega arith;
      same = refl;
    })))) (none said))

is-schedule : IsSchedule config schedule
is-schedule = record { last = said; are = are-lines; sites = 1; said = refl; catalog = refl }

pub configures : Configures config schedule
configures = (is-schedule, refl, omega arith)

-- ## The first opening
pub spelled-epoch : SpellsRecord (epoch_begun 1) first_epoch
unfolding big_endian
spelled-epoch = record {
  front = 1 ∷ [];
  back = 0 ∷ 0 ∷ 0 ∷ 1 ∷ [];
  whole = refl;
  first = record { fits = omega arith; spelled = refl };
  second = record { spelled = record { fits = omega arith; spelled = refl }; allowed = refl };
}

new-journal : IsJournal [] new_file
new-journal = record { short = All-nil (λ (c : List ℕ). length c < 2 ^ 32); gate = 0; rest = []; closed = λ is. absurd (omega (arith, is)); is = refl }

-- What a crash might have left since, of a log with the first content or with none.
of-new : (t : ℕ) (left : Option Contents) → WasHeld begun_log t left → (WasHeld opened_log t left) ⊎ (left ≡ Some (first_epoch ∷ []))
of-new t left (zero, since, within, is) = inl (0, since, omega arith, is)
of-new t left (suc zero, since, within, is) = inr is
of-new t left (suc (suc k), since, within, is) = absurd (omega (arith, within))

of-none : (t : ℕ) (left : Option Contents) → WasHeld opened_log t left → WasHeld begun_log t left × (left ≡ Some [])
of-none t left (zero, since, within, is) = ((0, since, omega arith, is), is)
of-none t left (suc k, since, within, is) = absurd (omega (arith, within))

left-only : LeavesOnly host_model opened_log begun_log (IsBeforeOrAfter [] first_epoch)
left-only = record {
  later = omega arith;
  each = λ left held. ⊎_elim (λ early. inl (of-none 0 left early).1) (λ late. inr late) (of-new 0 left held);
  before = λ t left le held. ⊎_elim (λ early. inl early) (λ late. inr (inr late)) (of-new t left held);
  keeps = λ t left le held. (of-none t left held).0;
}

adds-epoch : Adds host_model opened_log begun_log first_epoch
adds-epoch = record {
  contents = λ was is. subst (λ (l : Contents). Some (first_epoch ∷ []) ≡ Some (l ++ first_epoch ∷ [])) (some-same is) refl;
  known = refl;
  size = refl;
  limit = refl;
  any_moment = λ was is. subst (λ (l : Contents). LeavesOnly host_model opened_log begun_log (IsBeforeOrAfter l first_epoch)) (some-same is) left-only;
  durable = λ was is left may. may ∙ subst (λ (l : Contents). Some (first_epoch ∷ []) ≡ Some (l ++ first_epoch ∷ [])) (some-same is) refl;
}

starts-first : site_start (setup_of catalog) 0 [] ≡ starts (just_started 1) (epoch_begun 1)
unfolding site_start journal_bytes
starts-first = refl

none-too-many : too_many_in catalog 0 [] ≡ None
unfolding too_many_in
none-too-many = refl

opened-site : HasOpened host_model opened_log 0 catalog (begun begun_log).site
unfolding journal_bytes
opened-site = record {
  contents = [];
  records = [];
  running = just_started 1;
  epoch = 1;
  content = first_epoch;
  read = λ held is. some-same is;
  size = refl;
  spelled = tt;
  narrow = none-too-many;
  starts = starts-first;
  site = refl;
  content_is = spelled-epoch;
  up = record { was_up = refl; is_up = refl; faults = refl };
  log = adds-epoch;
  calls = inr (
    record opened_log { is_read = true },
    (refl, refl),
    inr (record opened_log { is_read = true }, refl, inr (begun_log, (omega arith, refl, refl), (refl, refl))),
  );
}

opened-on : HasOpenedOn config 0 new_file (begun begun_log)
opened-on = record {
  schedule = schedule;
  configured = configures;
  known = omega arith;
  log = opened_log;
  opened_on = record { journal = new-journal; asked = refl; pending = refl; behind_gate = refl; limit_is = refl; up = refl; unread = refl };
  opened = opened-site;
  held = refl;
}

-- The site stands with each log that holds the record.
pub stands : (log : HostState) → contents_of log ≡ first_epoch ∷ [] → log.is_down ≡ false → log.limit ≡ MAX_JOURNAL → Stands (begun log)
unfolding journal_bytes
stands log has up limit = record {
  ready = record {
    intact = let size : size_of (contents_of log) ≡ size_of (first_epoch ∷ []) = ap size_of has in omega (arith, size);
    limit = limit;
    holds = record {
      up = up;
      size = ap size_of has;
      held = λ contents is. subst (SpellRecords begun_records) (sym has ∙ some-same is) (inl spelled-epoch, tt);
    };
  };
  running = just_started 1;
  up = refl;
}

-- ## What happens
pub is-new : IsNew catalog fresh
is-new = record {
  count = refl;
  each = All-cons IsNewStation (record { file = new_file; hosted = None; let_out = []; asked = [] }) [] (record { file = new-journal; gone = refl; silent = refl; unasked = refl }) (All-nil IsNewStation);
}

pub opens : Happens config catalog fresh up
opens = opening-happens config catalog fresh 0 (begun begun_log) (omega arith) refl (stands begun_log refl refl refl) opened-on

has-site : HasSite catalog up 0 (begun begun_log)
has-site = record { known = omega arith; here = refl; me = refl; declared = refl }

pub dies : Happens config catalog up fresh
dies = going-happens config catalog up 0 (begun begun_log) has-site new_file (inl (inl refl))

pub asks-for-record : Happens config catalog up asked
asks-for-record =
    ask-happens config catalog up 0 (begun begun_log) has-site (begun (asked_log false)) 100 (stands (asked_log false) refl refl refl) (record { log = refl; same = refl })

pub writes-record : Happens config catalog asked writing
unfolding big_endian
writes-record =
    write-happens config catalog asked 0 (begun (asked_log false)) (record { known = omega arith; here = refl; me = refl; declared = refl }) (begun (asked_log true))
    (record { place = end_of [] + 1; bytes = framed first_epoch ++ 0 ∷ [] }) (stands (asked_log true) refl refl refl) refl (record { log = refl; same = refl })

torn-gate : Torn 8 1 written_file found_file
unfolding big_endian
torn-gate = record { before = refl; after = refl; no_shorter = omega arith; no_longer = omega arith }

pub dies-writing : Happens config catalog writing found
dies-writing =
    going-happens config catalog writing 0 (begun (asked_log true)) (record { known = omega arith; here = refl; me = refl; declared = refl }) found_file
    (inl (inr (record { place = 8; bytes = 1 ∷ [] }, refl, torn-gate)))

pub found-journal : IsJournal (first_epoch ∷ []) found_file
unfolding big_endian
found-journal = record {
  short = All-cons (λ (c : List ℕ). length c < 2 ^ 32) first_epoch [] (omega arith) (All-nil (λ (c : List ℕ). length c < 2 ^ 32));
  gate = 0;
  rest = [];
  closed = λ is. absurd (omega (arith, is));
  is = refl;
}

-- ## What the law says of it
module _ (one_record : (entry other : Record) (bytes : List ℕ) → IsReadAs entry bytes → IsReadAs other bytes → entry ≡ other)
    (one_journal : (bytes : List ℕ) (contents others : Contents) → IsJournal contents bytes → IsJournal others bytes → contents ≡ others) where
  pub one-epoch : (records : List Record) → SpellRecords records (first_epoch ∷ []) → records ≡ begun_records
  one-epoch [] spelled = absurd spelled
  one-epoch (entry ∷ []) spelled = ap (λ (r : Record). r ∷ []) (one_record entry (epoch_begun 1) first_epoch spelled.0 (inl spelled-epoch))
  one-epoch (entry ∷ other ∷ records) spelled = absurd spelled.1

  -- The world's site has the record that is found, and is down.
  holds-epoch : (site : Site) → HoldsSite found_file site → (site.records ≡ begun_records) × (site.running ≡ None)
  holds-epoch site (inl (contents, journal, spelled, down)) =
      (one-epoch site.records (subst (SpellRecords site.records) (one_journal found_file contents (first_epoch ∷ []) journal found-journal) spelled), down)
  holds-epoch site (inr (journal, first)) = let wrong : [] ≡ first_epoch ∷ [] = one_journal found_file [] (first_epoch ∷ []) journal found-journal in absurd cc

  module _ (new : IsMirrored (setup_of catalog) fresh [])
      (goes_on : (d later : Deployment) (events : List Event) → IsMirrored (setup_of catalog) d events → Happens config catalog d later
      → (more : List Event) × IsMirrored (setup_of catalog) later (events ++ more)) where
    pub mirrored-writing : (events : List Event) × IsMirrored (setup_of catalog) writing events
    mirrored-writing =
        let first = goes_on fresh up [] new opens in
        let second = goes_on up fresh ([] ++ first.0) first.1 dies in
        let third = goes_on fresh up (([] ++ first.0) ++ second.0) second.1 opens in
        let fourth = goes_on up asked ((([] ++ first.0) ++ second.0) ++ third.0) third.1 asks-for-record in
        let fifth = goes_on asked writing (((([] ++ first.0) ++ second.0) ++ third.0) ++ fourth.0) fourth.1 writes-record in
        ((((([] ++ first.0) ++ second.0) ++ third.0) ++ fourth.0) ++ fifth.0, fifth.1)

    pub mirrored-found : ((events : List Event) → IsMirrored (setup_of catalog) found events → HoldsSite found_file (site_at (world_of (setup_of catalog) events) 0))
        → (events : List Event) × IsMirrored (setup_of catalog) found events
        × ((site_at (world_of (setup_of catalog) events) 0).records ≡ begun_records) × ((site_at (world_of (setup_of catalog) events) 0).running ≡ None)
    mirrored-found holds =
        let before = mirrored-writing in
        let last = goes_on writing found before.0 before.1 dies-writing in
        let held = holds-epoch (site_at (world_of (setup_of catalog) (before.0 ++ last.0)) 0) (holds (before.0 ++ last.0) last.1) in
        (before.0 ++ last.0, last.1, held.0, held.1)
