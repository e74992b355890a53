-- How a site is opened on its host's file, and why it isn't.
use Rattle.std.proofs.Common.{◌≡◌, ◌==◌, ℕ, ◌<◌, true, List, [], ◌∷◌, ◌++◌, Err, map, length, vec_len, refl, sym, ap, ◌∙◌, subst, append-nil, arith}
use Rattle.std.specs.Prelude.{IfSome}
use Rattle.std.proofs.lemmas.Bool.{eqb-true}
use Rattle.pv_disk.specs.declared.disk_error.LookError.{LookError}
use Rattle.pv_disk.specs.declared.disk_error.LookError.TheVariants.{NotOurs}
use Rattle.pv_journal.specs.Opening.{place_in}
use Rattle.pv_disk_model.specs.Size.{Contents}
use Rattle.pv_format.specs.Journal.{IsJournal, IsNotOurs}
use Rattle.pv_model.specs.Events as model
use Rattle.pv_script.specs.ScheduleView.{event_of}
use Rattle.pv_script.specs.declared.schedule.Event.{Event}
use Rattle.pv_script.specs.declared.schedule.Schedule.{Schedule}
use Rattle.pv_host.specs.HostLog.{HostState, contents_of}
use Rattle.pv_host.specs.HostWrites.{IsOpenedOn}
use Rattle.pv_embed.specs.Opening.{Configures, OpensHosted, RefusesContents}
use Rattle.pv_embed.specs.declared.fault.OpenFault.{OpenFault}
use Rattle.pv_embed.specs.declared.fault.OpenFault.TheVariants as fault

-- All that a log holds that has just been opened on a file stands in the file.
pub journal_opened : (file : List ℕ) (limit : ℕ) (log : HostState) → IsOpenedOn file limit log → IsJournal (contents_of log) file
journal_opened file limit log opened =
    subst (λ (contents : Contents). IsJournal contents file) (sym (ap (λ (l : Contents). log.stored ++ (l ++ log.pending)) opened.asked ∙ ap (λ (l : Contents). log.stored ++ l) opened.pending ∙ append-nil log.stored)) opened.journal

-- What is refused for the contents of the file is refused.
pub refused_on : (config : List ℕ) (me : ℕ) (file : List ℕ) (schedule : model.Schedule) (contents : Contents) (reason : OpenFault) → Configures config schedule
    → me < schedule.catalog.sites → IsJournal contents file → RefusesContents schedule.catalog me contents reason → OpensHosted config me file (Err reason)
refused_on config me file schedule contents fault.TooLong configured known journal refuses = absurd refuses
refused_on config me file schedule contents (fault.Malformed line cause) configured known journal refuses = absurd refuses
refused_on config me file schedule contents fault.HasEvents configured known journal refuses = absurd refuses
refused_on config me file schedule contents fault.NoSite configured known journal refuses = absurd refuses
refused_on config me file schedule contents (fault.NotOurs place) configured known journal refuses = absurd refuses
refused_on config me file schedule contents (fault.BadRecord index) configured known journal refuses = (schedule, configured, known, (contents, journal, refuses))
refused_on config me file schedule contents (fault.TooManyOutcomes count) configured known journal refuses = (schedule, configured, known, (contents, journal, refuses))
refused_on config me file schedule contents fault.EpochsSpent configured known journal refuses = (schedule, configured, known, (contents, journal, refuses))
refused_on config me file schedule contents (fault.Full length) configured known journal refuses = (schedule, configured, known, (contents, journal, refuses))
refused_on config me file schedule contents fault.NoMemory configured known journal refuses = tt

-- The place where it shows that a file is no journal.
pub not_ours : (file : List ℕ) (error : LookError) (place : ℕ) → error ≡ NotOurs place → IfSome (place_in error) (IsNotOurs file) → IsNotOurs file place
not_ours file error place is refused = subst (λ (e : LookError). IfSome (place_in e) (IsNotOurs file)) is refused

-- Nothing happens where there is no event.
none_of : (events : List Event) → length events ≡ 0 → map event_of events ≡ []
none_of [] none = refl
none_of (event ∷ events) none = absurd (omega (arith, none))

pub no_events : (schedule : Schedule) → true ≡ (vec_len schedule.events == 0) → map event_of schedule.events.items ≡ []
no_events schedule empty =
    let none : vec_len schedule.events ≡ 0 = eqb-true (vec_len schedule.events) 0 (sym empty) in
    none_of schedule.events.items (omega (arith, none, schedule.events.ok.0))
