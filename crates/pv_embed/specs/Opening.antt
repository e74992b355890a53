-- How a site with a host is opened.
use Rattle.std.specs.Prelude.{◌≡◌, ◌≢◌, ℕ, ◌<◌, ◌≤◌, false, List, [], Some, None, Result, Ok, Err, length, ⊤}
use Rattle.pv_base.specs.Catalog.{Declared}
use Rattle.pv_format.specs.Contents.{IsFirstBadContent, SpellRecords}
use Rattle.pv_format.specs.Record.{Record}
use Rattle.pv_disk_model.specs.Size.{Contents}
use Rattle.pv_format.specs.Journal.{IsJournal, IsNotOurs}
use Rattle.pv_model.specs.Events as model
use Rattle.pv_model.specs.Schedule.{IsSchedule}
use Rattle.pv_protocol.specs.Start.{site_start, too_long, no_epoch}
use Rattle.pv_script.specs.ScriptErrors.{IsMalformedAt, line_cause_of}
use Rattle.pv_base.specs.declared.limits.TheConstants.{MAX_INPUT}
use Rattle.pv_site.specs.Opens.{HasOpened}
use Rattle.pv_site.specs.Surplus.{surplus_of}
use Rattle.pv_site.specs.SiteState.{setup_of}
use Rattle.pv_store.specs.Refusals.{too_many_in}
use Rattle.pv_host.specs.HostLaws.{host_model}
use Rattle.pv_host.specs.HostLog.{HostState}
use Rattle.pv_host.specs.HostWrites.{IsOpenedOn}
use Rattle.pv_embed.specs.Hosted.{HostedState}
use Rattle.pv_embed.specs.declared.fault.OpenFault.{OpenFault}
use Rattle.pv_embed.specs.declared.fault.OpenFault.TheVariants as fault

-- The log isn't down, and was neither read nor added to.
abbrev pub IsUnread : HostState → Type 0
IsUnread log = (log.is_down ≡ false) × (log.is_read ≡ false)

-- The configuration declares this catalog, nothing happens in it, and it isn't too long.
abbrev pub Configures : List ℕ → model.Schedule → Type 0
Configures config schedule = IsSchedule config schedule × (schedule.events ≡ []) × (length config ≤ MAX_INPUT)

-- The site is open, and holds nothing: it went on from the journal's records, over a log on the host's file.
pub record HasOpenedOn (config : List ℕ) (me : ℕ) (file : List ℕ) (hosted : HostedState) : Type 0 where
  pub schedule : model.Schedule
  pub configured : Configures config schedule
  pub known : me < schedule.catalog.sites
  pub log : HostState
  pub opened_on : IsOpenedOn file schedule.catalog.journal log
  pub opened : HasOpened host_model log me schedule.catalog hosted.site
  pub held : hosted.held ≡ []

-- Why a site of this catalog isn't opened on contents, by the fault.
abbrev pub RefusesContents : Declared → ℕ → Contents → OpenFault → Type 0
RefusesContents catalog me contents (fault.BadRecord index) = IsFirstBadContent contents index
RefusesContents catalog me contents (fault.TooManyOutcomes count) =
    (records : List Record) × SpellRecords records contents × (too_many_in catalog me records ≡ Some count)
RefusesContents catalog me contents fault.EpochsSpent =
    (records : List Record) × SpellRecords records contents × (too_many_in catalog me records ≡ None) × (site_start (setup_of catalog) (surplus_of contents records) records ≡ no_epoch)
RefusesContents catalog me contents (fault.Full length) =
    (records : List Record) × SpellRecords records contents × (too_many_in catalog me records ≡ None) × (site_start (setup_of catalog) (surplus_of contents records) records ≡ too_long length)
RefusesContents catalog me contents fault.NoMemory = ⊤
RefusesContents catalog me contents other = ⊥

-- The configuration and the site are right, and the file is a journal, with contents on which the site isn't opened.
abbrev pub RefusesJournal : List ℕ → ℕ → List ℕ → OpenFault → Type 0
RefusesJournal config me file reason =
    (schedule : model.Schedule) × Configures config schedule × (me < schedule.catalog.sites)
    × ((contents : Contents) × IsJournal contents file × RefusesContents schedule.catalog me contents reason)

-- An opening, by its answer. Each cause excludes those that are tested before it.
abbrev pub OpensHosted : List ℕ → ℕ → List ℕ → Result HostedState OpenFault → Type 0
OpensHosted config me file (Ok hosted) = HasOpenedOn config me file hosted
OpensHosted config me file (Err fault.NoMemory) = ⊤
OpensHosted config me file (Err fault.TooLong) = MAX_INPUT < length config
OpensHosted config me file (Err (fault.Malformed line cause)) =
    IsMalformedAt config (record { number = line; cause = line_cause_of cause }) × (length config ≤ MAX_INPUT)
OpensHosted config me file (Err fault.HasEvents) =
    (schedule : model.Schedule) × IsSchedule config schedule × (schedule.events ≢ []) × (length config ≤ MAX_INPUT)
OpensHosted config me file (Err fault.NoSite) = (schedule : model.Schedule) × Configures config schedule × (schedule.catalog.sites ≤ me)
OpensHosted config me file (Err (fault.NotOurs place)) =
    (schedule : model.Schedule) × Configures config schedule × (me < schedule.catalog.sites) × IsNotOurs file place
OpensHosted config me file (Err reason) = RefusesJournal config me file reason
