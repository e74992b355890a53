-- How an outbox with a host is opened.
use Rattle.std.specs.Prelude.{◌≡◌, ℕ, true, false, List, [], Result, Ok, Err, ⊤}
use Rattle.pv_base.specs.declared.limits.TheConstants.{MAX_JOURNAL}
use Rattle.pv_disk_model.specs.Calls.{read_all}
use Rattle.pv_disk_model.specs.Size.{Contents}
use Rattle.pv_format.specs.Journal.{IsJournal, IsNotOurs}
use Rattle.pv_host.specs.HostLaws.{host_model}
use Rattle.pv_host.specs.HostLog.{HostGoes, HostState}
use Rattle.pv_host.specs.HostWrites.{IsOpenedOn}
use Rattle.pv_outbox.specs.Opens.{HasOpened}
use Rattle.pv_outbox.specs.Spelling.{IsFirstBadContent}
use Rattle.pv_embed_outbox.specs.Hosted.{HostedState}
use Rattle.pv_embed_outbox.specs.declared.fault.OpeningFault.{OpeningFault}
use Rattle.pv_embed_outbox.specs.declared.fault.OpeningFault.TheVariants as fault

-- The log isn't down, and was neither read nor added to.
abbrev pub IsUnread : HostState → Type 0
IsUnread log = (log.is_down ≡ false) × (log.is_read ≡ false)

-- The outbox is open, and nothing is released: it stands for the journal's records, over a log on the host's file.
pub record HasOpenedOn (file : List ℕ) (hosted : HostedState) : Type 0 where
  pub log : HostState
  pub opened_on : IsOpenedOn file MAX_JOURNAL log
  pub opened : HasOpened host_model log hosted.outbox
  pub read : HostGoes log read_all true hosted.outbox.log
  pub released : hosted.released ≡ []

-- Why an outbox isn't opened on contents, by the fault.
abbrev pub RefusesContents : Contents → OpeningFault → Type 0
RefusesContents contents (fault.BadRecord index) = IsFirstBadContent contents index
RefusesContents contents fault.NoMemory = ⊤
RefusesContents contents (fault.NotOurs place) = ⊥

-- An opening, by its answer.
abbrev pub OpensHosted : List ℕ → Result HostedState OpeningFault → Type 0
OpensHosted file (Ok hosted) = HasOpenedOn file hosted
OpensHosted file (Err (fault.NotOurs place)) = IsNotOurs file place
OpensHosted file (Err (fault.BadRecord index)) = (contents : Contents) × IsJournal contents file × IsFirstBadContent contents index
OpensHosted file (Err fault.NoMemory) = ⊤
