-- One site alone, over calls, processes and openings, each under some configuration.
use Rattle.std.specs.Prelude.{◌≡◌, ℕ, ◌≤◌, Option, Some, None, List}
use Rattle.pv_base.specs.Catalog.{Declared}
use Rattle.pv_disk_model.specs.Size.{Contents}
use Rattle.pv_format.specs.Contents.{greatest_epoch}
use Rattle.pv_format.specs.Journal.{IsJournal}
use Rattle.pv_protocol.specs.State.{Running}
use Rattle.pv_host.specs.HostFile.{IsFile}
use Rattle.pv_embed.specs.Hosted.{HostedState}
use Rattle.pv_law_hosted.specs.Deployment.{Deployment, Station}
use Rattle.pv_law_hosted.specs.DeploymentEvents.{HappensAt, Stands}

-- What becomes of the station of this number by what may happen to it, once and again: each time under some configuration and catalog, among some other stations.
pub data GoesOn (n : ℕ) : Station → Station → Type 0 where
  is : (station : Station) → GoesOn n station station
  happens : (config : List ℕ) (catalog : Declared) (d : Deployment) (first next last : Station) → HappensAt config catalog d n first first.hosted next
      → ((site : HostedState) → next.hosted ≡ Some site → Stands site) → GoesOn n next last → GoesOn n first last

-- The site's epoch is among those that its records begin.
abbrev pub IsInRecordedEpoch : HostedState → Type 0
IsInRecordedEpoch hosted = (running : Running) → hosted.site.running ≡ Some running → running.epoch ≤ greatest_epoch hosted.site.records

-- The file is one of the site's log; and the site stands, in an epoch that its records begin.
pub record HasSiteFile (file : List ℕ) (site : HostedState) : Type 0 where
  pub is_file : IsFile site.site.log file
  pub stands : Stands site
  pub epoch : IsInRecordedEpoch site

-- The file is one of the process's site; or a journal, where the process is gone.
abbrev pub IsFileOf : List ℕ → Option HostedState → Type 0
IsFileOf file None = (contents : Contents) × IsJournal contents file
IsFileOf file (Some site) = HasSiteFile file site

-- So it is of the station.
abbrev pub HasFile : Station → Type 0
HasFile station = IsFileOf station.file station.hosted
