-- Several sites with hosts, each with its file, and what they have let out.
use Rattle.std.specs.Prelude.{◌≡◌, ℕ, Option, None, List, [], get_or, set, length, All}
use Rattle.std.specs.List.{Contains}
use Rattle.pv_base.specs.Catalog.{Declared}
use Rattle.pv_format.specs.Journal.{IsJournal}
use Rattle.pv_format.specs.Message.{Envelope}
use Rattle.pv_embed.specs.Held.{Out, message}
use Rattle.pv_embed.specs.Hosted.{HostedState}
use Rattle.pv_law_hosted.specs.Asked.{Asked}

-- A site's file; the site on it, while its process is there; all that its processes have let out, the oldest first; and what they were asked to run, with the numbers
-- that they gave to it.
pub record Station : Type 0 where
  pub file : List ℕ
  pub hosted : Option HostedState
  pub let_out : List Out
  pub asked : List Asked

-- a station that isn't there
abbrev pub no_station : Station
no_station = record { file = []; hosted = None; let_out = []; asked = [] }

-- the stations of all sites, by the sites' numbers
abbrev pub Deployment : Type 0
Deployment = List Station

-- the station of this number
abbrev pub station_at : Deployment → ℕ → Station
station_at d n = get_or d n no_station

-- the deployment with this station in the place of the one of this number
abbrev pub with_station : Deployment → ℕ → Station → Deployment
with_station d n station = set d n station

-- Some station has let this message out. So it may come to its receiver: now or later, once, more often or never, whatever came before it.
abbrev pub IsCarried : Deployment → Envelope → Type 0
IsCarried d envelope = (n : ℕ) × Contains (station_at d n).let_out (message envelope)

-- The file is a journal without records, and there was no process yet.
pub record IsNewStation (station : Station) : Type 0 where
  pub file : IsJournal [] station.file
  pub gone : station.hosted ≡ None
  pub silent : station.let_out ≡ []
  pub unasked : station.asked ≡ []

-- A deployment of this catalog in which nothing has happened.
pub record IsNew (catalog : Declared) (d : Deployment) : Type 0 where
  pub count : length d ≡ catalog.sites
  pub each : All IsNewStation d
