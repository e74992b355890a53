-- What a host asks of its site, which changes nothing.
use Rattle.std.specs.Prelude.{◌≡◌, ◌<◌, ◌≤◌, ◌^◌, ◌-◌, min, ℕ, List, Option, Some, None}
use Rattle.pv_base.specs.Catalog.{Item}
use Rattle.pv_embed.specs.Hosted.{HostedState, log_length, stored_length, stored_records}
use Rattle.pv_handle.specs.Given.{GivesBytes}
use Rattle.pv_handle.specs.declared.given.Given.{Given}
use Rattle.pv_handle.specs.declared.given.Given.TheVariants.{Nothing}
use Rattle.pv_handle.specs.declared.info.SiteInfo.{SiteInfo}

-- The item's name is given, with the site that the item is at; or there is no such item.
abbrev pub GivesItem : Option Item → List ℕ → List ℕ → Given → Type 0
GivesItem None room out given = (given ≡ Nothing) × (out ≡ room)
GivesItem (Some item) room out given = GivesBytes item.name item.site room out given

-- How long the journal is in the host's file, how long it is once all is written, and how long it may become. The epoch is told only where all of the site's log is
-- in the host's file, so that no crash undoes it; and is 0 elsewhere. As many records are told as are in the host's file, or u32's greatest value where there are more.
pub record Informs (hosted : HostedState) (info : SiteInfo) : Type 0 where
  pub stored : info.stored ≡ stored_length hosted
  pub asked : info.asked ≡ log_length hosted
  pub limit : info.limit ≡ hosted.site.catalog.journal
  pub epoch : log_length hosted ≤ stored_length hosted → info.epoch ≡ hosted.site.epoch
  pub untold : stored_length hosted < log_length hosted → info.epoch ≡ 0
  pub records : info.records ≡ min (stored_records hosted) (2 ^ 32 - 1)
