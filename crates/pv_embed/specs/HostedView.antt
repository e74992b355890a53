-- What the fields of a site with a host say.
use Rattle.std.specs.Prelude.{◌≡◌, ◌≢◌, ◌≤◌, ◌<◌, [], Some, All, length}
use Rattle.std.specs.List.{flat_map}
use Rattle.pv_disk_model.specs.Size.{size_of}
use Rattle.pv_protocol.specs.State.{Running}
use Rattle.pv_site.specs.Steps.{IsReady}
use Rattle.pv_host.specs.HostLaws.{host_model}
use Rattle.pv_embed.specs.Hosted.{HostedState, log_length}
use Rattle.pv_embed.specs.Outputs.{AreSpelled, held_of, outputs_of}
use Rattle.pv_embed.specs.declared.hosted.HostedSite.TheInside.{Inside}

abbrev pub hosted_of : Inside → HostedState
hosted_of inside = record { site = inside.site; held = flat_map (held_of inside.me.0) inside.made.items }

-- A step can begin, and the site is up. The numbers are the site's; of each step something is held, and the log was no longer then than it is now. Each message that
-- is held has a spelling.
pub record IsHosted (inside : Inside) : Type 0 where
  pub ready : IsReady host_model inside.site
  pub running : Running
  pub up : inside.site.running ≡ Some running
  pub me : inside.site.me ≡ inside.me.0
  pub site : inside.me.0 < inside.catalog.sites
  pub catalog : inside.site.catalog ≡ inside.catalog
  pub stored : inside.stored ≡ size_of inside.site.log.stored
  pub records : inside.records ≡ length inside.site.log.stored
  pub some : All (λ made. outputs_of inside.me.0 made ≢ []) inside.made.items
  pub no_longer : All (λ made. made.length ≤ log_length (hosted_of inside)) inside.made.items
  pub spelled : AreSpelled (hosted_of inside).held
