-- What is so of a site between any two calls.
use Rattle.std.specs.Prelude.{◌≡◌, Some}
use Rattle.pv_host.specs.HostLaws.{host_model}
use Rattle.pv_protocol.specs.State.{Running}
use Rattle.pv_site.specs.Steps.{IsReady}
use Rattle.pv_handle.specs.ByteState.{ByteState}

-- The site is up, and its log holds its records.
abbrev pub StandsReady : ByteState → Type 0
StandsReady site = IsReady host_model site.hosted.site × ((running : Running) × (site.hosted.site.running ≡ Some running))
