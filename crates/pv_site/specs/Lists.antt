-- What is said of a site over a log in memory.
use Rattle.std.specs.Prelude.{Result, Ok, Err, ⊤}
use Rattle.pv_site.specs.Opens.{log_in}
use Rattle.pv_site.specs.SiteState.{SiteState}
use Rattle.pv_site.specs.declared.error.OpenError.{OpenError}
use Rattle.pv_site.specs.declared.error.OpenError.TheVariants.{Failed, NotOurs}
use Rattle.pv_site.specs.declared.error.StepError.{StepError}
use Rattle.pv_site.specs.declared.error.StepError.TheVariants.{Fault}

-- the log of the site that was opened, or the one that comes back
abbrev pub log_after : {W : Type 0} → Result (SiteState W) (OpenError W) → W
log_after (Ok site) = site.log
log_after (Err refused) = log_in refused

-- The step isn't answered by a fault.
abbrev pub HasNoFault : {X : Type 0} → Result X StepError → Type 0
HasNoFault (Err Fault) = ⊥
HasNoFault _ = ⊤

-- The opening isn't answered by a failure of the log, nor by one that holds what isn't a log's.
abbrev pub IsReadable : {X W : Type 0} → Result X (OpenError W) → Type 0
IsReadable (Err (Failed log)) = ⊥
IsReadable (Err (NotOurs log place)) = ⊥
IsReadable _ = ⊤
