-- How a site lends its log.
use Rattle.pv_site.specs.SiteState.{SiteState}

-- the site with this log in place of its own
abbrev pub with_log : {W : Type 0} → SiteState W → W → SiteState W
with_log site lent = record site { log = lent }
