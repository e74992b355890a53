-- What is told of a site whose log was to be upgraded.
use Rattle.std.specs.Prelude.{ℕ, List, codes}
use Rattle.pv_show.specs.SiteText.{failure_text, refusal_text, word_text}
use Rattle.pv_upgrade.specs.declared.told.Upgrade.{Upgrade}
use Rattle.pv_upgrade.specs.declared.told.Upgrade.TheVariants.{Upgraded, Full, Spent, NotOurs, BadRecord, Failed}

-- the line of a site
abbrev pub upgrade_text : ℕ → Upgrade → List ℕ
upgrade_text site (Upgraded count) = refusal_text site (codes "upgraded") count
upgrade_text site (Full length) = refusal_text site (codes "full") length
upgrade_text site Spent = word_text site (codes "spent")
upgrade_text site (NotOurs place) = refusal_text site (codes "not-ours") place
upgrade_text site (BadRecord index) = refusal_text site (codes "bad-record") index
upgrade_text site Failed = failure_text site
