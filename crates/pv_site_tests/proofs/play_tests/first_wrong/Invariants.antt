-- The site is ready, and the same one.
use Rattle.std.proofs.Common.{◌≡◌}
use Rattle.pv_disk.specs.ListLaws.{list_model}
use Rattle.pv_site.specs.Steps.{IsReady}
use Rattle.pv_site_tests.proofs.play_tests.first_wrong.Given as goal

abbrev pub invariant-loop-number : goal.invariant-loop-number
invariant-loop-number l = IsReady list_model l.site × (l.site.me ≡ l.me.0) × (l.site.catalog ≡ l.catalog)
