-- One more site is upgraded, or one that isn't has its disk back.
use Rattle.std.proofs.Common.{◌≡◌, ℕ, List, ◌++◌, ◌∙◌, refl, subst, arith}
use Rattle.pv_show.specs.Bays.{none}
use Rattle.pv_upgrade.proofs.SiteLemmas.{one-more-site}
use Rattle.pv_upgrade.specs.Upgrading.{UpgradesSite}
use Rattle.pv_upgrade.proofs.sites.upgrade.Goals as goal

pub loop-site-init : goal.loop-site-init
loop-site-init g c = record { rest = c.requires.rest; keeps = none; faults = refl; upgraded = (refl, c.new-text.ensures.items) }

pub returns-in_err-upgrade_site-clause-keeps : goal.returns-in_err-upgrade_site-clause-keeps
returns-in_err-upgrade_site-clause-keeps g c =
    c.in_err-upgrade_site.ensures.keeps c.args.catalog.now.sites c.args.bay.now (omega (arith, c.loop-site-test.true, c.sites-site-end.ensures.count)) c.loop-site.invariant.keeps

pub loop-site-preserved : goal.loop-site-preserved
loop-site-preserved g c = record {
  rest = c.in_ok-upgrade_site.ensures.rest;
  keeps = c.in_ok-upgrade_site.ensures.keeps c.args.catalog.now.sites c.args.bay.now (omega (arith, c.loop-site-test.true, c.sites-site-end.ensures.count)) c.loop-site.invariant.keeps;
  faults = c.in_ok-upgrade_site.ensures.faults ∙ c.loop-site.invariant.faults;
  upgraded = one-more-site g.B.Bay.model g.B.D.Disk.model c.args.catalog.now.journal c.loop-site.site c.args.bay.now c.loop-site.bay c.upgrade_site.new.bay c.loop-site.text.items
      c.upgrade_site.new.text.items c.loop-site.invariant.upgraded
      (subst
      (λ (n : ℕ). (part : List ℕ) × (c.upgrade_site.new.text.items ≡ c.loop-site.text.items ++ part)
      × UpgradesSite g.B.Bay.model g.B.D.Disk.model n c.loop-site.bay c.upgrade_site.new.bay c.loop-site.site part)
      c.journal-limit.ensures.limit c.in_ok-upgrade_site.ensures.text);
}
