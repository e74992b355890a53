-- The disks of the sites so far are upgraded, and back.
use Rattle.std.proofs.Common.{◌≡◌}
use Rattle.pv_show.specs.Bays.{IsAtRest}
use Rattle.pv_upgrade.specs.Upgrading.{KeepsDisks, UpgradesFirst}
use Rattle.pv_upgrade.proofs.sites.upgrade.Given as goal

abbrev pub invariant-loop-site : goal.invariant-loop-site
invariant-loop-site g l = record {
  rest : IsAtRest g.B.Bay.model l.bay;
  keeps : KeepsDisks g.B.Bay.model g.B.D.Disk.model l.catalog.sites l.fn.bay l.bay;
  faults : g.B.Bay.model.faults l.bay ≡ g.B.Bay.model.faults l.fn.bay;
  upgraded : UpgradesFirst g.B.Bay.model g.B.D.Disk.model l.catalog.journal l.site l.fn.bay l.bay l.text.items;
}
