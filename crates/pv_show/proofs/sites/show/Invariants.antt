-- The disks of the sites so far are shown, and back.
use Rattle.std.proofs.Common.{◌≡◌}
use Rattle.pv_show.specs.Bays.{IsAtRest, OnlyReadsDisks}
use Rattle.pv_show.specs.Showing.{ShowsFirst}
use Rattle.pv_show.proofs.sites.show.Given as goal

abbrev pub invariant-loop-site : goal.invariant-loop-site
invariant-loop-site g l = record {
  rest : IsAtRest g.B.Bay.model l.bay;
  reads : OnlyReadsDisks g.B.Bay.model g.B.D.Disk.model l.catalog.sites l.fn.bay l.bay;
  faults : g.B.Bay.model.faults l.bay ≡ g.B.Bay.model.faults l.fn.bay;
  shown : ShowsFirst g.B.Bay.model g.B.D.Disk.model l.catalog l.site l.fn.bay l.bay l.text.items;
}
