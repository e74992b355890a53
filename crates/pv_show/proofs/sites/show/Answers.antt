-- One more site is shown, or one that isn't has its disk back.
use Rattle.std.proofs.Common.{◌∙◌, refl, arith}
use Rattle.pv_show.specs.Bays.{none}
use Rattle.pv_show.proofs.ReadLemmas.{UsesDisks-trans}
use Rattle.pv_show.proofs.ShowLemmas.{one-more-site}
use Rattle.pv_show.proofs.sites.show.Goals as goal

pub loop-site-init : goal.loop-site-init
loop-site-init g c = record { rest = c.requires.rest; reads = none; faults = refl; shown = (refl, c.new-text.ensures.items) }

pub returns-in_err-show_site-clause-reads : goal.returns-in_err-show_site-clause-reads
returns-in_err-show_site-clause-reads g c =
    UsesDisks-trans g.B.Bay.model g.B.D.Disk.model c.args.catalog.now.sites c.args.bay.now c.loop-site.bay c.show_site.new.bay c.loop-site.invariant.reads
    (c.in_err-show_site.ensures.reads c.args.catalog.now.sites (omega (arith, c.loop-site-test.true, c.sites-site-end.ensures.count)))

pub loop-site-preserved : goal.loop-site-preserved
loop-site-preserved g c = record {
  rest = c.in_ok-show_site.ensures.rest;
  reads = UsesDisks-trans g.B.Bay.model g.B.D.Disk.model c.args.catalog.now.sites c.args.bay.now c.loop-site.bay c.show_site.new.bay c.loop-site.invariant.reads
      (c.in_ok-show_site.ensures.reads c.args.catalog.now.sites (omega (arith, c.loop-site-test.true, c.sites-site-end.ensures.count)));
  faults = c.in_ok-show_site.ensures.faults ∙ c.loop-site.invariant.faults;
  shown = one-more-site g.B.Bay.model g.B.D.Disk.model c.args.catalog.now c.loop-site.site c.args.bay.now c.loop-site.bay c.show_site.new.bay c.loop-site.text.items c.show_site.new.text.items
      c.loop-site.invariant.shown c.in_ok-show_site.ensures.text;
}
