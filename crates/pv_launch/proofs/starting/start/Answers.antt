-- Both, one after the other.
use Rattle.pv_launch.proofs.StartLemmas.{begun-then, not-prepared}
use Rattle.pv_launch.proofs.starting.start.Goals as goal

pub returns-in-Ok : goal.returns-in-Ok
returns-in-Ok g c =
    begun-then g.D.Disk.model c.args.site.0 c.args.catalog.now c.args.disk c.in-Ok.disk c.in-Ok.ensures c.requires.empty c.opened.result c.opened.ensures

pub returns-in-Err : goal.returns-in-Err
returns-in-Err g c = not-prepared g.D.Disk.model c.args.site.0 c.args.catalog.now c.args.disk c.in-Err.why c.in-Err.ensures
