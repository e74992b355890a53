-- What is made of disks that are empty, since they were taken.
use Rattle.std.proofs.Common.{◌∙◌, arith}
use Rattle.pv_launch.proofs.DiskLemmas.{all-empty, as-many, begins-since}
use Rattle.pv_launch.proofs.beginning.ask_and_begin.Goals as goal

pub begin_all-requires-clause-few : goal.begin_all-requires-clause-few
begin_all-requires-clause-few g c =
    let same = as-many g.D.Disk.model c.args.catalog.now c.args.disks.items c.in-Ok.disks.items (c.in-Ok.ensures c.args.catalog.now) in
    omega (arith, same, c.requires.few)

pub begin_all-requires-clause-count : goal.begin_all-requires-clause-count
begin_all-requires-clause-count g c =
    as-many g.D.Disk.model c.args.catalog.now c.args.disks.items c.in-Ok.disks.items (c.in-Ok.ensures c.args.catalog.now) ∙ c.requires.count

pub begin_all-requires-clause-empty : goal.begin_all-requires-clause-empty
begin_all-requires-clause-empty g c = all-empty g.D.Disk.model c.args.catalog.now c.args.disks.items c.in-Ok.disks.items (c.in-Ok.ensures c.args.catalog.now)

pub returns-in-Ok : goal.returns-in-Ok
returns-in-Ok g c =
    begins-since g.D.Disk.model c.args.catalog.now c.args.disks.items c.in-Ok.disks.items (c.in-Ok.ensures c.args.catalog.now) c.begin_all.result c.begin_all.ensures

pub returns-in-Err : goal.returns-in-Err
returns-in-Err g c = c.in-Err.ensures c.args.catalog.now
