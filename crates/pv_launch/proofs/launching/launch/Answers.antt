-- All sites run, or all disks are back.
use Rattle.std.proofs.Common.{arith}
use Rattle.pv_launch.proofs.BayLemmas.{launched-so, left-out, refused-so}
use Rattle.pv_launch.proofs.launching.launch.Goals as goal

pub returns-in-Ok : goal.returns-in-Ok
returns-in-Ok g c = launched-so g.B.Bay.model g.B.D.Disk.model c.args.catalog.now c.args.bay.now c.brought.new.bay c.in-Ok.sites c.in-Ok.ensures.brings

pub back_all-requires-clause-few : goal.back_all-requires-clause-few
back_all-requires-clause-few g c =
    let few = (left-out g.B.Bay.model g.B.D.Disk.model c.args.catalog.now c.args.bay.now c.brought.new.bay c.in-Err.field-0 c.in-Err.ensures.brings).0 in
    omega (arith, few, c.in-Err.ensures.few)

pub back_all-requires-clause-out : goal.back_all-requires-clause-out
back_all-requires-clause-out g c = (left-out g.B.Bay.model g.B.D.Disk.model c.args.catalog.now c.args.bay.now c.brought.new.bay c.in-Err.field-0 c.in-Err.ensures.brings).1

pub returns-in-Err : goal.returns-in-Err
returns-in-Err g c =
    refused-so g.B.Bay.model g.B.D.Disk.model c.args.catalog.now c.args.bay.now c.brought.new.bay c.back_all.new.bay c.in-Err.field-0 c.in-Err.ensures.brings c.back_all.ensures
