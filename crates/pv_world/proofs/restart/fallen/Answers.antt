use Rattle.std.proofs.Common.{◌++◌, Bool, Option}
use Rattle.std.specs.Prelude.{option_to_list}
use Rattle.pv_protocol.specs.State.{Arm}
use Rattle.pv_world.proofs.restart.fallen.Goals as goal
use Rattle.pv_world.specs.Cells.{CanBeRead}

pub down-requires-clause-readable : goal.down-requires-clause-readable
down-requires-clause-readable c =
    let read : (armed : Option Arm) × (fired : Option Bool) × CanBeRead c.args.left armed fired c.args.disk = c.requires.readable in
    let (added, standing, spells, replayable, plain) = read.2 in
    (added, standing, (c.in_ok-disk.ensures (c.args.left.records ++ option_to_list added) standing read.0 read.1 spells).1, replayable, plain)

pub returns : goal.returns
returns c = λ added standing armed fired spells.
    let mends = c.in_ok-disk.ensures (c.args.left.records ++ option_to_list added) standing armed fired spells in
    (mends.0, c.in_ok-cell.ensures added standing mends.1)
