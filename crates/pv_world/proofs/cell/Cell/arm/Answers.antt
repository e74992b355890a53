use Rattle.std.proofs.Common.{Some}
use Rattle.pv_world.proofs.ArmLemmas.{up-lent}
use Rattle.pv_world.proofs.CellLemmas.{is-up}
use Rattle.pv_world.proofs.cell.Cell.arm.Goals as goal

pub returns-in-Up : goal.returns-in-Up
returns-in-Up c = λ catalog n is stands.
    up-lent catalog n is (Some (record { call = c.args.k; mode = c.args.mode; stops = c.args.stop })) c.in-Up.up c.log.result.now c.disk.result.now c.arm.new.self
    c.log.ensures.value c.disk.ensures.value c.arm.ensures (is-up catalog n c.args.self.now c.in-Up.up is c.in-Up.is stands)
