use Rattle.std.proofs.Common.{Err, Option, sym, subst}
use Rattle.pv_disk.specs.MemDisk.{MemState}
use Rattle.pv_disk.specs.MemLaws.{mem_model}
use Rattle.pv_ckpt.specs.Opening.{Opens}
use Rattle.pv_ckpt.specs.declared.open_ckpt.OpenCkpt.{OpenCkpt}
use Rattle.pv_protocol.specs.State.{Running}
use Rattle.pv_world.proofs.RestartLemmas.{FailsEarly, is-broken-early, is-ours, is-synced, not-opened, replayable-after, started-down}
use Rattle.pv_world.proofs.restart.started.Goals as goal
use Rattle.pv_world.specs.Cells.{CanStart, HasStarted}
use Rattle.pv_world.specs.declared.cell.Cell.TheVariants.{Down}
use Rattle.pv_world.specs.declared.cell.Start.TheVariants as start

pub opened-requires-clause-replayable : goal.opened-requires-clause-replayable
opened-requires-clause-replayable c =
    let can : CanStart c.args.catalog.now c.args.site.0 (Down c.args.disk c.args.left) = c.requires.replayable in
    record {
      is = can.is;
      synced = is-synced c.args.catalog.now c.args.site.0 c.args.disk c.args.left can.is can.stands c.armed_logs.ensures c.in-Ok.log c.journal.result c.journal.ensures.limit c.in-Ok.ensures;
      replayable = can.replayable;
      after = replayable-after c.args.catalog.now c.args.site.0 c.args.disk c.args.left can;
    }

pub returns-in-Ok : goal.returns-in-Ok
returns-in-Ok c = λ is down.
    started-down c.args.catalog.now c.args.site.0 c.args.disk c.args.left is down c.opened.result
    (c.opened.ensures is (is-synced c.args.catalog.now c.args.site.0 c.args.disk c.args.left is down c.armed_logs.ensures c.in-Ok.log c.journal.result c.journal.ensures.limit c.in-Ok.ensures))

pub returns-in_ok-disk-in-Err-Failed : goal.returns-in_ok-disk-in-Err-Failed
returns-in_ok-disk-in-Err-Failed c = λ is down.
    subst (λ (now : Option Running). HasStarted c.args.catalog.now c.args.site.0 (Down c.args.disk c.args.left) (Down c.in_ok-disk-in-Err-Failed.disk c.args.left) is now (start.Broke c.in_ok-disk-in-Err-Failed.stops))
    (sym down.down)
    (is-broken-early c.args.catalog.now c.args.site.0 is c.args.left _ c.in_ok-disk-in-Err-Failed.disk c.in_ok-disk-in-Err-Failed.stops
    (record { site = down.me; catalog = down.catalog; records = down.records; surplus = down.surplus })
    (subst (FailsEarly c.args.catalog.now c.args.site.0 is) (sym c.in-Err-Failed.disk-is)
    (not-opened c.args.catalog.now c.args.site.0 c.args.disk c.args.left is down c.armed_logs.ensures c.in-Err-Failed.disk c.journal.result
    (subst (λ (e : OpenCkpt MemState). Opens mem_model c.args.disk c.journal.result (Err e)) c.in-Err-Failed.field-0-is c.in-Err-Failed.ensures)))
    c.in_ok-disk-in-Err-Failed.ensures)

pub unreachable-requires : goal.unreachable-requires
unreachable-requires c =
    let can : CanStart c.args.catalog.now c.args.site.0 (Down c.args.disk c.args.left) = c.requires.replayable in
    is-ours c.args.catalog.now c.args.site.0 c.args.disk c.args.left can.is can.stands c.armed_logs.ensures c.in-Err-NotOurs.field-0-0 c.journal.result c.in-Err-NotOurs.field-0-1
    (subst (λ (e : OpenCkpt MemState). Opens mem_model c.args.disk c.journal.result (Err e)) c.in-Err-NotOurs.field-0-is c.in-Err-NotOurs.ensures)
