use Rattle.std.proofs.Common.{◌≡◌, ◌∙◌, ◌++◌, List, None, Err, sym, subst}
use Rattle.std.specs.Prelude.{option_to_list}
use Rattle.pv_base.specs.declared.limits.TheConstants.{MAX_JOURNAL}
use Rattle.pv_disk.specs.MemDisk.{MemState}
use Rattle.pv_disk.specs.MemLaws.{mem_model}
use Rattle.pv_format.specs.Record.{Record}
use Rattle.pv_ckpt.specs.Opening.{Opens}
use Rattle.pv_ckpt.specs.declared.open_ckpt.OpenCkpt.{OpenCkpt}
use Rattle.pv_world.proofs.DownLemmas.{down-again, down-as-left, still-spells}
use Rattle.pv_world.proofs.restart.down.Goals as goal
use Rattle.pv_world.specs.Disks.{Spells}
use Rattle.pv_world.specs.Stands.{StandsForSite}
use Rattle.pv_world.specs.declared.cell.Cell.TheVariants.{Down}

pub returns-then-now-length : goal.returns-then-now-length
returns-then-now-length c = λ added standing spells.
    let records : List Record = c.args.left.records ++ option_to_list added in
    subst (λ (on : MemState). StandsForSite c.args.left.catalog c.args.left.me (Down on c.args.left) (record { records = records; standing = standing; arm = None; running = None }))
    (sym c.close-disk.ensures)
    (down-as-left c.armed_logs.ensures c.logs_tell_of_records.ensures.size c.args.disk c.in-Ok.log _ c.in-Ok.ensures c.args.left c.args.length c.requires.length
    (sym c.length-now.ensures ∙ c.if-now-length.true) c.requires.readable.4 added standing spells)

pub read_again-requires : goal.read_again-requires
read_again-requires c =
    let (added, standing, spells, replayable, plain) = c.requires.readable in
    let records : List Record = c.args.left.records ++ option_to_list added in (
      added,
      standing,
      subst (Spells records standing None None) (sym c.close-disk.ensures) (still-spells c.armed_logs.ensures c.args.disk c.in-Ok.log _ c.in-Ok.ensures records standing spells),
      replayable,
      plain,
    )

pub returns-in_ok-left-in-Ok : goal.returns-in_ok-left-in-Ok
returns-in_ok-left-in-Ok c = λ added standing spells.
    let records : List Record = c.args.left.records ++ option_to_list added in
    let before : Spells records standing None None c.close-disk.result =
    subst (Spells records standing None None) (sym c.close-disk.ensures) (still-spells c.armed_logs.ensures c.args.disk c.in-Ok.log _ c.in-Ok.ensures records standing spells) in
    down-again c.read_again.new.disk c.args.left c.in_ok-left-in-Ok.left records standing (c.in_ok-left-in-Ok.ensures.left records standing before) c.requires.readable.4
    (subst (Spells records standing None None) (sym c.in_ok-left-in-Ok.ensures.same) before)

pub unreachable-requires : goal.unreachable-requires
unreachable-requires c =
    let (added, standing, spells, replayable, plain) = c.requires.readable in
    c.armed_logs.ensures.ours spells.contents standing None c.args.disk MAX_JOURNAL c.in-Err-NotOurs.field-0-0 c.in-Err-NotOurs.field-0-1 spells.holds
    (subst (λ (e : OpenCkpt MemState). Opens mem_model c.args.disk MAX_JOURNAL (Err e)) c.in-Err-NotOurs.field-0-is c.in-Err-NotOurs.ensures)
