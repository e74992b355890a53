-- What a checkpoint of the site's log comes to, and then of the site.
use Rattle.std.proofs.Common.{◌≡◌, ◌≤◌, ℕ, Option, Some, Err, Ok, sym, subst}
use Rattle.pv_base.specs.Catalog.{Declared}
use Rattle.pv_ckpt.specs.Checkpointing.{Checkpoints}
use Rattle.pv_ckpt.specs.declared.ckpt_error.CkptError.{CkptError}
use Rattle.pv_ckpt.specs.declared.ckpt_log.CkptLog.{CkptLog}
use Rattle.pv_disk.specs.MemDisk.{MemState}
use Rattle.pv_disk.specs.MemLaws.{mem_model}
use Rattle.pv_protocol.specs.State.{Running}
use Rattle.pv_world.proofs.CellLemmas.{is-up}
use Rattle.pv_world.proofs.CheckpointLemmas.{can-fall, has-broken, has-packed, is-spent, memory-there, room-here}
use Rattle.pv_world.proofs.cell.Cell.checkpoint.Goals as goal
use Rattle.pv_world.specs.Cells.{HasPacked}
use Rattle.pv_world.specs.Stands.{StandsForSite}
use Rattle.pv_world.specs.declared.cell.Cell.{Cell}
use Rattle.pv_world.specs.declared.cell.Cell.TheVariants.{Up}
use Rattle.pv_world.specs.declared.cell.Checkpointed.TheVariants as packed

pub fall-requires : goal.fall-requires
fall-requires c =
    let can = c.requires in
    let up = is-up can.catalog can.n c.args.self.now c.in-Up.up can.is c.in-Up.is can.stands in
    let (running, at) = memory-there can.catalog can.n c.in-Up.up can.is up in
    can-fall can.catalog can.n c.in-Up.up can.is up c.armed_logs.ensures.intact c.armed_logs.ensures.numbers c.armed_logs.ensures.packs c.checkpoint.new.self can.room running at
    c.length-length.result c.length-length.ensures
    (subst (λ (log : CkptLog MemState). Checkpoints mem_model {X = Unit {0}} log c.checkpoint.new.self (Err Rattle.pv_ckpt.specs.declared.ckpt_error.CkptError.TheVariants.Failed)) c.log.ensures.value
    (subst (λ (e : CkptError). Checkpoints mem_model {X = Unit {0}} c.log.result.now c.checkpoint.new.self (Err e)) c.in-Err-Failed.field-0-is c.in-Err-Failed.ensures.effect))
    can.replayable

pub returns-in-Ok : goal.returns-in-Ok
returns-in-Ok c = λ catalog n is stands.
    let can = c.requires in
    let up = is-up catalog n c.args.self.now c.in-Up.up is c.in-Up.is stands in
    let stood = is-up can.catalog can.n c.args.self.now c.in-Up.up can.is c.in-Up.is can.stands in
    let (running, at) = memory-there catalog n c.in-Up.up is up in
    let room = room-here catalog can.catalog n can.n c.in-Up.up is can.is up stood can.room in
    subst (λ (cell : Cell). HasPacked catalog n cell (Up (record c.in-Up.up { log = c.checkpoint.new.self })) is is.running packed.Done) (sym c.in-Up.is)
    (subst (λ (memory : Option Running). HasPacked catalog n (Up c.in-Up.up) (Up (record c.in-Up.up { log = c.checkpoint.new.self })) is memory packed.Done) (sym at)
    (has-packed catalog n c.in-Up.up is up c.armed_logs.ensures.intact c.armed_logs.ensures.numbers c.armed_logs.ensures.packs c.checkpoint.new.self room running at (tt {0})
    (subst (λ (log : CkptLog MemState). Checkpoints mem_model {X = Unit {0}} log c.checkpoint.new.self (Ok (tt {0}))) c.log.ensures.value c.in-Ok.ensures.effect)
    c.in-Ok.ensures.intact))

pub returns-in-Err-Spent : goal.returns-in-Err-Spent
returns-in-Err-Spent c = λ catalog n is stands.
    let can = c.requires in
    let up = is-up catalog n c.args.self.now c.in-Up.up is c.in-Up.is stands in
    let stood = is-up can.catalog can.n c.args.self.now c.in-Up.up can.is c.in-Up.is can.stands in
    let (running, at) = memory-there catalog n c.in-Up.up is up in
    let room = room-here catalog can.catalog n can.n c.in-Up.up is can.is up stood can.room in
    subst (λ (cell : Cell). HasPacked catalog n cell (Up (record c.in-Up.up { log = c.checkpoint.new.self })) is is.running packed.Spent) (sym c.in-Up.is)
    (subst (λ (memory : Option Running). HasPacked catalog n (Up c.in-Up.up) (Up (record c.in-Up.up { log = c.checkpoint.new.self })) is memory packed.Spent) (sym at)
    (is-spent catalog n c.in-Up.up is up c.armed_logs.ensures.intact c.armed_logs.ensures.numbers c.armed_logs.ensures.packs c.checkpoint.new.self room running at
    (subst (λ (log : CkptLog MemState). Checkpoints mem_model {X = Unit {0}} log c.checkpoint.new.self (Err Rattle.pv_ckpt.specs.declared.ckpt_error.CkptError.TheVariants.Spent)) c.log.ensures.value
    (subst (λ (e : CkptError). Checkpoints mem_model {X = Unit {0}} c.log.result.now c.checkpoint.new.self (Err e)) c.in-Err-Spent.field-0-is c.in-Err-Spent.ensures.effect))))

pub returns-in_ok-fall-in-Err-Failed : goal.returns-in_ok-fall-in-Err-Failed
returns-in_ok-fall-in-Err-Failed c = λ catalog n is stands.
    let can = c.requires in
    let up = is-up catalog n c.args.self.now c.in-Up.up is c.in-Up.is stands in
    let stood = is-up can.catalog can.n c.args.self.now c.in-Up.up can.is c.in-Up.is can.stands in
    let (running, at) = memory-there catalog n c.in-Up.up is up in
    let room = room-here catalog can.catalog n can.n c.in-Up.up is can.is up stood can.room in
    let stops = c.in_ok-fall-in-Err-Failed.field-0 in
    subst (λ (cell : Cell). HasPacked catalog n cell c.fall.new.self is is.running (packed.Broke stops)) (sym c.in-Up.is)
    (subst (λ (memory : Option Running). HasPacked catalog n (Up c.in-Up.up) c.fall.new.self is memory (packed.Broke stops)) (sym at)
    (has-broken catalog n c.in-Up.up is up c.armed_logs.ensures.intact c.armed_logs.ensures.numbers c.armed_logs.ensures.packs c.checkpoint.new.self room running at
    c.fall.new.self stops
    (subst (λ (log : CkptLog MemState). Checkpoints mem_model {X = Unit {0}} log c.checkpoint.new.self (Err Rattle.pv_ckpt.specs.declared.ckpt_error.CkptError.TheVariants.Failed)) c.log.ensures.value
    (subst (λ (e : CkptError). Checkpoints mem_model {X = Unit {0}} c.log.result.now c.checkpoint.new.self (Err e)) c.in-Err-Failed.field-0-is c.in-Err-Failed.ensures.effect))
    c.in_ok-fall-in-Err-Failed.ensures))
