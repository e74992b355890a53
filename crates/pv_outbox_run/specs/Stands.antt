-- Which outbox a cell in memory is.
use Rattle.std.specs.Prelude.{◌≡◌, Bool, true, false, List, [], ◌∷◌, Option, Some, None}
use Rattle.pv_base.specs.declared.limits.TheConstants.{MAX_JOURNAL}
use Rattle.pv_disk.specs.MemDisk.{MemState}
use Rattle.pv_disk.specs.MemLaws.{mem_model}
use Rattle.pv_disk.specs.declared.arms.Arm.{Arm}
use Rattle.pv_disk_model.specs.Size.{Contents}
use Rattle.pv_format.specs.Checkpoint.{Standing}
use Rattle.pv_ckpt.specs.Armed.{Holds, HoldsUp}
use Rattle.pv_ckpt.specs.CkptLog.{IsIntact}
use Rattle.pv_ckpt.specs.CkptModel.{ckpt_model}
use Rattle.pv_ckpt.specs.declared.ckpt_log.CkptLog.{CkptLog}
use Rattle.pv_law_outbox.specs.State.{state_of}
use Rattle.pv_outbox.specs.OutboxState.{IsUsable, OutboxState}
use Rattle.pv_outbox.specs.Spelling.{SpellRecords}
use Rattle.pv_outbox_run.specs.Box.{Box}
use Rattle.pv_outbox_run.specs.Does.{Does}
use Rattle.pv_outbox_run.specs.ToldText.{broke}
use Rattle.pv_outbox_run.specs.declared.cell.Cell.{Cell}
use Rattle.pv_outbox_run.specs.declared.cell.Cell.TheVariants.{Up, Down}
use Rattle.pv_outbox_run.specs.declared.told.Told.{Told}
use Rattle.pv_outbox_script.specs.declared.event.Event.{Event}

-- The outbox in memory is this one, and its disk holds the records.
pub record IsUp (outbox : OutboxState (CkptLog MemState)) (box : Box) : Type 0 where
  pub up : box.is_up ≡ true
  pub usable : IsUsable (ckpt_model mem_model) outbox
  pub is_up : outbox.is_down ≡ false
  pub state : outbox.state ≡ state_of box.entries
  pub contents : Contents
  pub spelled : SpellRecords box.entries contents
  pub standing : Standing
  pub log : HoldsUp contents standing box.armed outbox.log
  pub limit : outbox.log.limit ≡ MAX_JOURNAL

-- The outbox is down, and the disk holds its records.
pub record IsDown (disk : MemState) (box : Box) : Type 0 where
  pub down : box.is_up ≡ false
  pub contents : Contents
  pub spelled : SpellRecords box.entries contents
  pub standing : Standing
  pub holds : Holds contents standing box.armed None disk

-- The cell is this outbox.
abbrev pub Stands : Cell → Box → Type 0
Stands (Up outbox) box = IsUp outbox box
Stands (Down disk) box = IsDown disk box

-- what is printed, if anything is
abbrev pub says_of : Option Told → List Told
says_of None = []
says_of (Some said) = said ∷ []

-- An event of the outbox comes to this cell, and prints this.
abbrev pub Comes : Box → Event → Cell × Option Told → Type 0
Comes old event made = (new : Box) × Stands made.0 new × Does old event (says_of made.1) new

-- The same where a line is printed.
abbrev pub ComesTold : Box → Event → Cell × Told → Type 0
ComesTold old event made = (new : Box) × Stands made.0 new × Does old event (made.1 ∷ []) new

-- A log that was just opened is that of this outbox, which comes up.
pub record IsOpen (log : CkptLog MemState) (box : Box) : Type 0 where
  pub up : box.is_up ≡ true
  pub intact : IsIntact mem_model log
  pub contents : Contents
  pub spelled : SpellRecords box.entries contents
  pub standing : Standing
  pub log_is : HoldsUp contents standing box.armed log
  pub limit : log.limit ≡ MAX_JOURNAL

-- What becomes of an outbox whose disk failed: the cell is its disk, on which nothing is armed any more, and what fired is told.
abbrev pub Breaks : OutboxState (CkptLog MemState) → Cell × Told → Type 0
Breaks outbox (Up other, said) = ⊥
Breaks outbox (Down disk, said) =
    (stops : Bool) × (said ≡ broke stops)
    × ((contents : Contents) (standing : Standing) (armed : Option Arm) (fired : Option Bool) → Holds contents standing armed fired outbox.log.disk →
    (fired ≡ Some stops) × Holds contents standing None None disk)
