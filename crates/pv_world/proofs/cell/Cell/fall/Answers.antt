use Rattle.std.proofs.Common.{◌≡◌, ◌∙◌, ◌++◌, Bool, List, Option, None, Some, sym, ap, subst}
use Rattle.std.specs.Prelude.{option_to_list}
use Rattle.pv_disk.specs.MemDisk.{MemState}
use Rattle.pv_format.specs.Record.{Record}
use Rattle.pv_ckpt.specs.declared.ckpt_log.CkptLog.{CkptLog}
use Rattle.pv_protocol.specs.Records.{journal_bytes}
use Rattle.pv_protocol.specs.State.{Arm}
use Rattle.pv_site.specs.Recovered.{Remains}
use Rattle.pv_world.proofs.cell.Cell.fall.Goals as goal
use Rattle.pv_world.specs.Cells.{CanBeRead, CanFall, IsUpOver}
use Rattle.pv_world.specs.Disks.{Spells}
use Rattle.pv_world.specs.Stands.{StandsForSite}
use Rattle.pv_world.specs.declared.cell.Cell.{Cell}
use Rattle.pv_world.specs.declared.cell.Cell.TheVariants.{Up}

pub fallen-requires-clause-length : goal.fallen-requires-clause-length
fallen-requires-clause-length c =
    let was : c.args.self.now ≡ Up c.in-Up.up = sym c.replace.ensures.value ∙ c.in-Up.is in
    let can : CanFall c.args.length (Up c.in-Up.up) = subst (CanFall c.args.length) was c.requires in
    can.size ∙ ap (λ (now : Remains). journal_bytes now.records) (can.over.0 ∙ sym c.leave-log.ensures.left)

pub fallen-requires-clause-readable : goal.fallen-requires-clause-readable
fallen-requires-clause-readable c =
    let was : c.args.self.now ≡ Up c.in-Up.up = sym c.replace.ensures.value ∙ c.in-Up.is in
    let same : c.close.result ≡ c.in-Up.up.log.disk = c.close.ensures ∙ ap (λ (journal : CkptLog MemState). journal.disk) c.leave-log.ensures.log in
    let can : CanFall c.args.length (Up c.in-Up.up) = subst (CanFall c.args.length) was c.requires in
    subst (λ (now : Remains). (armed : Option Arm) × (fired : Option Bool) × CanBeRead now armed fired c.close.result) (can.over.0 ∙ sym c.leave-log.ensures.left) (
      can.armed,
      can.fired,
      (can.added, can.standing, subst (Spells (can.left.records ++ option_to_list can.added) can.standing can.armed can.fired) (sym same) can.over.1, can.replayable, can.surplus),
    )

pub returns : goal.returns
returns c = λ left added standing armed fired over.
    let was : c.args.self.now ≡ Up c.in-Up.up = sym c.replace.ensures.value ∙ c.in-Up.is in
    let same : c.close.result ≡ c.in-Up.up.log.disk = c.close.ensures ∙ ap (λ (journal : CkptLog MemState). journal.disk) c.leave-log.ensures.log in
    let is_over : IsUpOver left added standing armed fired (Up c.in-Up.up) = subst (IsUpOver left added standing armed fired) was over in
    let same_left : c.leave-log.result.1 ≡ left = c.leave-log.ensures.left ∙ sym is_over.0 in
    let fallen = subst (λ (now : Remains). Spells (now.records ++ option_to_list added) standing armed fired c.close.result
    → (fired ≡ Some c.in_ok-cell.stops)
    × StandsForSite now.catalog now.me c.in_ok-cell.cell (record { records = now.records ++ option_to_list added; standing = standing; arm = None; running = None })) same_left
    (c.in_ok-cell.ensures added standing armed fired) (subst (Spells (left.records ++ option_to_list added) standing armed fired) (sym same) is_over.1) in
    record { kind = fallen.0; stands = fallen.1 }
