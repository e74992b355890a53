use Rattle.std.proofs.Common.{arith, ◌+◌, ◌-◌, length, true, false, ◌∙◌, subst, List, ℕ, refl}
use Rattle.pv_disk_model.specs.Calls.{Makes}
use Rattle.pv_journal.specs.Journal.{frame_calls}
use Rattle.pv_journal.specs.declared.journal.Journal.{Journal}
use Rattle.pv_law_calls.proofs.RecordLemmas.{length-frame, not_down}
use Rattle.pv_journal.proofs.LogLemmas.{fails_to_add, adds, still_intact}
use Rattle.pv_journal.proofs.log.JournalLog.append.Goals as goal

pub write_record-requires-clause-short : goal.write_record-requires-clause-short
write_record-requires-clause-short g c =
    let room = c.requires.room c.if-self.false in
    let size = length-frame c.deref.result.now c.args.content.now (c.deref.ensures.value ∙ c.make_frame.ensures) in
    omega (arith, size, room.within, c.requires.intact.limited, c.requires.intact.starts)

pub write_record-requires-clause-room : goal.write_record-requires-clause-room
write_record-requires-clause-room g c =
    let room = c.requires.room c.if-self.false in
    let size = length-frame c.deref.result.now c.args.content.now (c.deref.ensures.value ∙ c.make_frame.ensures) in
    omega (arith, size, room.room)

pub returns-in-Err-clause-effect : goal.returns-in-Err-clause-effect
returns-in-Err-clause-effect g c =
    let M = g.D.Disk.model in
    let old = c.args.self.now in
    let new : Journal g.row.D.Denot = record { disk = c.write_record.new.disk; frame = c.make_frame.new.frame; length = old.length; limit = old.limit; down = true } in
    let frame_is = c.deref.ensures.value ∙ c.make_frame.ensures in (
      record { was_up = c.if-self.false; is_down = refl; faults = c.write_record.ensures.fault.0; fault = c.in-Err.ensures.fault.1 },
      fails_to_add M old new c.args.content.now c.deref.result.now c.requires.intact c.if-self.false (c.requires.room c.if-self.false) frame_is c.write_record.ensures.known refl
          c.write_record.result c.write_record.ensures.crash refl,
    )

pub returns-in-Err-clause-goes : goal.returns-in-Err-clause-goes
returns-in-Err-clause-goes g c =
    let frame_is = c.deref.ensures.value ∙ c.make_frame.ensures in
    let room = c.requires.room c.if-self.false in
    not_down c.args.self.now.down _ _ c.if-self.false (
      omega (arith, room.within, c.requires.intact.limited),
      subst (λ (l : List ℕ). Makes g.D.Disk.model.goes c.args.self.now.disk (frame_calls (c.args.self.now.length - 1) l) false c.write_record.new.disk) frame_is c.in-Err.ensures.calls,
    )

pub returns-in-Ok-clause-effect : goal.returns-in-Ok-clause-effect
returns-in-Ok-clause-effect g c =
    let M = g.D.Disk.model in
    let old = c.args.self.now in
    let new : Journal g.row.D.Denot =
    record { disk = c.write_record.new.disk; frame = c.make_frame.new.frame; length = old.length + (5 + length c.args.content.now); limit = old.limit; down = old.down } in
    let frame_is = c.deref.ensures.value ∙ c.make_frame.ensures in (
      record { was_up = c.if-self.false; is_up = c.if-self.false; faults = c.in-Ok.ensures.uncounted },
      adds M old new c.args.content.now c.deref.result.now c.requires.intact c.if-self.false (c.requires.room c.if-self.false) frame_is c.write_record.ensures.known refl
          tt c.in-Ok.ensures.crash refl,
    )

pub returns-in-Ok-clause-intact : goal.returns-in-Ok-clause-intact
returns-in-Ok-clause-intact g c =
    let M = g.D.Disk.model in
    let old = c.args.self.now in
    let new : Journal g.row.D.Denot =
    record { disk = c.write_record.new.disk; frame = c.make_frame.new.frame; length = old.length + (5 + length c.args.content.now); limit = old.limit; down = old.down } in
    let frame_is = c.deref.ensures.value ∙ c.make_frame.ensures in
    still_intact M old new c.args.content.now c.deref.result.now c.requires.intact c.if-self.false (c.requires.room c.if-self.false) frame_is c.write_record.ensures.known refl
    tt c.in-Ok.ensures.crash refl

pub returns-in-Ok-clause-goes : goal.returns-in-Ok-clause-goes
returns-in-Ok-clause-goes g c =
    let frame_is = c.deref.ensures.value ∙ c.make_frame.ensures in
    let room = c.requires.room c.if-self.false in
    not_down c.args.self.now.down _ _ c.if-self.false (
      omega (arith, room.within, c.requires.intact.limited),
      subst (λ (l : List ℕ). Makes g.D.Disk.model.goes c.args.self.now.disk (frame_calls (c.args.self.now.length - 1) l) true c.write_record.new.disk) frame_is c.in-Ok.ensures.calls,
    )
