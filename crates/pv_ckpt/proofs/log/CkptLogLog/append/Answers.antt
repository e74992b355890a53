use Rattle.std.proofs.Common.{arith, ◌+◌, length, true, false, ◌∙◌, sym, subst, List, ℕ, refl}
use Rattle.std.proofs.lemmas.Bool.{true≢false}
use Rattle.pv_disk_model.specs.Calls.{Makes}
use Rattle.pv_journal.specs.Journal.{frame_calls}
use Rattle.pv_law_calls.proofs.RecordLemmas.{length-frame, not_down}
use Rattle.pv_law_checkpoints.proofs.LogLemmas.{end_within}
use Rattle.pv_ckpt.specs.declared.ckpt_log.CkptLog.{CkptLog}
use Rattle.pv_ckpt.proofs.LogLemmas.{fails_to_add, adds, still_intact}
use Rattle.pv_ckpt.proofs.log.CkptLogLog.append.Goals as goal

pub write_record-requires-clause-within : goal.write_record-requires-clause-within
write_record-requires-clause-within g c bytes is =
    let log = c.requires.intact.at_rest c.if-self.false bytes is in
    let held = log.2 in
    omega (arith, held.end_is, end_within c.args.self.now.root.at log.0 log.1 bytes held.log)

pub write_record-requires-clause-short : goal.write_record-requires-clause-short
write_record-requires-clause-short g c =
    let room = c.requires.room c.if-self.false in
    let intact = c.requires.intact in
    let size = length-frame c.deref.result.now c.args.content.now (c.deref.ensures.value ∙ c.make_frame.ensures) in
    omega (arith, size, room.within, intact.limited, intact.in_range, intact.short)

pub write_record-requires-clause-room : goal.write_record-requires-clause-room
write_record-requires-clause-room g c =
    let room = c.requires.room c.if-self.false in
    let size = length-frame c.deref.result.now c.args.content.now (c.deref.ensures.value ∙ c.make_frame.ensures) in
    omega (arith, size, room.room)

pub returns-in-Err-clause-effect : goal.returns-in-Err-clause-effect
returns-in-Err-clause-effect g c =
    let M = g.D.Disk.model in
    let old = c.args.self.now in
    let new : CkptLog g.row.D.Denot =
    record { disk = c.write_record.new.disk; root = old.root; end = old.end; frame = c.make_frame.new.frame; length = old.length; limit = old.limit; down = true } in
    let frame_is = c.deref.ensures.value ∙ c.make_frame.ensures in (
      record { was_up = c.if-self.false; is_down = refl; faults = c.write_record.ensures.fault.0; fault = c.in-Err.ensures.fault.1 },
      fails_to_add M old new c.args.content.now c.deref.result.now c.requires.intact c.if-self.false (c.requires.room c.if-self.false) frame_is c.write_record.ensures.known refl refl
          c.write_record.result c.write_record.ensures.crash refl,
    )

pub returns-in-Err-clause-goes : goal.returns-in-Err-clause-goes
returns-in-Err-clause-goes g c =
    let frame_is = c.deref.ensures.value ∙ c.make_frame.ensures in
    let room = c.requires.room c.if-self.false in
    not_down c.args.self.now.down _ _ c.if-self.false (
      omega (arith, room.within, c.requires.intact.limited),
      subst (λ (l : List ℕ). Makes g.D.Disk.model.goes c.args.self.now.disk (frame_calls c.args.self.now.end l) false c.write_record.new.disk) frame_is c.in-Err.ensures.calls,
      record { root = refl; end = λ ok. absurd (true≢false (sym ok)) },
    )

pub returns-in-Ok-clause-effect : goal.returns-in-Ok-clause-effect
returns-in-Ok-clause-effect g c =
    let M = g.D.Disk.model in
    let old = c.args.self.now in
    let added = 5 + length c.args.content.now in
    let new : CkptLog g.row.D.Denot =
    record { disk = c.write_record.new.disk; root = old.root; end = old.end + added; frame = c.make_frame.new.frame; length = old.length + added; limit = old.limit; down = old.down } in
    let frame_is = c.deref.ensures.value ∙ c.make_frame.ensures in (
      record { was_up = c.if-self.false; is_up = c.if-self.false; faults = c.in-Ok.ensures.uncounted },
      adds M old new c.args.content.now c.deref.result.now c.requires.intact c.if-self.false (c.requires.room c.if-self.false) frame_is c.write_record.ensures.known refl refl
          tt c.in-Ok.ensures.crash refl,
    )

pub returns-in-Ok-clause-intact : goal.returns-in-Ok-clause-intact
returns-in-Ok-clause-intact g c =
    let M = g.D.Disk.model in
    let old = c.args.self.now in
    let added = 5 + length c.args.content.now in
    let new : CkptLog g.row.D.Denot =
    record { disk = c.write_record.new.disk; root = old.root; end = old.end + added; frame = c.make_frame.new.frame; length = old.length + added; limit = old.limit; down = old.down } in
    let frame_is = c.deref.ensures.value ∙ c.make_frame.ensures in
    still_intact M old new c.args.content.now c.deref.result.now c.requires.intact c.if-self.false (c.requires.room c.if-self.false) frame_is c.write_record.ensures.known refl refl
    tt c.in-Ok.ensures.crash refl refl

pub returns-in-Ok-clause-goes : goal.returns-in-Ok-clause-goes
returns-in-Ok-clause-goes g c =
    let frame_is = c.deref.ensures.value ∙ c.make_frame.ensures in
    let room = c.requires.room c.if-self.false in
    not_down c.args.self.now.down _ _ c.if-self.false (
      omega (arith, room.within, c.requires.intact.limited),
      subst (λ (l : List ℕ). Makes g.D.Disk.model.goes c.args.self.now.disk (frame_calls c.args.self.now.end l) true c.write_record.new.disk) frame_is c.in-Ok.ensures.calls,
      record { root = refl; end = λ ok. refl },
    )
