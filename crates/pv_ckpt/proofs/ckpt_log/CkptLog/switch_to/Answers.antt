use Rattle.std.proofs.Common.{rules, arith, ◌≡◌, ◌+◌, inr, ◌∙◌, ap, refl, sym, subst, true, false, length, vec_len, Err}
use Rattle.pv_disk.specs.DiskAnswers.{ReservesOnDisk}
use Rattle.pv_law_checkpoints.specs.Stages.{free_place}
use Rattle.pv_law_checkpoints.proofs.CheckpointLemmas.{length-fields}
use Rattle.pv_ckpt.specs.declared.checkpoint.Packed.{Packed}
use Rattle.pv_ckpt.specs.declared.ckpt_log.CkptLog.{CkptLog}
use Rattle.pv_ckpt.proofs.KeepLemmas.{keeps_room}
use Rattle.pv_ckpt.proofs.SwitchLemmas.{done, keeps, keeps_quiet, makes_all, now_intact, place_within, room_failed, room_made, still_held}
use Rattle.pv_ckpt.proofs.ckpt_log.CkptLog.switch_to.Goals as goal

pub returns-in-Err-Failed-clause-effect : goal.returns-in-Err-Failed-clause-effect
returns-in-Err-Failed-clause-effect g c given block_is =
    let M = g.D.Disk.model in
    let old = c.args.self.now in
    let d1 = c.make_ready.new.disk in
    let new : CkptLog g.row.D.Denot = record { disk = d1; root = old.root; end = old.end; frame = old.frame; length = old.length; limit = old.limit; down = true } in
    let effect = subst (λ e. ReservesOnDisk M {X = Packed} old.disk d1 (length c.args.block.items + 27) 4 (Err e)) c.in-Err-Failed.field-0-is c.in-Err-Failed.ensures.effect in (
      keeps_quiet M old c.requires.intact c.requires.up given new effect.0.known effect.0.any_moment effect.0.faults refl refl,
      record { down = refl; rose = effect.1 },
      room_failed M old c.requires.intact c.requires.up c.args.block.items d1 c.in-Err-Failed.ensures.goes,
    )

pub returns-in-Err-NoMemory-clause-effect : goal.returns-in-Err-NoMemory-clause-effect
returns-in-Err-NoMemory-clause-effect g c given block_is =
    let M = g.D.Disk.model in
    let old = c.args.self.now in
    let d1 = c.make_ready.new.disk in
    let new : CkptLog g.row.D.Denot = record { disk = d1; root = old.root; end = old.end; frame = old.frame; length = old.length; limit = old.limit; down = old.down } in
    let effect = subst (λ e. ReservesOnDisk M {X = Packed} old.disk d1 (length c.args.block.items + 27) 4 (Err e)) c.in-Err-NoMemory.field-0-is c.in-Err-NoMemory.ensures.effect in (
      keeps_quiet M old c.requires.intact c.requires.up given new effect.0.known effect.0.any_moment effect.0.faults refl refl,
      record {
        up = c.requires.up;
        uncounted = effect.2;
        root = refl;
        end = refl;
        content = effect.1;
        crash = effect.0.any_moment;
        room = keeps_room M old new refl refl refl effect.0.room effect.0.writes;
      },
      room_failed M old c.requires.intact c.requires.up c.args.block.items d1 c.in-Err-NoMemory.ensures.goes,
    )

pub returns-in-Err-NoMemory-clause-intact : goal.returns-in-Err-NoMemory-clause-intact
returns-in-Err-NoMemory-clause-intact g c =
    let M = g.D.Disk.model in
    let old = c.args.self.now in
    let d1 = c.make_ready.new.disk in
    let new : CkptLog g.row.D.Denot = record { disk = d1; root = old.root; end = old.end; frame = old.frame; length = old.length; limit = old.limit; down = old.down } in
    let effect = subst (λ e. ReservesOnDisk M {X = Packed} old.disk d1 (length c.args.block.items + 27) 4 (Err e)) c.in-Err-NoMemory.field-0-is c.in-Err-NoMemory.ensures.effect in
    still_held M old c.requires.intact c.requires.up new refl refl refl refl effect.1 effect.0.any_moment

pub write_parts-requires-clause-within : goal.write_parts-requires-clause-within
write_parts-requires-clause-within g c bytes is =
    let effect = c.in-Ok.ensures.effect in
    let packed_is = c.in-Ok.ensures.packed in
    let within =
    place_within g.D.Disk.model c.args.self.now c.requires.intact c.requires.up c.requires.reach c.args.length c.requires.within c.requires.unspent c.requires.contents.0 c.args.block.items c.requires.contents.1 bytes (sym effect.1 ∙ is) in
    (omega (arith, packed_is.place, within.0), within.1)

pub write_parts-requires-clause-fields : goal.write_parts-requires-clause-fields
write_parts-requires-clause-fields g c =
    let packed_is = c.in-Ok.ensures.packed in
    let packed = c.in-Ok.packed in
    let long : length packed.fields.items ≡ vec_len packed.fields = search rules in
    omega (arith, long, ap length packed_is.fields_are, length-fields (c.args.self.now.root.number + 1) packed.root.place (length c.args.block.items))

pub returns-in-Ok-write_parts-clause-effect : goal.returns-in-Ok-write_parts-clause-effect
returns-in-Ok-write_parts-clause-effect g c given block_is =
    let M = g.D.Disk.model in
    let old = c.args.self.now in
    let needs = c.requires in
    let block = c.args.block.items in
    let d1 = c.make_ready.new.disk in
    let d2 = c.write_parts.new.disk in
    let packed = c.in-Ok.packed in
    let effect = c.in-Ok.ensures.effect in
    let packed_is = c.in-Ok.ensures.packed in
    let wrote = c.in-Ok-write_parts.ensures in
    let long : length block ≡ vec_len c.args.block = search rules in
    let new : CkptLog g.row.D.Denot =
    record { disk = d2; root = packed.root; end = packed.root.place + packed.root.size; frame = old.frame; length = c.args.length; limit = old.limit; down = old.down } in (
      keeps M old needs.intact needs.up needs.reach c.args.length needs.within needs.unspent given block block_is d1 effect.0 effect.1 packed packed_is d2 _ wrote.crash new c.args.length refl wrote.known wrote.fault.0 refl refl,
      record {
        up = needs.up;
        uncounted = wrote.uncounted ∙ effect.4;
        number = packed_is.number;
        packed = done M old needs.intact needs.up needs.reach c.args.length needs.within needs.unspent given block block_is d1 effect.0 effect.1 packed packed_is d2 tt wrote.crash wrote.known (omega (arith, needs.size, long));
        at = packed_is.at;
        place = packed_is.place ∙ ap (λ n. free_place n old.root.place old.end) (sym packed_is.size);
        other = packed_is.other;
        end = refl;
      },
      inr (
          makes_all M old needs.intact needs.up needs.reach c.args.length needs.within needs.unspent given block block_is d1 effect.0 effect.1 packed packed_is d2 _ wrote.crash true
          (room_made M old needs.intact needs.up block d1 c.in-Ok.ensures.goes) wrote.calls
          ),
      packed_is.size,
    )

pub returns-in-Ok-write_parts-clause-intact : goal.returns-in-Ok-write_parts-clause-intact
returns-in-Ok-write_parts-clause-intact g c =
    let M = g.D.Disk.model in
    let old = c.args.self.now in
    let needs = c.requires in
    let block = c.args.block.items in
    let packed = c.in-Ok.packed in
    let effect = c.in-Ok.ensures.effect in
    let wrote = c.in-Ok-write_parts.ensures in
    let long : length block ≡ vec_len c.args.block = search rules in
    let new : CkptLog g.row.D.Denot =
    record {
      disk = c.write_parts.new.disk;
      root = packed.root;
      end = packed.root.place + packed.root.size;
      frame = old.frame;
      length = c.args.length;
      limit = old.limit;
      down = old.down;
    } in
    now_intact M old needs.intact needs.up needs.reach c.args.length needs.within needs.unspent needs.contents.0 block needs.contents.1 c.make_ready.new.disk effect.0 effect.1 packed c.in-Ok.ensures.packed c.write_parts.new.disk tt
    wrote.crash wrote.known (omega (arith, needs.size, long)) new refl refl refl refl refl

pub returns-clause-effect : goal.returns-clause-effect
returns-clause-effect g c given block_is =
    let M = g.D.Disk.model in
    let old = c.args.self.now in
    let needs = c.requires in
    let block = c.args.block.items in
    let d1 = c.make_ready.new.disk in
    let d2 = c.write_parts.new.disk in
    let packed = c.in-Ok.packed in
    let effect = c.in-Ok.ensures.effect in
    let packed_is = c.in-Ok.ensures.packed in
    let wrote = c.in-Err.ensures in
    let new : CkptLog g.row.D.Denot =
    record { disk = d2; root = old.root; end = old.end; frame = old.frame; length = old.length; limit = old.limit; down = true } in (
      keeps M old needs.intact needs.up needs.reach c.args.length needs.within needs.unspent given block block_is d1 effect.0 effect.1 packed packed_is d2 _ wrote.crash new old.length refl wrote.known wrote.fault.0 refl refl,
      record { down = refl; rose = omega (arith, wrote.fault.1, effect.4) },
      inr (
          makes_all M old needs.intact needs.up needs.reach c.args.length needs.within needs.unspent given block block_is d1 effect.0 effect.1 packed packed_is d2 _ wrote.crash false
          (room_made M old needs.intact needs.up block d1 c.in-Ok.ensures.goes) wrote.calls
          ),
    )
