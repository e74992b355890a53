use Rattle.std.proofs.Common.{rules, ◌+◌, ◌≤◌, refl, subst, true, Err}
use Rattle.pv_disk.specs.DiskAnswers.{ReservesOnDisk}
use Rattle.pv_ckpt.specs.declared.ckpt_log.CkptLog.{CkptLog}
use Rattle.pv_ckpt.proofs.KeepLemmas.{keeps_log}
use Rattle.pv_ckpt.proofs.SwitchLemmas.{still_held}
use Rattle.pv_ckpt.proofs.log.CkptLogLog.reserve.Goals as goal

pub returns-in-Ok-clause-intact : goal.returns-in-Ok-clause-intact
returns-in-Ok-clause-intact g c =
    let old = c.args.self.now in
    let new : CkptLog g.row.D.Denot =
    record { disk = c.reserve-2.new.self; root = old.root; end = old.end; frame = c.reserve.new.self; length = old.length; limit = old.limit; down = old.down } in
    let effect = c.in-Ok.ensures.effect in
    still_held g.D.Disk.model old c.requires.intact c.if-self.false new refl refl refl refl effect.1 effect.0.any_moment

pub returns-in-Err-Failed-clause-effect : goal.returns-in-Err-Failed-clause-effect
returns-in-Err-Failed-clause-effect g c =
    let M = g.D.Disk.model in
    let old = c.args.self.now in
    let new : CkptLog g.row.D.Denot =
    record { disk = c.reserve-2.new.self; root = old.root; end = old.end; frame = c.reserve.new.self; length = old.length; limit = old.limit; down = true } in
    let effect =
    subst (λ e. ReservesOnDisk M {X = Unit {0}} old.disk c.reserve-2.new.self (6 + c.args.content) 2 (Err e)) c.in-Err-Failed.field-0-is c.in-Err-Failed.ensures.effect in
    let within : old.length + (5 + c.args.content) ≤ old.limit = search rules in (
      record { was_up = c.if-self.false; is_down = refl; faults = effect.0.faults; fault = effect.1 },
      keeps_log M old new c.requires.intact c.if-self.false effect.0.known effect.0.any_moment refl refl,
      within,
    )

pub returns-in-Err-NoMemory-clause-intact : goal.returns-in-Err-NoMemory-clause-intact
returns-in-Err-NoMemory-clause-intact g c =
    let M = g.D.Disk.model in
    let old = c.args.self.now in
    let new : CkptLog g.row.D.Denot =
    record { disk = c.reserve-2.new.self; root = old.root; end = old.end; frame = c.reserve.new.self; length = old.length; limit = old.limit; down = old.down } in
    let effect =
    subst (λ e. ReservesOnDisk M {X = Unit {0}} old.disk c.reserve-2.new.self (6 + c.args.content) 2 (Err e)) c.in-Err-NoMemory.field-0-is c.in-Err-NoMemory.ensures.effect in
    still_held M old c.requires.intact c.if-self.false new refl refl refl refl effect.1 effect.0.any_moment
