use Rattle.std.proofs.Common.{rules, arith, ◌<◌, ◌-◌, ◌^◌, ◌∙◌, refl, sym, subst, true, Err, Vec, Global, ℕ}
use Rattle.pv_law_calls.specs.Reading.{LooksBy, LooksOn}
use Rattle.pv_law_checkpoints.proofs.LogLemmas.{end_within}
use Rattle.pv_ckpt.specs.declared.ckpt_log.CkptLog.{CkptLog}
use Rattle.pv_ckpt.proofs.CheckpointLemmas.{after_reading, reading_failed, reading_in_vain}
use Rattle.pv_ckpt.proofs.SwitchLemmas.{own, still_held}
use Rattle.pv_ckpt.proofs.ckpt_log.CkptLog.checkpoint.Goals as goal

pub read_packed-requires-clause-within : goal.read_packed-requires-clause-within
read_packed-requires-clause-within g c bytes is =
    let log = c.requires.intact.at_rest c.if-self.false bytes is in
    let held = log.2 in
    omega (arith, held.end_is, end_within c.args.self.now.root.at log.0 log.1 bytes held.log)

pub switch_to-requires-clause-intact : goal.switch_to-requires-clause-intact
switch_to-requires-clause-intact g c =
    let old = c.args.self.now in
    let mid : CkptLog g.row.D.Denot =
    record { disk = c.read_packed.new.disk; root = old.root; end = old.end; frame = old.frame; length = old.length; limit = old.limit; down = old.down } in
    let looks = c.in-Ok.ensures.effect in
    still_held g.D.Disk.model old c.requires.intact c.if-self.false mid refl refl refl refl looks.1 looks.0.any_moment

pub switch_to-requires-clause-contents : goal.switch_to-requires-clause-contents
switch_to-requires-clause-contents g c = (own, λ bytes known is. (c.in-Ok.ensures.block bytes is.0 is.1 (sym c.in-Ok.ensures.effect.1 ∙ known) is.2, is.3))

pub returns-in-Ok-clause-effect : goal.returns-in-Ok-clause-effect
returns-in-Ok-clause-effect g c =
    let old = c.args.self.now in
    let mid : CkptLog g.row.D.Denot =
    record { disk = c.read_packed.new.disk; root = old.root; end = old.end; frame = old.frame; length = old.length; limit = old.limit; down = old.down } in
    let unspent : old.root.number < 2 ^ 64 - 1 = search rules in
    after_reading g.D.Disk.model old c.requires.intact c.if-self.false unspent mid c.switch_to.new.self c.in-Ok.ensures.effect refl refl refl refl refl c.in-Ok.block.items c.in-Ok.ensures.block
    c.switch_to.result
    (c.switch_to.ensures.effect own (λ bytes known is. (c.in-Ok.ensures.block bytes is.0 is.1 (sym c.in-Ok.ensures.effect.1 ∙ known) is.2, is.3)))

pub returns-in-Err-Failed-clause-effect : goal.returns-in-Err-Failed-clause-effect
returns-in-Err-Failed-clause-effect g c =
    let M = g.D.Disk.model in
    let old = c.args.self.now in
    let new : CkptLog g.row.D.Denot =
    record { disk = c.read_packed.new.disk; root = old.root; end = old.end; frame = old.frame; length = old.length; limit = old.limit; down = true } in
    let unspent : old.root.number < 2 ^ 64 - 1 = search rules in
    let effect = subst (λ e. LooksBy M {X = Vec ℕ Global} old.disk c.read_packed.new.disk (Err e)) c.in-Err-Failed.field-0-is c.in-Err-Failed.ensures.effect in
    reading_failed M old c.requires.intact c.if-self.false unspent new effect.0 refl refl refl effect.1

pub returns-in-Err-NotOurs-clause-effect : goal.returns-in-Err-NotOurs-clause-effect
returns-in-Err-NotOurs-clause-effect g c =
    let M = g.D.Disk.model in
    let old = c.args.self.now in
    let new : CkptLog g.row.D.Denot =
    record { disk = c.read_packed.new.disk; root = old.root; end = old.end; frame = old.frame; length = old.length; limit = old.limit; down = old.down } in
    let unspent : old.root.number < 2 ^ 64 - 1 = search rules in
    let looks : LooksOn M old.disk c.read_packed.new.disk = search rules in
    reading_in_vain M old c.requires.intact c.if-self.false unspent new looks refl refl refl refl refl c.if-self.false

pub returns-in-Err-NoMemory-clause-effect : goal.returns-in-Err-NoMemory-clause-effect
returns-in-Err-NoMemory-clause-effect g c =
    let M = g.D.Disk.model in
    let old = c.args.self.now in
    let new : CkptLog g.row.D.Denot =
    record { disk = c.read_packed.new.disk; root = old.root; end = old.end; frame = old.frame; length = old.length; limit = old.limit; down = old.down } in
    let unspent : old.root.number < 2 ^ 64 - 1 = search rules in
    let effect = subst (λ e. LooksBy M {X = Vec ℕ Global} old.disk c.read_packed.new.disk (Err e)) c.in-Err-NoMemory.field-0-is c.in-Err-NoMemory.ensures.effect in
    reading_in_vain M old c.requires.intact c.if-self.false unspent new effect refl refl refl refl refl c.if-self.false

pub returns-in-Err-NotOurs-clause-intact : goal.returns-in-Err-NotOurs-clause-intact
returns-in-Err-NotOurs-clause-intact g c =
    let M = g.D.Disk.model in
    let old = c.args.self.now in
    let new : CkptLog g.row.D.Denot =
    record { disk = c.read_packed.new.disk; root = old.root; end = old.end; frame = old.frame; length = old.length; limit = old.limit; down = old.down } in
    let looks : LooksOn M old.disk c.read_packed.new.disk = search rules in
    still_held M old c.requires.intact c.if-self.false new refl refl refl refl looks.1 looks.0.any_moment

pub returns-in-Err-NoMemory-clause-intact : goal.returns-in-Err-NoMemory-clause-intact
returns-in-Err-NoMemory-clause-intact g c =
    let M = g.D.Disk.model in
    let old = c.args.self.now in
    let new : CkptLog g.row.D.Denot =
    record { disk = c.read_packed.new.disk; root = old.root; end = old.end; frame = old.frame; length = old.length; limit = old.limit; down = old.down } in
    let effect = subst (λ e. LooksBy M {X = Vec ℕ Global} old.disk c.read_packed.new.disk (Err e)) c.in-Err-NoMemory.field-0-is c.in-Err-NoMemory.ensures.effect in
    still_held M old c.requires.intact c.if-self.false new refl refl refl refl effect.1 effect.0.any_moment
