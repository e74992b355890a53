use Rattle.std.proofs.Common.{rules, ◌≡◌, ℕ, ◌++◌, refl, ◌∙◌, subst, true, false, Err}
use Rattle.pv_disk_model.specs.Calls.{none}
use Rattle.pv_disk.specs.declared.disk_error.LookError.TheVariants.{NotOurs}
use Rattle.pv_law_calls.specs.Reading.{LooksBy, LooksOn}
use Rattle.pv_law_checkpoints.proofs.ContentsLemmas.{log_contents_of-log}
use Rattle.pv_law_checkpoints.proofs.OneAnswer.{one_contents}
use Rattle.pv_ckpt.specs.CkptModel.{log_bytes}
use Rattle.pv_ckpt.specs.Reading.{GaveNone}
use Rattle.pv_ckpt.specs.declared.ckpt_log.CkptLog.{CkptLog}
use Rattle.pv_ckpt.specs.declared.reading.Found.{Found}
use Rattle.pv_ckpt.proofs.KeepLemmas.{keeps_log}
use Rattle.pv_ckpt.proofs.LogLemmas.{checkpointed, silent}
use Rattle.pv_ckpt.proofs.OpenLemmas.{found_of_reads, refused_of_reads}
use Rattle.pv_ckpt.proofs.SwitchLemmas.{still_held}
use Rattle.pv_ckpt.proofs.log.CkptLogLog.read_all.Goals as goal

pub returns-then-self-clause-goes : goal.returns-then-self-clause-goes
returns-then-self-clause-goes g c = (record { length = refl; root = refl; end = refl; limit = refl; down = λ ok. refl }, none)

pub returns-in-Ok-clause-contents : goal.returns-in-Ok-clause-contents
returns-in-Ok-clause-contents g c held is =
    let known = log_bytes (g.D.Disk.model.content c.args.self.now.disk) held is in
    let found = c.in-Ok.ensures.found known.0 known.1 in
    found.3 ∙ one_contents (found.0 ++ found.1) held known.0 (checkpointed c.in-Ok.found.root.at found.0 found.1 known.0 found.2.log) (log_contents_of-log held known.0 known.2)

pub returns-in-Ok-clause-effect : goal.returns-in-Ok-clause-effect
returns-in-Ok-clause-effect g c =
    let M = g.D.Disk.model in
    let old = c.args.self.now in
    let new : CkptLog g.row.D.Denot =
    record { disk = c.read_log.new.disk; root = old.root; end = old.end; frame = old.frame; length = old.length; limit = old.limit; down = old.down } in
    let looks = c.in-Ok.ensures.effect in
    (record { was_up = c.if-self.false; is_up = c.if-self.false; faults = looks.2 }, keeps_log M old new c.requires c.if-self.false looks.0.known looks.0.any_moment refl refl)

pub returns-in-Ok-clause-intact : goal.returns-in-Ok-clause-intact
returns-in-Ok-clause-intact g c =
    let M = g.D.Disk.model in
    let old = c.args.self.now in
    let new : CkptLog g.row.D.Denot =
    record { disk = c.read_log.new.disk; root = old.root; end = old.end; frame = old.frame; length = old.length; limit = old.limit; down = old.down } in
    let looks = c.in-Ok.ensures.effect in
    still_held M old c.requires c.if-self.false new refl refl refl refl looks.1 looks.0.any_moment

pub returns-in-Err-Failed-clause-effect : goal.returns-in-Err-Failed-clause-effect
returns-in-Err-Failed-clause-effect g c =
    let M = g.D.Disk.model in
    let old = c.args.self.now in
    let new : CkptLog g.row.D.Denot =
    record { disk = c.read_log.new.disk; root = old.root; end = old.end; frame = old.frame; length = old.length; limit = old.limit; down = true } in
    let effect = subst (λ e. LooksBy M {X = Found} old.disk c.read_log.new.disk (Err e)) c.in-Err-Failed.field-0-is c.in-Err-Failed.ensures.effect in (
      record { was_up = c.if-self.false; is_down = refl; faults = effect.0.faults; fault = effect.1 },
      keeps_log M old new c.requires c.if-self.false effect.0.known effect.0.any_moment refl refl,
    )

pub returns-in-Err-NotOurs-clause-intact : goal.returns-in-Err-NotOurs-clause-intact
returns-in-Err-NotOurs-clause-intact g c =
    let M = g.D.Disk.model in
    let old = c.args.self.now in
    let new : CkptLog g.row.D.Denot =
    record { disk = c.read_log.new.disk; root = old.root; end = old.end; frame = old.frame; length = old.length; limit = old.limit; down = old.down } in
    let looks : LooksOn M old.disk c.read_log.new.disk = search rules in
    still_held M old c.requires c.if-self.false new refl refl refl refl looks.1 looks.0.any_moment

pub returns-in-Err-NoMemory-clause-intact : goal.returns-in-Err-NoMemory-clause-intact
returns-in-Err-NoMemory-clause-intact g c =
    let M = g.D.Disk.model in
    let old = c.args.self.now in
    let new : CkptLog g.row.D.Denot =
    record { disk = c.read_log.new.disk; root = old.root; end = old.end; frame = old.frame; length = old.length; limit = old.limit; down = old.down } in
    let looks : LooksOn M old.disk c.read_log.new.disk = search rules in
    still_held M old c.requires c.if-self.false new refl refl refl refl looks.1 looks.0.any_moment

pub returns-in-Err-NotOurs-clause-effect : goal.returns-in-Err-NotOurs-clause-effect
returns-in-Err-NotOurs-clause-effect g c =
    let up : c.args.self.now.down ≡ false = search rules in (
      search rules,
      search rules,
      silent (g.D.Disk.model.content c.args.self.now.disk) c.in-Err-NotOurs.place
          (λ bytes known. let is = c.requires.at_rest up bytes known in (is.0 ++ is.1, checkpointed c.args.self.now.root.at is.0 is.1 bytes is.2.log))
          (λ bytes known. c.read_log.ensures.not_ours c.in-Err-NotOurs.place (search rules) bytes known),
    )

pub returns-in-Ok-clause-reads : goal.returns-in-Ok-clause-reads
returns-in-Ok-clause-reads g c = found_of_reads g.D.Disk.model c.args.self.now.disk c.read_log.new.disk c.in-Ok.found c.in-Ok.ensures.gave

pub returns-in-Err-NotOurs-clause-reads : goal.returns-in-Err-NotOurs-clause-reads
returns-in-Err-NotOurs-clause-reads g c =
    let M = g.D.Disk.model in
    let old = c.args.self.now.disk in
    let new = c.read_log.new.disk in
    let place = c.in-Err-NotOurs.place in
    let gave = c.read_log.ensures.gave_none place (search rules) in
    refused_of_reads M old new (NotOurs place) (λ other is. let same : place ≡ other = cc in subst (λ (at : ℕ). GaveNone M old new at) same gave)
