-- An event has happened, by what it is.
use Rattle.std.proofs.Common.{◌<◌, Option, Some, None, refl, sym, subst}
use Rattle.std.specs.Prelude.{OnOk}
use Rattle.pv_disk.specs.declared.arms.Arm.{Arm}
use Rattle.pv_law_decisions.specs.Scene as scenes
use Rattle.pv_law_decisions.specs.Scene.{memory_at, with_arm, without}
use Rattle.pv_quorum_run.proofs.EventLemmas.{armed-stands}
use Rattle.pv_quorum_run.proofs.HappenLemmas.{dropped-stands, happened, silent-happened}
use Rattle.pv_quorum_run.proofs.StandLemmas.{own-stands, with_cell}
use Rattle.pv_quorum_run.specs.Happening.{HasHappened}
use Rattle.pv_quorum_run.specs.Mail.{MailState}
use Rattle.pv_quorum_run.specs.Stands.{StandsFor, seat_at, setup_for}
use Rattle.pv_quorum_script.specs.Fits.{IsEventFor}
use Rattle.pv_quorum_script.specs.declared.event.QuorumEvent.{QuorumEvent}
use Rattle.pv_quorum_script.specs.declared.event.QuorumEvent.TheVariants as events
use Rattle.pv_quorum_script.specs.declared.event.QuorumEvent.TheVariants.{Propose, Deliver, Drop, Stop, Start, Mend}
use Rattle.pv_quorum_run.proofs.table.Table.happen.Goals as goal

pub returns-in-Propose : goal.returns-in-Propose
returns-in-Propose c = λ scene stands.
    let old = c.args.self.now in
    let n = c.in-Propose.decider in
    let txn = c.in-Propose.txn in
    let v = c.in-Propose.commits in
    subst (λ (event : QuorumEvent). OnOk c.propose.result (HasHappened old c.propose.new.self c.args.text.now.items c.propose.new.text.items scene event)) (sym c.in-Propose.is)
    (happened old c.propose.new.self c.args.text.now.items c.propose.new.text.items scene (Propose n txn v) (scenes.proposed (setup_for old) scene n txn v) c.propose.result
    (refl, refl) (c.propose.ensures scene stands))

pub returns-in-Deliver : goal.returns-in-Deliver
returns-in-Deliver c = λ scene stands.
    let old = c.args.self.now in
    let number = c.in-Deliver.number in
    subst (λ (event : QuorumEvent). OnOk c.deliver.result (HasHappened old c.deliver.new.self c.args.text.now.items c.deliver.new.text.items scene event)) (sym c.in-Deliver.is)
    (happened old c.deliver.new.self c.args.text.now.items c.deliver.new.text.items scene (Deliver number) (scenes.delivered (setup_for old) scene number) c.deliver.result (refl, refl)
    (c.deliver.ensures scene stands))

pub returns-in-Drop : goal.returns-in-Drop
returns-in-Drop c = λ scene stands.
    let old = c.args.self.now in
    let n = c.in-Drop.decider in
    subst (λ (event : QuorumEvent). HasHappened old (record old { mail = c.drop_to.new.self }) c.args.text.now.items c.args.text.now.items scene event) (sym c.in-Drop.is)
    (silent-happened old (record old { mail = c.drop_to.new.self }) c.args.text.now.items scene (record scene { fresh = without n scene.world.sent scene.fresh }) (Drop n) (refl, refl)
    (subst (λ (mail : MailState). StandsFor (record old { mail = mail }) (record scene { fresh = without n scene.world.sent scene.fresh })) (sym c.drop_to.ensures)
    (dropped-stands old scene stands n)) refl)

pub returns-in-Stop : goal.returns-in-Stop
returns-in-Stop c = λ scene stands.
    let old = c.args.self.now in
    let n = c.in-Stop.decider in
    subst (λ (event : QuorumEvent). OnOk c.stop.result (HasHappened old c.stop.new.self c.args.text.now.items c.stop.new.text.items scene event)) (sym c.in-Stop.is)
    (happened old c.stop.new.self c.args.text.now.items c.stop.new.text.items scene (Stop n) (scenes.halted (setup_for old) scene n (memory_at scene n)) c.stop.result (refl, refl)
    (c.stop.ensures scene stands))

pub returns-in-Start : goal.returns-in-Start
returns-in-Start c = λ scene stands.
    let old = c.args.self.now in
    let n = c.in-Start.decider in
    subst (λ (event : QuorumEvent). OnOk c.start.result (HasHappened old c.start.new.self c.args.text.now.items c.start.new.text.items scene event)) (sym c.in-Start.is)
    (happened old c.start.new.self c.args.text.now.items c.start.new.text.items scene (Start n) (scenes.begun (setup_for old) scene n (memory_at scene n)) c.start.result (refl, refl)
    (c.start.ensures scene stands))

pub returns-in-Arm : goal.returns-in-Arm
returns-in-Arm c = λ scene stands.
    let old = c.args.self.now in
    let n = c.in-Arm.decider in
    let armed : Option Arm = Some (record { left = c.in-Arm.call; mode = c.in-Arm.mode; stop = c.in-Arm.stop }) in
    let within : n < old.count = (subst (IsEventFor old.count) c.in-Arm.is c.requires.event).0 in
    let own = own-stands old scene stands n within c.index_mut.result.now c.index_mut.ensures.value in
    subst (λ (event : QuorumEvent). HasHappened old (with_cell old n c.arm.new.self old.mail) c.args.text.now.items c.args.text.now.items scene event) (sym c.in-Arm.is)
    (silent-happened old (with_cell old n c.arm.new.self old.mail) c.args.text.now.items scene (with_arm scene n armed) (events.Arm n c.in-Arm.call c.in-Arm.mode c.in-Arm.stop) (refl, refl)
    (armed-stands old scene stands n within c.index_mut.result.now c.index_mut.ensures.value c.arm.new.self armed (c.arm.ensures old.count n (seat_at scene n) own)) refl)

pub returns-in-Mend : goal.returns-in-Mend
returns-in-Mend c = λ scene stands.
    let old = c.args.self.now in
    let n = c.in-Mend.decider in
    let within : n < old.count = subst (IsEventFor old.count) c.in-Mend.is c.requires.event in
    let own = own-stands old scene stands n within c.index_mut-in-Mend.result.now c.index_mut-in-Mend.ensures.value in
    subst (λ (event : QuorumEvent). HasHappened old (with_cell old n c.mend.new.self old.mail) c.args.text.now.items c.args.text.now.items scene event) (sym c.in-Mend.is)
    (silent-happened old (with_cell old n c.mend.new.self old.mail) c.args.text.now.items scene (with_arm scene n None) (Mend n) (refl, refl)
    (armed-stands old scene stands n within c.index_mut-in-Mend.result.now c.index_mut-in-Mend.ensures.value c.mend.new.self None (c.mend.ensures old.count n (seat_at scene n) own)) refl)
