-- A participant votes yes.
use Rattle.std.proofs.Common.{ap, subst, sym, refl}
use Rattle.pv_coord.specs.Coordinator.{CoordMemory}
use Rattle.pv_protocol.specs.State as model
use Rattle.pv_site.proofs.Answered.{with-nothing}
use Rattle.pv_site.proofs.VoteSteps.{yes-last, yes-nothing, yes-waits}
use Rattle.pv_site.specs.OnLog.{Logs, StepsOnLog}
use Rattle.pv_site.proofs.committing.take_yes.Goals as goal

pub returns-in-Ignored-clause-step : goal.returns-in-Ignored-clause-step
returns-in-Ignored-clause-step g c =
    let parts = c.args.parts.now in
    let tied = c.requires.ready.sound.tied in
    let is = yes-nothing parts tied c.args.from.0 c.args.txn (sym c.in-Ignored.ensures) in
    let made = with-nothing parts tied c.nothing.result _ (record { sends = c.nothing.ensures.sends; notes = c.nothing.ensures.notes; locked = c.nothing.ensures.locked }) is in
    (made.0, made.1, subst (λ (s : model.Step). Logs g.L.Log.model c.args.log.now c.args.log.now s.appended) (sym is) refl)

pub returns-in-Wait-clause-step : goal.returns-in-Wait-clause-step
returns-in-Wait-clause-step g c =
    let parts = c.args.parts.now in
    let made = yes-waits parts c.requires.ready.sound.tied c.args.from.0 c.args.txn (sym c.in-Wait.ensures) c.take_vote.new.self
    (ap (λ (memory : CoordMemory). memory.contents) c.take_vote.ensures) c.nothing-in-Wait.result
    (record { sends = c.nothing-in-Wait.ensures.sends; notes = c.nothing-in-Wait.ensures.notes; locked = c.nothing-in-Wait.ensures.locked }) in
    (made.0, made.1, subst (Logs g.L.Log.model c.args.log.now c.args.log.now) (sym made.2) refl)

pub returns-in-Last-clause-step : goal.returns-in-Last-clause-step
returns-in-Last-clause-step g c =
    let parts = c.args.parts.now in
    let last = yes-last parts c.requires.ready.sound.tied c.args.from.0 c.args.txn (sym c.in-Last.ensures) in
    subst (λ (s : model.Step). StepsOnLog g.L.Log.model c.args.log.now c.commit.new.log parts c.commit.new.parts s c.commit.result) (sym last.2)
    (c.commit.ensures.step last.0 last.1)
