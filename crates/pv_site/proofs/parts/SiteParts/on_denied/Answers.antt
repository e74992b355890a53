use Rattle.std.proofs.Common.{◌∙◌, subst, sym}
use Rattle.pv_coord.specs.Work.{Work}
use Rattle.pv_protocol.specs.Coordinate.{is_locking}
use Rattle.pv_protocol.specs.State as model
use Rattle.pv_site.proofs.Answered.{with-nothing}
use Rattle.pv_site.proofs.Refused.{denied-nothing, denied-refuses, entry-found}
use Rattle.pv_site.specs.SiteParts.{StepParts}
use Rattle.pv_site.proofs.parts.SiteParts.on_denied.Goals as goal

pub returns-then-not-denied : goal.returns-then-not-denied
returns-then-not-denied c =
    with-nothing c.args.self.now c.requires c.nothing.result _ (record { sends = c.nothing.ensures.sends; notes = c.nothing.ensures.notes; locked = c.nothing.ensures.locked })
    (denied-nothing c.args.self.now c.requires c.args.from.0 c.args.txn c.args.item.0 c.args.holder (sym c.denied.ensures ∙ c.if-not-denied.true))

pub returns : goal.returns
returns c =
    let there = denied-refuses c.args.self.now c.requires c.args.from.0 c.args.txn c.args.item.0 c.args.holder (sym c.denied.ensures ∙ c.if-not-denied.false) in
    subst (λ (step : model.Step). StepParts c.args.self.now c.refuse.new.self step c.refuse.result) (sym there.2)
    (c.refuse.ensures there.0.entry (entry-found c.args.self.now c.requires (λ (work : Work). is_locking work.entry.stage) c.args.txn there.0 there.1))
