-- The message is done, and its receiver takes it.
use Rattle.std.proofs.Common.{◌∙◌, ap, refl, sym, subst, Option, Some}
use Rattle.pv_law_decisions.specs.Scene.{with_done}
use Rattle.pv_law_quorum.specs.World as law
use Rattle.pv_law_quorum.specs.World.{Envelope, delivery}
use Rattle.pv_quorum_run.proofs.EventLemmas.{becomes-found, becomes-on, done-stands, each-at, found-envelope, no-message}
use Rattle.pv_quorum_run.specs.Mail.{MailState}
use Rattle.pv_quorum_run.specs.Stands.{IsPosted, StandsFor, setup_for}
use Rattle.pv_quorum_run.proofs.table.Table.deliver.Goals as goal

pub returns-in_default : goal.returns-in_default
returns-in_default c = λ scene stands.
    becomes-on c.args.self.now _ c.args.text.now.items c.push_line.new.text.items _ c.push_line.result _ c.push_line.ensures
    (λ printed. no-message c.args.self.now scene stands c.args.number c.args.text.now.items c.push_line.new.text.items (sym c.get.ensures ∙ c.in_default.is) printed)

pub give-requires-clause-stands : goal.give-requires-clause-stands
give-requires-clause-stands c =
    let old = c.args.self.now in
    let scene = c.requires.0 in (
      with_done scene c.args.number,
      subst (λ (mail : MailState). StandsFor (record old { mail = mail }) (with_done scene c.args.number)) (sym c.finish.ensures) (done-stands old scene c.requires.1 c.args.number),
    )

pub give-requires-clause-decider : goal.give-requires-clause-decider
give-requires-clause-decider c =
    let old = c.args.self.now in
    (each-at (IsPosted old.count) old.mail.sent c.args.number c.in-Some.post c.requires.1.posted (sym c.get.ensures ∙ c.in-Some.is)).to

pub give-requires-clause-input : goal.give-requires-clause-input
give-requires-clause-input c =
    let old = c.args.self.now in
    let posted = each-at (IsPosted old.count) old.mail.sent c.args.number c.in-Some.post c.requires.1.posted (sym c.get.ensures ∙ c.in-Some.is) in
    record { site = posted.site; from = (posted.from, posted.apart) }

pub returns : goal.returns
returns c = λ scene stands.
    let old = c.args.self.now in
    let number = c.args.number in
    let found = sym c.get.ensures ∙ c.in-Some.is in
    let done = subst (λ (mail : MailState). StandsFor (record old { mail = mail }) (with_done scene number)) (sym c.finish.ensures) (done-stands old scene stands number) in
    becomes-found old scene stands number c.in-Some.post found (record old { mail = c.finish.new.self }) c.give.new.self c.args.text.now.items c.give.new.text.items c.give.result
    (c.give.ensures (with_done scene number) (λ ending. delivery number ending) done
    (λ ending. ap (λ (o : Option Envelope). law.delivered (setup_for old) scene.world ending o) (found-envelope old scene stands number (Some c.in-Some.post) found)))
    refl
