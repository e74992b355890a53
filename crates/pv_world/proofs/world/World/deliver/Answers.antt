use Rattle.std.proofs.Common.{Some, refl, ap, sym, ◌∙◌}
use Rattle.std.specs.Prelude.{slice_get}
use Rattle.pv_protocol.specs.Attempt.{delivered}
use Rattle.pv_protocol.specs.World.{with_done}
use Rattle.pv_script.specs.declared.line.Line.TheVariants.{NoMessage}
use Rattle.pv_site.specs.SiteState.{setup_of}
use Rattle.pv_world.proofs.ChangeLemmas.{ends-come}
use Rattle.pv_world.proofs.DeliverLemmas.{can-take, delivered-comes, delivered-none, found, none-found, orderly, orderly-done}
use Rattle.pv_world.proofs.EventLemmas.{reached-delivered}
use Rattle.pv_world.proofs.StandLemmas.{stands-done}
use Rattle.pv_world.proofs.world.World.deliver.Goals as goal

pub returns-in_default : goal.returns-in_default
returns-in_default c is stands =
    let world = c.args.self.now in
    let none = none-found world.mail.posts is.sent c.args.number stands.stands.sent c.in_default.ensures in
    ends-come world _ c.args.lines.now.items c.push.new.self.items (delivered (setup_of world.catalog) is c.args.number (slice_get is.sent c.args.number))
    (NoMessage c.args.number) c.in_ok-push.field-0
    (record { next = is; ends = delivered-none (setup_of world.catalog) is c.args.number none; stands = stands.stands }) (record { catalog = refl; limit = refl }) c.in_ok-push.ensures.items

pub envelope-requires : goal.envelope-requires
envelope-requires c =
    let message = found c.args.self.now.mail.posts c.requires.0.sent c.args.number c.in-Some.bytes.now c.requires.1.stands.sent c.in-Some.ensures in
    (message.envelope, message.spells)

pub give-requires : goal.give-requires
give-requires c =
    let world = c.args.self.now in
    let is = c.requires.0 in
    let stands = c.requires.1 in
    let laws = c.reached_worlds_are_lawful.ensures (setup_of world.catalog) in
    let lawful = laws is stands.range stands.reached in
    let after = laws _ stands.range (reached-delivered (setup_of world.catalog) is stands.reached c.args.number) in
    let message = found world.mail.posts is.sent c.args.number c.in-Some.bytes.now stands.stands.sent c.in-Some.ensures in
    let same = c.in_ok-envelope.ensures.one message.envelope message.spells in
    can-take world (record world { mail = c.finish.new.self }) is c.args.number lawful (record { catalog = refl; limit = ap (λ mail. mail.limit) c.finish.ensures })
    (stands-done world is stands.stands (record world { mail = c.finish.new.self }) refl refl refl c.args.number c.finish.ensures)
    c.in_ok-envelope.envelope c.in-Some.bytes.now (message.there ∙ ap Some (sym same)) c.in_ok-envelope.ensures.spelled after.replayable _ refl

pub returns : goal.returns
returns c is stands =
    let world = c.args.self.now in
    let lawful = c.reached_worlds_are_lawful.ensures _ is stands.range stands.reached in
    let message = found world.mail.posts is.sent c.args.number c.in-Some.bytes.now stands.stands.sent c.in-Some.ensures in
    let same = c.in_ok-envelope.ensures.one message.envelope message.spells in
    let done = stands-done world is stands.stands (record world { mail = c.finish.new.self }) refl refl refl c.args.number c.finish.ensures in
    delivered-comes world (record world { mail = c.finish.new.self }) is c.args.number lawful (record { catalog = refl; limit = ap (λ mail. mail.limit) c.finish.ensures }) done
    c.in_ok-envelope.envelope c.in-Some.bytes.now (message.there ∙ ap Some (sym same)) c.in_ok-envelope.ensures.spelled
    c.give.new.self c.args.lines.now.items c.give.new.lines.items c.give.result
    (c.give.ensures (with_done is c.args.number) done (orderly-done (setup_of world.catalog) is c.args.number (orderly world is stands lawful)))
