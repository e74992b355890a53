use Rattle.std.proofs.Common.{rules, length, map, sym, subst, ◌∙◌}
use Rattle.std.proofs.lemmas.Iterator.Adapters.{YieldsList-from_vec}
use Rattle.std.proofs.lemmas.Iterator.Consumers.{YieldsList-so_far, YieldsList-turn}
use Rattle.pv_protocol.specs.World.{from_site, with_sent}
use Rattle.pv_site.specs.Inputs.{IsSpelledFrom}
use Rattle.pv_site.specs.Values.{outgoing_of}
use Rattle.pv_world.proofs.SendLemmas.{over-result, sent-more, sends-over, split-at}
use Rattle.pv_world.specs.Stands.{Stands}
use Rattle.pv_world.proofs.world.World.send_all.Goals as goal

pub send-requires : goal.send-requires
send-requires c =
    let turn = YieldsList-turn (YieldsList-from_vec {s = c.into_iter-outgoing-iterator.result} c.args.sends.items (search rules) (search rules)) c.loop-outgoing.yielded
    c.loop-outgoing.outgoing-iterator c.loop-outgoing.yielded_by c.next.result c.next.new.self c.in-Some.outgoing c.in-Some.is c.next.ensures.steps in
    subst (IsSpelledFrom c.args.from.0) (sym turn.1) (c.requires (length c.loop-outgoing.yielded) c.in-Some.outgoing turn.0)

pub loop-outgoing-preserved : goal.loop-outgoing-preserved
loop-outgoing-preserved c is stands =
    let before = c.loop-outgoing.invariant is stands in
    let sent = c.in_ok-send.ensures (with_sent is (from_site c.args.from.0 (map outgoing_of c.loop-outgoing.yielded))) before.0 in (
      subst (Stands c.send.new.self) (sent-more is c.args.from.0 c.loop-outgoing.yielded c.in-Some.outgoing) sent.0,
      record { catalog = sent.1.catalog ∙ before.1.catalog; limit = sent.1.limit ∙ before.1.limit },
    )

pub returns-in_err-send : goal.returns-in_err-send
returns-in_err-send c is stands =
    let before = c.loop-outgoing.invariant is stands in
    let sent = c.in_err-send.ensures (with_sent is (from_site c.args.from.0 (map outgoing_of c.loop-outgoing.yielded))) before.0 in
    let e = YieldsList-from_vec {s = c.into_iter-outgoing-iterator.result} c.args.sends.items (search rules) (search rules) in
    let turn = YieldsList-turn e c.loop-outgoing.yielded
    c.loop-outgoing.outgoing-iterator c.loop-outgoing.yielded_by c.next.result c.next.new.self c.in-Some.outgoing c.in-Some.is c.next.ensures.steps in
    let far = YieldsList-so_far e c.loop-outgoing.yielded c.loop-outgoing.outgoing-iterator c.loop-outgoing.yielded_by in
    let split = split-at c.args.sends.items c.loop-outgoing.yielded c.in-Some.outgoing turn.0 turn.1 far in
    over-result (Unit {0}) c.args.self.now c.send.new.self _ c.from_residual.result c.in_err-send.field-0.0 c.from_residual.ensures.1
    (sends-over (Unit {0}) c.args.self.now c.loop-outgoing.self c.send.new.self c.send.new.self is c.args.from.0 c.args.sends.items c.loop-outgoing.yielded split.back c.in-Some.outgoing
    c.in_err-send.field-0.0 before.1 split.is sent)
