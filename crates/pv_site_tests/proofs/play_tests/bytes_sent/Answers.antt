-- Each message that is left has a spelling.
use Rattle.std.proofs.Common.{rules, length, sym, subst}
use Rattle.std.proofs.lemmas.Iterator.Adapters.{YieldsList-from_vec}
use Rattle.std.proofs.lemmas.Iterator.Consumers.{YieldsList-turn}
use Rattle.pv_site.specs.Inputs.{IsSpelledFrom}
use Rattle.pv_site_tests.proofs.play_tests.bytes_sent.Goals as goal

pub push_sent-requires : goal.push_sent-requires
push_sent-requires c =
    let turn = YieldsList-turn (YieldsList-from_vec {s = c.into_iter-outgoing-iterator.result} c.args.sends.items (search rules) (search rules)) c.loop-outgoing.yielded
    c.loop-outgoing.outgoing-iterator c.loop-outgoing.yielded_by c.next.result c.next.new.self c.in-Some.outgoing c.in-Some.is c.next.ensures.steps in
    subst (IsSpelledFrom c.args.me.0) (sym turn.1) (c.requires (length c.loop-outgoing.yielded) c.in-Some.outgoing turn.0)
