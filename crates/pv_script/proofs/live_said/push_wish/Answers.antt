-- The last client is written back with one thing more that it wants.
use Rattle.std.proofs.Common.{refl, vec_len, arith}
use Rattle.pv_script.proofs.LiveSaidLemmas.{push-clients, push-plans}
use Rattle.pv_script.proofs.live_said.push_wish.Goals as goal

pub returns-in_ok-push-clause-clients : goal.returns-in_ok-push-clause-clients
returns-in_ok-push-clause-clients c =
    push-clients c.args.clients.now.items (vec_len c.args.clients.now) c.in-Some.client.now _ c.args.wish (omega (arith, c.args.clients.now.ok.0))
    (let some = c.in-Some.ensures.item.3.0 in omega (arith, some)) c.in-Some.ensures.value refl c.in_ok-push.ensures.items

pub returns-in_ok-push-clause-plans : goal.returns-in_ok-push-clause-plans
returns-in_ok-push-clause-plans c = λ catalog each plan.
    push-plans catalog c.args.clients.now.items (vec_len c.args.clients.now) c.in-Some.client.now _ c.args.wish (omega (arith, c.args.clients.now.ok.0))
    (let some = c.in-Some.ensures.item.3.0 in omega (arith, some)) c.in-Some.ensures.value c.in_ok-push.ensures.items each plan
