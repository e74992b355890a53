-- One client more has its lines.
use Rattle.std.proofs.Common.{◌≡◌, ◌∙◌, ◌++◌, ◌<◌, ◌^◌, Vec, List, All, length, get_or, refl, sym, ap, subst, arith}
use Rattle.std.specs.declared.alloc.Global.{Global}
use Rattle.pv_told.specs.declared.line.ClientLine.{ClientLine}
use Rattle.pv_transcript.specs.Heard.{client_text}
use Rattle.pv_live.proofs.TellLemmas.{client-next, clients-end}
use Rattle.pv_live.specs.Naming.{ToldNamesOnlyItems}
use Rattle.pv_live.specs.Told.{all_heard_by}
use Rattle.pv_live.proofs.telling.push_clients.Goals as goal

pub loop-client-init : goal.loop-client-init
loop-client-init c = record { whole = refl; count = refl }

pub bounds-told-number : goal.bounds-told-number
bounds-told-number c =
    let same = c.loop-client.invariant.count in
    let many = c.requires.few.0 in
    omega (arith, same, many, c.loop-client-test.true)

pub push_client-requires-clause-items : goal.push_client-requires-clause-items
push_client-requires-clause-items c =
    let same = c.loop-client.invariant.count in
    let many = c.requires.few.0 in
    let lines = c.index-told-number.result in
    subst (All (ToldNamesOnlyItems c.args.catalog.now)) (sym c.deref.ensures.value)
    (subst (λ (those : Vec ClientLine Global). All (ToldNamesOnlyItems c.args.catalog.now) those.items) (sym c.index-told-number.is)
    (c.requires.items c.loop-client.number lines (omega (arith, same, many, c.loop-client-test.true))))

pub push_client-requires-clause-few : goal.push_client-requires-clause-few
push_client-requires-clause-few c =
    let same = c.loop-client.invariant.count in
    let many = c.requires.few.0 in
    let lines = c.index-told-number.result in
    subst (λ (them : List ClientLine). length them < 2 ^ 32) (sym c.deref.ensures.value)
    (subst (λ (those : Vec ClientLine Global). length those.items < 2 ^ 32) (sym c.index-told-number.is)
    (c.requires.few.2 c.loop-client.number lines (omega (arith, same, many, c.loop-client-test.true))))

pub overflow_add-number : goal.overflow_add-number
overflow_add-number c =
    let same = c.loop-client.invariant.count in
    let many = c.requires.few.1 in
    omega (arith, same, many, c.loop-client-test.true)

pub loop-client-preserved : goal.loop-client-preserved
loop-client-preserved c =
    let clients = c.args.clients.now in
    let told = c.args.told.now in
    let same = c.loop-client.invariant.count in
    let many = c.requires.few.0 in
    let i = c.loop-client.number in
    let client = c.client-item.result in
    let below = c.loop-client-test.true in
    let before = c.loop-client.text.items in
    let after = c.push_client.new.text.items in
    let written : after ≡ before ++ client_text c.args.catalog.now i 0 (all_heard_by client.site.0 c.index-told-number.result.items) =
    subst (λ (them : List ClientLine). after ≡ before ++ client_text c.args.catalog.now i 0 (all_heard_by client.site.0 them)) c.deref.ensures.value c.in_ok-push_client.ensures in
    record {
      whole = client-next c.args.catalog.now clients told i client c.index-told-number.result _ before after (omega (arith, same, below))
          (c.client-item.is ∙ ap (λ k. get_or clients k client) (sym same)) (omega (arith, same, below, many)) c.index-told-number.is c.loop-client.invariant.whole written;
      count = omega (arith, same);
    }

pub returns : goal.returns
returns c =
    let same = c.loop-client.invariant.count in
    clients-end c.args.catalog.now c.args.clients.now c.args.told.now c.loop-client.number _ c.loop-client.text.items (omega (arith, same, c.loop-client-test.false)) c.loop-client.invariant.whole
