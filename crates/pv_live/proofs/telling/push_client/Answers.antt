-- One request more has its line.
use Rattle.std.proofs.Common.{◌∙◌, get_or, refl, sym, ap, subst, arith}
use Rattle.pv_live.proofs.TellLemmas.{request-next, requests-end}
use Rattle.pv_live.specs.Naming.{ToldNamesOnlyItems}
use Rattle.pv_live.proofs.telling.push_client.Goals as goal

pub loop-one-init : goal.loop-one-init
loop-one-init c = record { whole = refl; count = refl }

pub push_told-requires : goal.push_told-requires
push_told-requires c =
    record { items = subst (ToldNamesOnlyItems c.args.catalog.now) (sym c.one-item.is) (c.requires.items c.loop-one.one-index c.one-item.result c.loop-one-test.true) }

pub overflow_add-request : goal.overflow_add-request
overflow_add-request c =
    let same = c.loop-one.invariant.count in
    omega (arith, same, c.loop-one-test.true, c.requires.few)

pub loop-one-preserved : goal.loop-one-preserved
loop-one-preserved c =
    let told = c.args.told.now in
    let same = c.loop-one.invariant.count in
    let i = c.loop-one.request in
    let below = c.loop-one-test.true in
    record {
      whole = request-next c.args.catalog.now c.args.client c.args.site.0 told i c.one-item.result _ c.loop-one.text.items c.push_told.new.text.items (omega (arith, same, below))
          (c.one-item.is ∙ ap (λ k. get_or told k c.one-item.result) (sym same)) c.loop-one.invariant.whole c.in_ok-push_told.ensures;
      count = omega (arith, same);
    }

pub returns : goal.returns
returns c =
    let same = c.loop-one.invariant.count in
    requests-end c.args.catalog.now c.args.client c.args.site.0 c.args.told.now c.loop-one.request _ c.loop-one.text.items (omega (arith, same, c.loop-one-test.false)) c.loop-one.invariant.whole
