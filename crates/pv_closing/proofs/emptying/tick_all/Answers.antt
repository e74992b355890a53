-- One site after another ticks.
use Rattle.std.proofs.Common.{◌<◌, length, arith, sym, subst}
use Rattle.pv_closing.proofs.ClosingLemmas.{go-nowhere, one-goes, still-whole}
use Rattle.pv_closing.proofs.emptying.tick_all.Goals as goal
use Rattle.pv_closing.specs.Closing.{IsWhole}

pub loop-at-init : goal.loop-at-init
loop-at-init g c = go-nowhere g.L.Log.model c.boxes_stay_the_same.ensures.none c.args.boxes.now.items c.requires

pub tick-requires : goal.tick-requires
tick-requires g c =
    let M = g.L.Log.model in
    let x = c.index_mut.result.now in
    let mid = c.loop-at.boxes.items in
    let within : c.loop-at.at < length mid = omega (arith, c.loop-at-test.true, c.len-at-end.ensures, c.args.boxes.now.ok.0, c.loop-at.invariant.0) in
    subst (IsWhole M) (sym c.index_mut.ensures.value) (still-whole M c.args.boxes.now.items mid c.loop-at.invariant c.loop-at.at x within)

pub loop-at-preserved : goal.loop-at-preserved
loop-at-preserved g c =
    let M = g.L.Log.model in
    let at = c.loop-at.at in
    let mid = c.loop-at.boxes.items in
    let within : at < length mid = omega (arith, c.loop-at-test.true, c.len-at-end.ensures, c.args.boxes.now.ok.0, c.loop-at.invariant.0) in
    one-goes M c.boxes_stay_the_same.ensures.both c.args.boxes.now.items mid at c.index_mut.result.now c.tick.new.one c.loop-at.invariant within
    c.index_mut.ensures.value c.tick.ensures
