-- One time follows another.
use Rattle.pv_closing.proofs.ClosingLemmas.{go-further, go-nowhere, still-whole}
use Rattle.pv_closing.proofs.emptying.tick_and_empty.Goals as goal

pub loop-init : goal.loop-init
loop-init g c = record {
  on = go-nowhere g.L.Log.model c.boxes_stay_the_same.ensures.none c.args.boxes.now.items c.requires.whole;
  quiet = c.requires.quiet;
}

pub tick_all-requires : goal.tick_all-requires
tick_all-requires g c = still-whole g.L.Log.model c.args.boxes.now.items c.loop.boxes.items c.loop.invariant.on

pub empty-requires : goal.empty-requires
empty-requires g c = still-whole g.L.Log.model c.loop.boxes.items c.tick_all.new.boxes.items c.tick_all.ensures

pub loop-preserved : goal.loop-preserved
loop-preserved g c =
    let M = g.L.Log.model in
    let both = c.boxes_stay_the_same.ensures.both in
    let old = c.args.boxes.now.items in
    let ticked = c.tick_all.new.boxes.items in
    let new = c.empty.new.boxes.items in
    record {
      on = go-further M both old ticked new (go-further M both old c.loop.boxes.items ticked c.loop.invariant.on c.tick_all.ensures) c.empty.ensures.on;
      quiet = c.empty.ensures.quiet;
    }
