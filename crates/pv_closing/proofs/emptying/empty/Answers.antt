-- One round follows another.
use Rattle.pv_closing.proofs.ClosingLemmas.{go-further, go-nowhere, still-whole}
use Rattle.pv_closing.proofs.emptying.empty.Goals as goal

pub loop-init : goal.loop-init
loop-init g c = go-nowhere g.L.Log.model c.boxes_stay_the_same.ensures.none c.args.boxes.now.items c.requires

pub visit_all-requires : goal.visit_all-requires
visit_all-requires g c = still-whole g.L.Log.model c.args.boxes.now.items c.loop.boxes.items c.loop.invariant

pub loop-preserved : goal.loop-preserved
loop-preserved g c =
    go-further g.L.Log.model c.boxes_stay_the_same.ensures.both c.args.boxes.now.items c.loop.boxes.items c.visit_all.new.boxes.items c.loop.invariant
    c.visit_all.ensures.on

pub returns-then-not-visit_all : goal.returns-then-not-visit_all
returns-then-not-visit_all g c = record {
  on =
      go-further g.L.Log.model c.boxes_stay_the_same.ensures.both c.args.boxes.now.items c.loop.boxes.items c.visit_all.new.boxes.items c.loop.invariant
      c.visit_all.ensures.on;
  quiet = c.visit_all.ensures.quiet c.if-not-visit_all.true;
}
