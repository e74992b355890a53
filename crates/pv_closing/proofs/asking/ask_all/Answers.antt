-- One request after another is asked for.
use Rattle.std.proofs.Common.{ℕ, ◌<◌, subst}
use Rattle.pv_closing.proofs.ClosingLemmas.{go-further, still-whole}
use Rattle.pv_closing.proofs.StandLemmas.{asks-further}
use Rattle.pv_closing.proofs.asking.ask_all.Goals as goal
use Rattle.pv_closing.specs.Closing.{GoOn}

pub empty-requires : goal.empty-requires
empty-requires g c = still-whole g.L.Log.model c.args.boxes.now.items c.loop.boxes.items c.loop.invariant.on

pub tick_for-requires-clause-whole : goal.tick_for-requires-clause-whole
tick_for-requires-clause-whole g c = still-whole g.L.Log.model c.loop.boxes.items c.empty.new.boxes.items c.empty.ensures.on

pub loop-preserved : goal.loop-preserved
loop-preserved g c =
    let M = g.L.Log.model in
    let both = c.boxes_stay_the_same.ensures.both in
    let old = c.args.boxes.now.items in
    let mid = c.loop.boxes.items in
    let new = c.tick_for.new.boxes.items in
    let later : GoOn M mid new = go-further M both mid c.empty.new.boxes.items new c.empty.ensures.on c.tick_for.ensures.on in
    record {
      on = go-further M both old mid new c.loop.invariant.on later;
      quiet = c.tick_for.ensures.quiet;
      asks = asks-further c.args.ended.now c.loop.ended c.post-posted.new.self c.loop.invariant.asks c.post-posted.ensures.on;
      site = subst (λ (n : ℕ). c.args.site < n) later.0 c.loop.invariant.site;
    }

pub returns-in_err-tick_for-clause-on : goal.returns-in_err-tick_for-clause-on
returns-in_err-tick_for-clause-on g c =
    let M = g.L.Log.model in
    let both = c.boxes_stay_the_same.ensures.both in
    let emptied = c.empty.new.boxes.items in
    let new = c.tick_for.new.boxes.items in
    go-further M both c.args.boxes.now.items c.loop.boxes.items new c.loop.invariant.on
    (go-further M both c.loop.boxes.items emptied new c.empty.ensures.on c.tick_for.ensures.on)
