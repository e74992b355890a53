-- One ring after another is looked at.
use Rattle.std.proofs.Common.{◌<◌, ◌≤◌, length, arith}
use Rattle.pv_rings.proofs.RingLemmas.{found-more, is-first, none-yet}
use Rattle.pv_rings.proofs.taking.take_among.Goals as goal

pub loop-ring-init : goal.loop-ring-init
loop-ring-init g c = (c.requires.0, none-yet c.args.from c.args.rings.now.items)

pub loop-ring-preserved : goal.loop-ring-preserved
loop-ring-preserved g c =
    let at = c.loop-ring.ring in
    let less : at < c.args.to = c.loop-ring-test.true in
    let long : c.args.to ≤ length c.args.rings.now.items = c.requires.1 in
    let within : at < length c.args.rings.now.items = omega arith in (
      omega arith,
      found-more c.args.from at c.args.rings.now.items c.loop-ring.rings.items c.index_mut.result.now c.take.new.self c.loop-ring.auto.ring within c.loop-ring.invariant.1
          c.index_mut.ensures.value ((c.take.ensures.ring, c.in_default.ensures.none.0), c.in_default.ensures.none.1),
    )

pub returns-in-Some-clause-turn : goal.returns-in-Some-clause-turn
returns-in-Some-clause-turn g c =
    let at = c.loop-ring.ring in
    let less : at < c.args.to = c.loop-ring-test.true in
    let long : c.args.to ≤ length c.args.rings.now.items = c.requires.1 in
    let within : at < length c.args.rings.now.items = omega arith in
    is-first c.args.from at c.args.rings.now.items c.loop-ring.rings.items c.index_mut.result.now c.take.new.self c.loop-ring.auto.ring within c.loop-ring.invariant.1
    c.index_mut.ensures.value c.args.to less
