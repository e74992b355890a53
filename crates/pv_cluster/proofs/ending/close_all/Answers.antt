-- One closing round follows another, until nothing is left in the rings of clients.
use Rattle.pv_closing.specs.Closing.{GoOn}
use Rattle.pv_cluster.proofs.LookedLemmas.{looked-ask}
use Rattle.pv_cluster.proofs.StillLemmas.{all-go, all-whole, became-on, became-self}
use Rattle.pv_cluster.proofs.ending.close_all.Goals as goal

pub loop-init : goal.loop-init
loop-init g c = record {
  on = became-self g.L.Log.model c.boxes_stay_the_same.ensures.none c.args.boxes.now.items;
  standing = c.requires.standing;
}

pub loop-preserved : goal.loop-preserved
loop-preserved g c =
    let M = g.L.Log.model in
    let both = c.boxes_stay_the_same.ensures.both in
    let script = c.args.script.now in
    let old = c.args.boxes.now.items in
    let mid = c.loop.boxes.items in
    let round = c.close_round.new.boxes.items in
    let asked = c.close_round.new.clients.items in
    let new = c.look_at_clients.new.boxes.items in
    let standing = c.in_ok-close_round.ensures.standing in
    let last : GoOn M round new =
    all-go M c.boxes_lend_their_ends.ensures.is_box c.boxes_lend_their_ends.ensures.course c.boxes_lend_their_ends.ensures.same round new
    (all-whole M script round asked standing) c.look_at_clients.ensures.still in
    record {
      on =
          became-on M both old round new (became-on M both old mid round c.loop.invariant.on c.close_round.ensures.on) last;
      standing =
          c.boxes_stand_on.ensures.together script round new asked c.look_at_clients.new.clients.items standing last
          (looked-ask asked c.look_at_clients.new.clients.items c.look_at_clients.ensures.looked);
    }

pub returns-then-look_at_clients : goal.returns-then-look_at_clients
returns-then-look_at_clients g c =
    let M = g.L.Log.model in
    let both = c.boxes_stay_the_same.ensures.both in
    let script = c.args.script.now in
    let old = c.args.boxes.now.items in
    let mid = c.loop.boxes.items in
    let round = c.close_round.new.boxes.items in
    let asked = c.close_round.new.clients.items in
    let new = c.look_at_clients.new.boxes.items in
    let standing = c.in_ok-close_round.ensures.standing in
    let last : GoOn M round new =
    all-go M c.boxes_lend_their_ends.ensures.is_box c.boxes_lend_their_ends.ensures.course c.boxes_lend_their_ends.ensures.same round new
    (all-whole M script round asked standing) c.look_at_clients.ensures.still in
    record {
      on =
          became-on M both old round new (became-on M both old mid round c.loop.invariant.on c.close_round.ensures.on) last;
      closed = record {
        round = round;
        asking = asked;
        standing = standing;
        closed = c.in_ok-close_round.ensures.closed;
        quiet = c.in_ok-close_round.ensures.quiet;
        asked = c.in_ok-close_round.ensures.asked;
        still = c.look_at_clients.ensures.still;
        once = c.look_at_clients.ensures.once;
        taken = c.look_at_clients.ensures.taken c.if-look_at_clients.true;
      };
    }
