use Rattle.std.proofs.Common.{map}
use Rattle.pv_model.specs.LiveScript.{requests_among}
use Rattle.pv_script.specs.LiveView.{request_of, wish_of}
use Rattle.pv_opening.proofs.MeetLemmas.{copied-more}
use Rattle.pv_opening.proofs.meeting.copies.Goals as goal

pub loop-wish-preserved : goal.loop-wish-preserved
loop-wish-preserved c =
    let wishes = c.args.wishes.now in
    copied-more (map request_of c.loop-wish.copies.items) _ wishes c.loop-wish.wish-index c.wish-item.result (requests_among (map wish_of wishes)) c.loop-wish.invariant
    c.loop-wish-test.true c.wish-item.is c.in_ok-push_copy.ensures
