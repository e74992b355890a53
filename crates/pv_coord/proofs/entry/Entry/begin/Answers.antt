use Rattle.pv_coord.proofs.RoomLemmas.{room-begun}
use Rattle.pv_coord.proofs.entry.Entry.begin.Goals as goal

pub invariant_of-result : goal.invariant_of-result
invariant_of-result c = room-begun _ _ c.as_slice-participants.ensures.value c.in_ok-taken.ensures.len c.in_ok-votes.ensures.len c.in_ok-taken.ensures.exact c.in_ok-votes.ensures.exact
