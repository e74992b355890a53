-- The box keeps its course, and stays the same.
use Rattle.pv_closing.proofs.ClosingLemmas.{worn-ticked}
use Rattle.pv_closing.proofs.emptying.tick.Goals as goal

pub returns : goal.returns
returns g c = (
  (c.tick.ensures.is_box, c.boxes_keep_their_course.ensures.tick _ _ _ c.requires.0 c.tick.ensures.takes c.requires.1),
  c.boxes_stay_the_same.ensures.tick _ _ _ c.tick.ensures.takes,
  worn-ticked g.L.Log.model _ _ _ c.tick.ensures.takes,
)
