-- The box keeps its course, and stays the same.
use Rattle.pv_closing.proofs.ClosingLemmas.{worn-visited}
use Rattle.pv_closing.proofs.emptying.visit_once.Goals as goal

pub returns : goal.returns
returns g c = record {
  on = (
    (c.visit.ensures.is_box, c.boxes_keep_their_course.ensures.visit _ _ _ c.requires.0 c.visit.ensures.visits c.requires.1),
    c.boxes_stay_the_same.ensures.visit _ _ _ c.visit.ensures.visits,
    worn-visited g.L.Log.model _ _ _ c.visit.ensures.visits,
  );
  visits = c.visit.ensures.visits;
}
