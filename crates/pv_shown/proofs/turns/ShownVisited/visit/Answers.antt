-- The box stays the one that it was, and its history grows.
use mathlib.Core.List.{IsPrefix}
use Rattle.std.proofs.Common.{subst}
use Rattle.pv_shown.proofs.SightLemmas.{sights-grow}
use Rattle.pv_shown.proofs.turns.ShownVisited.visit.Goals as goal
use Rattle.pv_shown.specs.Sights.{sights_of}

pub visit-requires : goal.visit-requires
visit-requires g c = c.self.invariant.0

pub invariant_of-self : goal.invariant_of-self
invariant_of-self g c =
    let kept = c.self.invariant in (
      c.visit.ensures.is_box,
      c.boxes_keep_their_course.ensures.visit _ _ _ kept.0 c.visit.ensures.visits kept.1,
      c.boxes_stay_the_same.ensures.both _ _ _ kept.2 (c.boxes_stay_the_same.ensures.visit _ _ _ c.visit.ensures.visits),
    )

pub returns : goal.returns
returns g c =
    subst (λ old. IsPrefix (sights_of old) (sights_of (c.visit.new.self, c.self.inside.first.value))) c.self.view_is
    (sights-grow g.L.Log.model c.self.inside.first.value c.self.inside.inner c.visit.new.self (c.boxes_stay_the_same.ensures.visit _ _ _ c.visit.ensures.visits))
