use Rattle.pv_cell.proofs.VisitLemmas.{arrival-visits}
use Rattle.pv_cell.proofs.site_box.SiteBox.visit.Goals as goal
use Rattle.pv_law_histories.proofs.MergingLemmas.{never-both}

pub returns-in-Some-clause-visits : goal.returns-in-Some-clause-visits
returns-in-Some-clause-visits g c =
    arrival-visits g.L.Log.model c.args.self.now c.next_arrival.new.self c.take_arrival.new.self c.in-Some.arrival c.in-Some.count
    (λ worn. never-both c.is_worn.result c.if-is_worn.false (c.is_worn.ensures.1 worn))
    (λ due. never-both c.is_tick_due.result c.if-is_tick_due.false (c.is_tick_due.ensures.1 due))
    c.next_arrival.ensures.changed c.in-Some.ensures.some.0 c.take_arrival.ensures.again c.take_arrival.ensures.same
    c.take_arrival.result c.take_arrival.ensures.takes
