use Rattle.std.proofs.Common.{sym, subst}
use Rattle.pv_cell.proofs.site_box.SiteBox.take_arrival.Goals as goal
use Rattle.pv_cell.specs.Visits.{TakesArrival}
use Rattle.pv_mail.specs.declared.arrival.Arrival.{Arrival}

pub returns-in-Parcel-clause-takes : goal.returns-in-Parcel-clause-takes
returns-in-Parcel-clause-takes g c =
    subst (λ (came : Arrival). TakesArrival g.L.Log.model c.args.self.now c.take_parcel.new.self came c.take_parcel.result) (sym c.in-Parcel.is)
    c.take_parcel.ensures.takes
