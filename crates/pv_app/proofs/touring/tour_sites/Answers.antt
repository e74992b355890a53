-- The text is written in one piece. Where it wasn't made, nothing is.
use Rattle.std.proofs.Common.{rules, Err, List, ℕ, sym, subst}
use Rattle.pv_app.proofs.TourLemmas.{tour-written}
use Rattle.pv_app.specs.TourEnds.{Tells}
use Rattle.pv_show.specs.Bays.{RisesAtBayFault}
use Rattle.pv_show.specs.declared.show_error.ShowError.{ShowError}
use Rattle.pv_app.proofs.touring.tour_sites.Goals as goal

pub returns-in-Ok-clause-told : goal.returns-in-Ok-clause-told
returns-in-Ok-clause-told g c =
    tour-written g.B.Bay.model g.B.D.Disk.model g.W.Sink c.args.tour c.args.catalog.now c.write_all.result c.end_of_told.result c.args.bay.now c.told_of.new.bay c.args.sink.now
    c.write_all.new.sink c.deref.result.now c.end_of_told.ensures
    (subst (λ (text : List ℕ). Tells g.B.Bay.model g.B.D.Disk.model c.args.tour c.args.catalog.now c.args.bay.now c.told_of.new.bay text) (sym c.deref.ensures.value) c.in-Ok.ensures.text)
    c.write_all.ensures.writes.written c.write_all.ensures.writes.prefix

pub returns-in-Err-BayFault-clause-told : goal.returns-in-Err-BayFault-clause-told
returns-in-Err-BayFault-clause-told g c =
    (subst (λ (e : ShowError). RisesAtBayFault g.B.Bay.model {X = ℕ} c.args.bay.now c.told_of.new.bay (Err e)) c.in-Err-BayFault.field-0-is c.in-Err-BayFault.ensures.faults, search rules)
