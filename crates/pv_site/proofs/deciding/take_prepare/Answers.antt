use Rattle.std.proofs.Common.{refl, sym, subst}
use Rattle.std.specs.Prelude.{not}
use Rattle.pv_protocol.specs.Records.{is_undecided}
use Rattle.pv_protocol.specs.State as model
use Rattle.pv_site.proofs.deciding.take_prepare.Goals as goal
use Rattle.pv_site.specs.OnLog.{StepsOnLog}
use Rattle.pv_site.specs.SiteParts.{here_of}

pub returns-in-Go-clause-step : goal.returns-in-Go-clause-step
returns-in-Go-clause-step g c =
    let here = here_of c.args.parts.now in
    let went = c.in-Go.ensures.step here (not (is_undecided here.records c.args.txn)) c.args.writes.now (record { is_prepared = c.prepared.ensures; is_known = refl }) refl in
    subst (λ (step : model.Step). StepsOnLog g.L.Log.model c.args.log.now c.promise.new.log c.args.parts.now c.promise.new.parts step c.promise.result) (sym went.2)
    (c.promise.ensures.step went.0 went.1)
