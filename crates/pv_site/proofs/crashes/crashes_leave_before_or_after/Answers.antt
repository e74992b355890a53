use Rattle.pv_site.proofs.CrashLemmas.{crash-done, crash-moments, opens-on-records}
use Rattle.pv_site.proofs.crashes.crashes_leave_before_or_after.Goals as goal

pub returns-clause-steps : goal.returns-clause-steps
returns-clause-steps g c = λ old new running input result left is_up steps since. crash-moments g.L.Log.model old new running input is_up result left steps since

pub returns-clause-done : goal.returns-clause-done
returns-clause-done g c = λ old new running input answer left is_up steps may. crash-done g.L.Log.model old new running input is_up answer left steps may

pub returns-clause-openings : goal.returns-clause-openings
returns-clause-openings g c = λ log me catalog records site spelled opened. opens-on-records g.L.Log.model log me catalog records site spelled opened
