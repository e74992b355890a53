-- The text that the trace of a run is written as is that trace, and of that nothing is found but that all agree, or a limit.
use Rattle.std.proofs.Common.{◌≡◌, ℕ, None, All, List, sym, subst}
use Rattle.pv_audit.specs.Findings.{IsVerdict, Verdict}
use Rattle.pv_audit.specs.Traces.{IsTrace, Trace}
use Rattle.pv_law_audits.specs.RightReports.{IsPassed}
use Rattle.pv_law_requests.specs.RunTraces.{run_trace}
use Rattle.pv_law_world.proofs.ScheduleLemmas.{schedule-well}
use Rattle.pv_model.specs.Events.{Event, Schedule}
use Rattle.pv_model.specs.Schedule.{IsSchedule}
use Rattle.pv_protocol.specs.State.{Setup}
use Rattle.pv_protocol.specs.WellFormed.{IsWellFormed}
use Rattle.pv_run.specs.InputAnswers.{IsRunAnswer, within_limit}
use Rattle.pv_run.specs.Traced.{trace_of}
use Rattle.pv_run.specs.declared.form.Form.TheVariants as form
use Rattle.pv_run.specs.declared.status.Status.TheVariants.{Done}
use Rattle.pv_site.specs.SiteState.{setup_of}

-- What `trace` answers where it is done is the text of a run's trace.
pub run-read : ((input : List ℕ) (schedule : Schedule) → IsSchedule input schedule → (within_limit schedule).over ≡ None
    → IsTrace (trace_of input schedule) (run_trace (setup_of schedule.catalog) schedule.events))
    → (input text : List ℕ) (done : IsRunAnswer form.Trace input Done text) → IsTrace text (run_trace (setup_of done.1.catalog) done.1.events)
run-read reads input text done = subst (λ (t : List ℕ). IsTrace t (run_trace (setup_of done.1.catalog) done.1.events)) (sym done.4) (reads input done.1 done.2 done.3)

module _ (passes : (setup : Setup) (events : List Event) (verdict : Verdict) → All (IsWellFormed setup.catalog) events → IsVerdict (run_trace setup events) verdict → IsPassed verdict)
    (one : (text : List ℕ) (trace other : Trace) → IsTrace text trace → IsTrace text other → trace ≡ other) where
  -- It is that alone, so nothing else is found of it.
  pub run-passes : (input text : List ℕ) (done : IsRunAnswer form.Trace input Done text) → IsTrace text (run_trace (setup_of done.1.catalog) done.1.events)
      → (trace : Trace) (verdict : Verdict) → IsTrace text trace → IsVerdict trace verdict → IsPassed verdict
  run-passes input text done read trace verdict is found =
      let setup = setup_of done.1.catalog in
      let same = one text trace (run_trace setup done.1.events) is read in
      passes setup done.1.events verdict (schedule-well input done.1 done.2) (subst (λ (t : Trace). IsVerdict t verdict) same found)
