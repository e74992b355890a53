-- Traces and their faults, as the plain data of the definitions.
use Rattle.std.specs.Prelude.{ℕ, List, Option, Some, None, map}
use Rattle.pv_audit.specs.Traces as model_traces
use Rattle.pv_audit.specs.TraceFaults as model_faults
use Rattle.pv_audit.specs.declared.trace.Trace.{Trace}
use Rattle.pv_audit.specs.declared.trace.TracePart.{TracePart}
use Rattle.pv_audit.specs.declared.trace.TraceError.{TraceError}
use Rattle.pv_audit.specs.declared.trace.TraceError.TheVariants.{Malformed, NoMemory}
use Rattle.pv_model.specs.LineCauses.{LineCause}
use Rattle.pv_script.specs.LineView.{line_of}
use Rattle.pv_script.specs.ScheduleView.{event_of}
use Rattle.pv_script.specs.ScriptErrors.{line_cause_of}

abbrev pub part_of : TracePart → model_traces.TracePart
part_of part = record { event = event_of part.event; lines = map line_of part.lines.items }

abbrev pub trace_of : Trace → model_traces.Trace
trace_of trace = record { catalog = trace.catalog; parts = map part_of trace.parts.items }

-- A line, by its number, and why a text is no trace there.
pub record RefusedEntry : Type 0 where
  pub number : ℕ
  pub cause : LineCause

-- The text is no trace: it is malformed at this line, for this cause.
abbrev pub IsNoTraceAt : List ℕ → RefusedEntry → Type 0
IsNoTraceAt text refused = model_faults.IsNoTrace text refused.number refused.cause

-- the line that an error names
abbrev pub refused_entry : TraceError → Option RefusedEntry
refused_entry (Malformed line reported) = Some (record { number = line; cause = line_cause_of reported })
refused_entry NoMemory = None
