-- A fault of the schedule in a trace, as one of the trace.
use Rattle.pv_audit.specs.declared.trace.TraceError.{TraceError}
use Rattle.pv_audit.specs.declared.trace.TraceError.TheVariants as trace
use Rattle.pv_script.specs.declared.schedule.ScriptError.{ScriptError}
use Rattle.pv_script.specs.declared.schedule.ScriptError.TheVariants.{Malformed, NoMemory}

abbrev pub trace_error_of : ScriptError → TraceError
trace_error_of (Malformed line cause) = trace.Malformed line cause
trace_error_of NoMemory = trace.NoMemory
