-- The lemma on the text of the trace of a run.
use Rattle.pv_law_traces.proofs.run_traces_are_read.Goals as goal
use Rattle.pv_run.specs.Traced.{trace_of}

pub returns : goal.returns
returns c input schedule is within =
    c.traces_are_read.ensures input (trace_of input schedule) schedule is (c.traces_have_each_line.ensures input schedule is) (c.runs_print_within.ensures input schedule is within)
