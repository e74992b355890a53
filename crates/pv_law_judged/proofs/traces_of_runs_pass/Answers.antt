-- The text is the trace of the run, and of that nothing else is found.
use Rattle.pv_law_judged.proofs.JudgedLemmas.{run-passes, run-read}
use Rattle.pv_law_judged.proofs.traces_of_runs_pass.Goals as goal
use Rattle.pv_law_requests.specs.RunTraces.{run_trace}
use Rattle.pv_site.specs.SiteState.{setup_of}

pub returns-clause-trace : goal.returns-clause-trace
returns-clause-trace c = λ input text done. (run_trace (setup_of done.1.catalog) done.1.events, run-read c.run_traces_are_read.ensures input text done)

pub returns-clause-passes : goal.returns-clause-passes
returns-clause-passes c = λ input text trace verdict done is found.
    run-passes c.run_traces_pass.ensures c.one_trace.ensures input text done (run-read c.run_traces_are_read.ensures input text done) trace verdict is found
