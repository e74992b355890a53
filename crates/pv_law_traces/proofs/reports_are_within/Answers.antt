-- The lemmas on reports, totals and lists of messages.
use Rattle.pv_law_traces.proofs.LineRanges.{messages-within, report-within, total-within}
use Rattle.pv_law_traces.proofs.reports_are_within.Goals as goal

pub returns-clause-report : goal.returns-clause-report
returns-clause-report c setup world setup_fine fine ordered = report-within setup setup_fine world fine ordered

pub returns-clause-total : goal.returns-clause-total
returns-clause-total c setup world setup_fine fine = total-within setup setup_fine world fine

pub returns-clause-sent : goal.returns-clause-sent
returns-clause-sent c setup world setup_fine fine few = messages-within setup setup_fine world fine few
