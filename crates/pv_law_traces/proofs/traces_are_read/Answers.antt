-- The lemma on the text of a trace.
use Rattle.pv_law_traces.proofs.TracedParts.{trace-read}
use Rattle.pv_law_traces.proofs.traces_are_read.Goals as goal

pub returns : goal.returns
returns c input text schedule is traced whole =
    let named = c.schedules_name_items_apart.ensures input schedule is in
    trace-read input text schedule (λ line has. c.printed_lines_are_text.ensures schedule.catalog line named.names has)
    (λ line. c.printed_lines_are_entries.ensures schedule.catalog line) is traced whole
