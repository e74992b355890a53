-- The lemmas on lines without the blanks at their ends.
use Rattle.pv_law_traces.proofs.SaysLemmas.{declares-bare, event-bare}
use Rattle.pv_law_traces.proofs.blanks_say_nothing.Goals as goal

pub returns-clause-event : goal.returns-clause-event
returns-clause-event c before line event is = event-bare line before event is

pub returns-clause-declares : goal.returns-clause-declares
returns-clause-declares c before after line kind is = declares-bare line before after kind is
