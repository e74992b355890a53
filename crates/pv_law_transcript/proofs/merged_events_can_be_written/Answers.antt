use Rattle.pv_law_transcript.proofs.MergedLemmas.{merge-written}
use Rattle.pv_law_transcript.proofs.merged_events_can_be_written.Goals as goal

pub returns : goal.returns
returns c catalog histories moments count merge are small = merge-written catalog histories moments count merge are small
