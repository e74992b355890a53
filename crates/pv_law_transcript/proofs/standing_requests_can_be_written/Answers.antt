use Rattle.pv_law_transcript.proofs.MergedLemmas.{asked-written}
use Rattle.pv_law_transcript.proofs.standing_requests_can_be_written.Goals as goal

pub returns : goal.returns
returns c catalog history every = asked-written catalog history every
