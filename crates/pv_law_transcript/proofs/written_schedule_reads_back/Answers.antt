-- The lemma on schedules written out.
use Rattle.pv_law_transcript.proofs.ReadLemmas as lemmas
use Rattle.pv_law_transcript.proofs.written_schedule_reads_back.Goals as goal

pub returns : goal.returns
returns c = λ schedule catalog-is events-are. lemmas.reads-back schedule catalog-is events-are
