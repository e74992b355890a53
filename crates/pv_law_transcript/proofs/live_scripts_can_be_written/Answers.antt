use Rattle.pv_law_transcript.proofs.LiveLemmas.{catalog-written, requests-written}
use Rattle.pv_law_transcript.proofs.live_scripts_can_be_written.Goals as goal

pub returns-clause-catalog : goal.returns-clause-catalog
returns-clause-catalog c text script is = catalog-written text script is

pub returns-clause-requests : goal.returns-clause-requests
returns-clause-requests c text script is = requests-written text script is
