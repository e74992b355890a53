-- That both assignments fit isn't found by computing alone.
use Rattle.pv_law_answers.proofs.AskerLemmas.{asked-fine, without-fits, with-fits}
use Rattle.pv_law_answers.proofs.examples.doubt_gives_two_answers.Goals as goal

pub returns-clause-events : goal.returns-clause-events
returns-clause-events c = asked-fine

pub returns-clause-fits_without : goal.returns-clause-fits_without
returns-clause-fits_without c = without-fits

pub returns-clause-fits_with : goal.returns-clause-fits_with
returns-clause-fits_with c = with-fits
