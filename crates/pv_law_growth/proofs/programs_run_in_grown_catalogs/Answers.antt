use Rattle.pv_law_growth.proofs.GrowthLemmas.{runs-still, same-participants, same-wants-of}
use Rattle.pv_law_growth.proofs.programs_run_in_grown_catalogs.Goals as goal

pub returns-clause-run : goal.returns-clause-run
returns-clause-run c catalog later program grown can = runs-still catalog later grown program can

pub returns-clause-participants : goal.returns-clause-participants
returns-clause-participants c catalog later program grown can = same-participants catalog later grown program can

pub returns-clause-wants : goal.returns-clause-wants
returns-clause-wants c catalog later program site grown can = same-wants-of catalog later grown program can site
