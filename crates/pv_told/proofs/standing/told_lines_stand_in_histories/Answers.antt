use Rattle.pv_told.proofs.StandingLemmas.{line-merged, line-none, line-own, own-stands}
use Rattle.pv_told.proofs.standing.told_lines_stand_in_histories.Goals as goal

pub returns-clause-own : goal.returns-clause-own
returns-clause-own c me asker history line is = line-own me asker history line is

pub returns-clause-none : goal.returns-clause-none
returns-clause-none c me asker history none = line-none me asker history none

pub returns-clause-stands : goal.returns-clause-stands
returns-clause-stands c me asker history line is = own-stands me asker line history (line-own me asker history line is)

pub returns-clause-merged : goal.returns-clause-merged
returns-clause-merged c histories moments me asker line merge within is = line-merged histories moments me asker line merge within is
