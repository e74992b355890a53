use Rattle.pv_coord.specs.Planned.{sites-planned, grant-planned, denial-planned, vote-planned, grants-planned, votes-planned, awaited-planned}
use Rattle.pv_coord.proofs.laws.a_planned_entry_is_the_protocols.Goals as goal

pub returns-clause-participants : goal.returns-clause-participants
returns-clause-participants c = λ here work planned. sites-planned here work planned

pub returns-clause-grant : goal.returns-clause-grant
returns-clause-grant c = λ here work taken planned. grant-planned here work planned taken

pub returns-clause-denial : goal.returns-clause-denial
returns-clause-denial c = λ here work from item planned. denial-planned here work planned from item

pub returns-clause-vote : goal.returns-clause-vote
returns-clause-vote c = λ here work from planned. vote-planned here work planned from

pub returns-clause-all_grants : goal.returns-clause-all_grants
returns-clause-all_grants c = λ here work planned. grants-planned here work planned

pub returns-clause-all_votes : goal.returns-clause-all_votes
returns-clause-all_votes c = λ here work planned. votes-planned here work planned

pub returns-clause-awaited : goal.returns-clause-awaited
returns-clause-awaited c = λ here work planned. awaited-planned here work planned
