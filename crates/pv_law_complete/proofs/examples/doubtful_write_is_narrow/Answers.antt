-- What can't be found by computing alone.
use Rattle.std.proofs.Common.{[]}
use Rattle.pv_base.proofs.ContainsLemmas.{Contains-first}
use Rattle.pv_law_complete.proofs.DoubtfulLemmas.{raised-fine, holds-second, vote-asked}
use Rattle.pv_law_complete.specs.Doubtful.{read}
use Rattle.pv_law_complete.proofs.examples.doubtful_write_is_narrow.Goals as goal

pub returns-clause-events : goal.returns-clause-events
returns-clause-events c = raised-fine

pub returns-clause-taken : goal.returns-clause-taken
returns-clause-taken c = Contains-first read []

pub returns-clause-holds : goal.returns-clause-holds
returns-clause-holds c = holds-second

pub returns-clause-asked : goal.returns-clause-asked
returns-clause-asked c = vote-asked
