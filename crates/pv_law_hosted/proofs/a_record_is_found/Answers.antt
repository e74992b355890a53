use Rattle.std.proofs.Common.{arith, refl}
use Rattle.pv_law_hosted.proofs.RequestedLemmas.{finds-again, second-records}
use Rattle.pv_law_hosted.proofs.WorkedLemmas.{asks-for-record, configures, dies, dies-writing, is-new, mirrored-found, opens, writes-record}
use Rattle.pv_law_hosted.proofs.a_record_is_found.Goals as goal
use Rattle.pv_law_hosted.specs.Worked.{config, catalog, schedule, fresh, found}
use Rattle.pv_site.specs.SiteState.{setup_of}

pub returns-clause-configured : goal.returns-clause-configured
returns-clause-configured c = configures

pub returns-clause-new : goal.returns-clause-new
returns-clause-new c = is-new

pub returns-clause-opened : goal.returns-clause-opened
returns-clause-opened c = opens

pub returns-clause-died : goal.returns-clause-died
returns-clause-died c = dies

pub returns-clause-asked : goal.returns-clause-asked
returns-clause-asked c = asks-for-record

pub returns-clause-wrote : goal.returns-clause-wrote
returns-clause-wrote c = writes-record

pub returns-clause-found : goal.returns-clause-found
returns-clause-found c = dies-writing

pub returns-clause-mirrored : goal.returns-clause-mirrored
returns-clause-mirrored c =
    mirrored-found c.one_record.ensures (λ bytes contents others is are. (c.one_journal.ensures bytes).one_value contents others is are) (c.deployments_are_runs.ensures.new catalog fresh is-new)
    (λ d later events mirrored happens. c.deployments_are_runs.ensures.event config schedule d later events configures mirrored happens)
    (λ events mirrored. c.mirrored_deployments_agree.ensures.file (setup_of catalog) found events 0 mirrored (omega arith) refl)

pub returns-clause-reopened : goal.returns-clause-reopened
returns-clause-reopened c = finds-again

pub returns-clause-records : goal.returns-clause-records
returns-clause-records c = second-records c.one_record.ensures (λ bytes contents others is are. (c.one_journal.ensures bytes).one_value contents others is are)
