use Rattle.std.proofs.Common.{arith}
use Rattle.pv_law_hosted.proofs.RequestedLemmas.{asks-out, kills, mirrored-again, next-is, numbers-out, opens-again, second-epoch, stores, takes-request}
use Rattle.pv_law_hosted.proofs.WorkedLemmas.{configures, is-new, mirrored-writing}
use Rattle.pv_law_hosted.proofs.a_number_is_let_out.Goals as goal
use Rattle.pv_law_hosted.specs.Worked.{catalog, config, fresh, number, schedule}
use Rattle.pv_protocol.specs.State.{began}
use Rattle.pv_site.specs.SiteState.{setup_of}

pub returns-clause-stored : goal.returns-clause-stored
returns-clause-stored c = stores

pub returns-clause-taken : goal.returns-clause-taken
returns-clause-taken c = next-is

pub returns-clause-requested : goal.returns-clause-requested
returns-clause-requested c = takes-request

pub returns-clause-asked : goal.returns-clause-asked
returns-clause-asked c = asks-out

pub returns-clause-numbered : goal.returns-clause-numbered
returns-clause-numbered c = numbers-out

pub returns-clause-killed : goal.returns-clause-killed
returns-clause-killed c = kills

pub returns-clause-opened : goal.returns-clause-opened
returns-clause-opened c = opens-again

pub returns-clause-epoch : goal.returns-clause-epoch
returns-clause-epoch c = second-epoch c.one_record.ensures (λ bytes contents others is are. (c.one_journal.ensures bytes).one_value contents others is are)

pub returns-clause-mirrored : goal.returns-clause-mirrored
returns-clause-mirrored c next site stepped opened stands =
    let before =
    mirrored-writing c.one_record.ensures (λ bytes contents others is are. (c.one_journal.ensures bytes).one_value contents others is are) (c.deployments_are_runs.ensures.new catalog fresh is-new)
    (λ d later events mirrored happens. c.deployments_are_runs.ensures.event config schedule d later events configures mirrored happens) in
    mirrored-again (λ d later events mirrored happens. c.deployments_are_runs.ensures.event config schedule d later events configures mirrored happens)
    (λ d events mirrored there. c.hosted_sites_agree.ensures.printed (setup_of catalog) d events 0 (began number) mirrored (omega arith) there) before.0 before.1 next stepped site
    opened stands
