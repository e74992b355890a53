use Rattle.pv_embed.proofs.KeptLemmas.{never_fails, still_up}
use Rattle.pv_embed.proofs.laws.hosted_sites_stay_up.Goals as goal

pub returns-clause-no_fault : goal.returns-clause-no_fault
returns-clause-no_fault c = never_fails c.host_logs_never_fail.ensures.appends

pub returns-clause-up : goal.returns-clause-up
returns-clause-up c = still_up c.host_logs_never_fail.ensures.appends
