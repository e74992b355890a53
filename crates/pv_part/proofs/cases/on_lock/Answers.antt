use Rattle.std.proofs.Common.{◌∙◌, ap}
use Rattle.pv_part.proofs.CaseLemmas.{lock-step}
use Rattle.pv_part.proofs.cases.on_lock.Goals as goal
use Rattle.pv_part.specs.Cases.{lock_passes}

pub returns-clause-case : goal.returns-clause-case
returns-clause-case c = c.lock_passes.ensures ∙ ap (λ b. lock_passes b c.args.prepared c.args.known) c.is_site_of.ensures

pub returns-clause-step : goal.returns-clause-step
returns-clause-step c here wants tells homes =
    returns-clause-case c ∙ lock-step here c.args.from.0 c.args.txn c.args.prepared c.args.known wants tells homes
