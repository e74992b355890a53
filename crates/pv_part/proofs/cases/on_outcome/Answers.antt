use Rattle.std.proofs.Common.{◌∙◌, sym, ap, subst}
use Rattle.std.specs.Prelude.{◌||◌}
use Rattle.pv_part.proofs.CaseLemmas.{outcome-step}
use Rattle.pv_part.proofs.cases.on_outcome.Goals as goal
use Rattle.pv_part.specs.Cases.{outcome_case, IsOutcomeStep}
use Rattle.pv_protocol.specs.Outcome.{on_outcome}

pub returns-clause-case : goal.returns-clause-case
returns-clause-case c =
    c.outcome_case.ensures ∙ ap (λ b. outcome_case b c.args.commits c.args.known (c.args.prepared || c.args.named)) c.is_site_of.ensures

pub returns-clause-step : goal.returns-clause-step
returns-clause-step c here tells is =
    subst (λ case. IsOutcomeStep here c.args.txn c.args.commits case (on_outcome here c.args.from.0 c.args.txn c.args.commits)) (sym (returns-clause-case c))
    (outcome-step here c.args.txn c.args.commits c.args.from.0 c.args.known c.args.prepared c.args.named tells is)
