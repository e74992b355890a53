-- What the map finds is the known outcome.
use Rattle.std.proofs.Common.{ap, ◌∙◌}
use Rattle.pv_store.specs.Held.{KnownOutcomes, outcome_in}
use Rattle.pv_store.proofs.MapFacts.{lookup-outcome}
use Rattle.pv_store.proofs.outcomes.Outcomes.get.Goals as goal

pub returns : goal.returns
returns c =
    c.copied.ensures ∙ c.get.ensures.value ∙ lookup-outcome c.self.inside.outcomes.entries c.args.txn
    ∙ ap (λ (view : KnownOutcomes). outcome_in view.outcomes c.args.txn) c.self.view_is
