-- An assignment that fits heeds the records, and with one outcome more no write is newer.
use Rattle.std.proofs.Common.{ap, subst, ◌∙◌}
use Rattle.pv_format.specs.Record.{outcome_known}
use Rattle.pv_law_agreement.proofs.GroundLemmas.{grounds-from}
use Rattle.pv_law_agreement.proofs.runs.recorded_outcomes_lose_nothing.Goals as goal
use Rattle.pv_law_outcomes.proofs.DecidedLemmas.{always-settled}
use Rattle.pv_law_values.proofs.NewestLemmas.{item-more}
use Rattle.pv_law_values.specs.Heeds.{Heeds}
use Rattle.pv_protocol.specs.Shown.{item_value}

pub returns : goal.returns
returns c = λ setup w acts n before txn outcome is a fits item.
    let grounds = grounds-from setup w (always-settled setup w acts) in
    ap (λ rs. item_value setup.catalog rs item a) is
    ∙ item-more setup.catalog before (outcome_known txn outcome) item a (subst (λ rs. Heeds rs a) is (grounds.heeded a fits n))
