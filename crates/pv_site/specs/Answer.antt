-- What the code answers of a step.
use Rattle.std.specs.Prelude.{◌≡◌, map}
use Rattle.std.specs.Option.{option_map}
use Rattle.pv_protocol.specs.State as model
use Rattle.pv_site.specs.Values.{outgoing_of, note_of}
use Rattle.pv_site.specs.declared.input.Step.{Step}

-- The code's answer is what the step sends and reports, and the transaction that is at its lock point.
pub record IsAnswer (answer : Step) (step : model.Step) : Type 0 where
  pub sends : map outgoing_of answer.sends.items ≡ step.sends
  pub notes : map note_of answer.notes.items ≡ step.notes
  pub locked : answer.locked ≡ option_map (λ (placed : model.Placed). placed.txn) step.placed
