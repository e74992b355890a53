-- The lemma on transactions that reach their lock points.
use Rattle.pv_format.specs.Range.{IsTxnWithin}
use Rattle.pv_law_step.proofs.Lists.{of-some}
use Rattle.pv_law_traces.proofs.PlacedRanges.{placed-within}
use Rattle.pv_law_traces.proofs.places_are_within.Goals as goal
use Rattle.pv_protocol.specs.State.{Placed}
use Rattle.pv_protocol.specs.Step.{step_on}

pub returns : goal.returns
returns c sites here input placed running is =
    of-some (λ (p : Placed). IsTxnWithin sites p.txn) (step_on here input).placed placed (placed-within sites here running input) is
