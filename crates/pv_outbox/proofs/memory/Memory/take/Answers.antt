-- The outputs are found still.
use Rattle.std.proofs.Common.{sym, subst}
use Rattle.pv_law_outbox.specs.State.{State}
use Rattle.pv_outbox.specs.Covers.{Covers}
use Rattle.pv_outbox.proofs.CoversLemmas.{covers-taken}
use Rattle.pv_outbox.proofs.memory.Memory.take.Goals as goal

pub invariant_of-self : goal.invariant_of-self
invariant_of-self c =
    subst (λ (state : State). Covers state c.self.inside.queue) (sym c.take.ensures)
    (covers-taken c.self.inside.facts.state c.args.output c.self.inside.queue c.self.invariant)
