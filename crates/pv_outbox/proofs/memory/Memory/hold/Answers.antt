-- The outputs were found before it was held.
use Rattle.std.proofs.Common.{sym, subst}
use Rattle.pv_law_outbox.specs.State.{State, held, after}
use Rattle.pv_outbox.specs.Covers.{Covers}
use Rattle.pv_outbox.specs.MemoryView.{Memory}
use Rattle.pv_outbox.proofs.memory.Memory.hold.Goals as goal

pub invariant_of-self : goal.invariant_of-self
invariant_of-self c =
    subst (λ (state : State). Covers state c.self.inside.queue) (sym c.hold.ensures)
    (subst (λ (memory : Memory). Covers (after memory.facts.state (held c.args.output c.args.when)) memory.queue) (sym c.self.view_is) c.requires.covers)
