-- The outputs are found without those that waited for it.
use Rattle.std.proofs.Common.{◌≡◌, None, sym, subst}
use Rattle.pv_law_outbox.specs.State.{State, learnt, after, outcome_of}
use Rattle.pv_outbox.specs.Covers.{Covers}
use Rattle.pv_outbox.specs.MemoryView.{Memory}
use Rattle.pv_outbox.proofs.CoversLemmas.{covers-forgot}
use Rattle.pv_outbox.proofs.memory.Memory.learn.Goals as goal

pub invariant_of-self : goal.invariant_of-self
invariant_of-self c =
    subst (λ (state : State). Covers state c.forget.new.self) (sym c.learn.ensures)
    (covers-forgot c.self.inside.facts.state c.args.txn c.args.commits
    (subst (λ (memory : Memory). outcome_of memory.facts.state c.args.txn ≡ None) (sym c.self.view_is) c.requires.unknown)
    c.self.inside.queue c.forget.new.self c.forget.ensures.candidates c.forget.ensures.waiting
    (subst (λ (memory : Memory). Covers (after memory.facts.state (learnt c.args.txn c.args.commits)) memory.queue) (sym c.self.view_is) c.requires.covers))
