-- Those that wait for it are among the candidates.
use Rattle.std.proofs.Common.{◌≡◌, ◌∙◌, None, ap, sym, subst}
use Rattle.std.proofs.lemmas.Result.{on_ok_weaker}
use Rattle.pv_law_outbox.specs.State.{State, outcome_of}
use Rattle.pv_outbox.specs.Covers.{Covers}
use Rattle.pv_outbox.specs.MemoryView.{Memory}
use Rattle.pv_outbox.proofs.CoversLemmas.{covers-learnt, covers-more}
use Rattle.pv_outbox.proofs.memory.Memory.plan_learn.Goals as goal

pub returns-clause-unknown : goal.returns-clause-unknown
returns-clause-unknown c =
    on_ok_weaker c.wake.result
    (λ woken.
    ap (λ (state : State). outcome_of state c.args.txn) c.reserve.ensures.same
    ∙ subst (λ (memory : Memory). outcome_of memory.facts.state c.args.txn ≡ None) (sym c.self.view_is) c.requires)
    c.wake.ensures.woken

pub returns-clause-covers : goal.returns-clause-covers
returns-clause-covers c =
    on_ok_weaker c.wake.result
    (λ woken.
    covers-learnt c.reserve.new.self.state c.args.txn c.args.commits
    (ap (λ (state : State). outcome_of state c.args.txn) c.reserve.ensures.same
    ∙ subst (λ (memory : Memory). outcome_of memory.facts.state c.args.txn ≡ None) (sym c.self.view_is) c.requires)
    c.self.inside.queue c.wake.new.self c.wake.ensures.more woken
    (subst (λ (state : State). Covers state c.self.inside.queue) (sym c.reserve.ensures.same) c.self.invariant))
    c.wake.ensures.woken

pub invariant_of-self-2 : goal.invariant_of-self-2
invariant_of-self-2 c =
    covers-more c.reserve.new.self.state c.self.inside.queue c.wake.new.self c.wake.ensures.more
    (subst (λ (state : State). Covers state c.self.inside.queue) (sym c.reserve.ensures.same) c.self.invariant)
