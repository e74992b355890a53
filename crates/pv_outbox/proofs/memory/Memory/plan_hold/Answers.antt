-- The output is found at its place once it is held.
use Rattle.std.proofs.Common.{◌≡◌, ◌∙◌, ℤ, false, List, ap, sym, subst}
use Rattle.std.specs.List.{Contains}
use Rattle.pv_base.specs.Polyvalue.{Case}
use Rattle.pv_law_outbox.specs.State.{State, held, after, is_held}
use Rattle.pv_outbox.specs.Covers.{Covers, WaitsIfUnknown}
use Rattle.pv_outbox.specs.MemoryView.{Memory}
use Rattle.pv_outbox.proofs.CoversLemmas.{covers-held, covers-more}
use Rattle.pv_outbox.proofs.memory.Memory.plan_hold.Goals as goal

pub returns-clause-covers : goal.returns-clause-covers
returns-clause-covers c =
    let now = c.reserve.new.self.state in
    subst (λ (when : List (Case ℤ)). Covers (after now (held c.args.output when)) c.add.new.self) (sym c.in_ok-copy.ensures.equal)
    (covers-held now c.self.inside.queue c.add.new.self c.args.output c.args.when.now
    (ap (λ (state : State). is_held state c.args.output) c.reserve.ensures.same
    ∙ subst (λ (memory : Memory). is_held memory.facts.state c.args.output ≡ false) (sym c.self.view_is) c.requires)
    c.add.ensures.more
    (subst (λ (state : State). Covers state c.self.inside.queue) (sym c.reserve.ensures.same) c.self.invariant)
    (subst (Contains c.add.new.self.candidates) c.len-place.ensures.count c.in_ok-add.ensures.candidate)
    (λ txn named unknown. subst (λ place. WaitsIfUnknown now c.add.new.self place txn) c.len-place.ensures.count (c.in_ok-add.ensures.waits txn named) unknown))

pub invariant_of-self-in_err-add : goal.invariant_of-self-in_err-add
invariant_of-self-in_err-add c =
    covers-more c.reserve.new.self.state c.self.inside.queue c.add.new.self c.add.ensures.more
    (subst (λ (state : State). Covers state c.self.inside.queue) (sym c.reserve.ensures.same) c.self.invariant)

pub invariant_of-self-2 : goal.invariant_of-self-2
invariant_of-self-2 c =
    covers-more c.reserve.new.self.state c.self.inside.queue c.add.new.self c.add.ensures.more
    (subst (λ (state : State). Covers state c.self.inside.queue) (sym c.reserve.ensures.same) c.self.invariant)
