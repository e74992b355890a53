-- The output goes behind the others.
use Rattle.std.proofs.Common.{◌<◌, ◌∙◌, [], ◌∷◌, ◌++◌, sym, ap, subst}
use Rattle.pv_law_outbox.specs.State.{State, is_held}
use Rattle.pv_outbox.specs.MemoryView.{Facts}
use Rattle.pv_outbox.proofs.FactsLemmas.{first-room, if-false}
use Rattle.pv_outbox.proofs.facts.Facts.hold.Goals as goal

pub put-requires-clause-room : goal.put-requires-clause-room
put-requires-clause-room c = first-room _ _ _ (subst (λ (facts : Facts). 0 < facts.room) (sym c.self.view_is) c.requires)

pub put-requires-clause-absent : goal.put-requires-clause-absent
put-requires-clause-absent c = ap (λ (facts : Facts). is_held facts.state c.args.output) c.self.view_is ∙ sym c.is_held.ensures ∙ c.if-not-is_held.true

pub returns-then-not-is_held : goal.returns-then-not-is_held
returns-then-not-is_held c =
    let then_ : State → State = λ state. record state { held = state.held ++ (c.args.output, c.args.when) ∷ [] } in
    ap (λ entries. record { held = entries; outcomes = c.self.inside.outcomes.entries; taken = c.self.inside.taken.keys }) c.put.ensures
    ∙ ap (λ (facts : Facts). then_ facts.state) c.self.view_is
    ∙ sym (if-false (is_held c.args.self.now.state c.args.output) c.args.self.now.state (then_ c.args.self.now.state) (sym c.is_held.ensures ∙ c.if-not-is_held.true))
