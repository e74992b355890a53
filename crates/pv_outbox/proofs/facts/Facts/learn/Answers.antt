-- The outcome goes behind the others.
use Rattle.std.proofs.Common.{◌<◌, ◌∙◌, [], ◌∷◌, ◌++◌, sym, ap, subst}
use Rattle.std.specs.Map.{lookup}
use Rattle.std.specs.Option.{is_some}
use Rattle.pv_law_outbox.specs.State.{State, outcome_of}
use Rattle.pv_outbox.specs.MemoryView.{Facts}
use Rattle.pv_outbox.proofs.FactsLemmas.{if-false, keys-same, put-last, second-room}
use Rattle.pv_outbox.proofs.WaitingLemmas.{is_key}
use Rattle.pv_outbox.proofs.facts.Facts.learn.Goals as goal

pub returns-then-not-is_known : goal.returns-then-not-is_known
returns-then-not-is_known c =
    let then_ : State → State = λ state. record state { outcomes = state.outcomes ++ (c.args.txn, c.args.commits) ∷ [] } in
    let unknown = sym c.is_known.ensures ∙ c.if-not-is_known.true in
    let room = second-room _ _ _ (subst (λ (facts : Facts). 0 < facts.room) (sym c.self.view_is) c.requires) in
    let absent =
    ap (λ test. is_some (lookup test c.self.inside.outcomes.entries)) (keys-same c.args.txn)
    ∙ ap (λ (facts : Facts). is_some (outcome_of facts.state c.args.txn)) c.self.view_is ∙ unknown in
    ap (λ entries. record { held = c.self.inside.held.entries; outcomes = entries; taken = c.self.inside.taken.keys })
    (put-last is_key c.self.inside.outcomes.entries c.insert.new.self.entries c.args.txn c.args.commits c.insert.result (c.insert.ensures.succeeds room) c.insert.ensures.entries absent)
    ∙ ap (λ (facts : Facts). then_ facts.state) c.self.view_is
    ∙ sym (if-false (is_some (outcome_of c.args.self.now.state c.args.txn)) c.args.self.now.state (then_ c.args.self.now.state) unknown)
