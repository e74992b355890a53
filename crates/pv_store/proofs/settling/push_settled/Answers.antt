-- The item's value is settled, if it has one.
use Rattle.std.proofs.Common.{◌∙◌, ◌++◌, ◌∷◌, [], ℤ, List, Some, ap, sym}
use Rattle.pv_base.specs.Polyvalue.{Case}
use Rattle.pv_store.proofs.SettlingLemmas.{settled-away, settled-held}
use Rattle.pv_store.proofs.settling.push_settled.Goals as goal

pub returns-in_ok-push : goal.returns-in_ok-push
returns-in_ok-push c = λ catalog site records are.
    c.in_ok-push.ensures.items
    ∙ ap (λ (cases : List (Case ℤ)). c.args.settled.now.items ++ record { item = c.args.item.0; cases = cases } ∷ []) c.in_ok-named.ensures
    ∙ settled-held catalog site records c.args.values.now are c.args.txn c.args.commits c.args.item.0 c.value.result.now c.in_ok-value.value
    (c.in-Some.ensures ∙ ap (λ (cases : List (Case ℤ)). Some (Some cases)) (sym c.value.ensures)) c.in_ok-value.ensures.settled c.in_ok-value.ensures.polyvalue c.args.settled.now.items

pub returns-in_default : goal.returns-in_default
returns-in_default c = λ catalog site records are.
    settled-away catalog site records c.args.values.now are c.args.txn c.args.commits c.args.item.0 c.in_default.ensures c.args.settled.now.items
