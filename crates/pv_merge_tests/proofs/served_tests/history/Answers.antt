-- Each entry has its plan.
use Rattle.std.proofs.Common.{[], ◌∷◌}
use Rattle.std.proofs.lemmas.List.Elements.{All-append, All-same}
use Rattle.pv_history.specs.declared.entry.Entry.{Entry}
use Rattle.pv_merge.specs.Moments.{IsPlanned}
use Rattle.pv_merge_tests.proofs.served_tests.history.Goals as goal

pub returns-clause-planned : goal.returns-clause-planned
returns-clause-planned c =
    let catalog = c.args.catalog.now in
    let has = λ (entry : Entry). IsPlanned catalog entry.input in
    let first = c.in_ok-first.first in
    let second = c.taken-second.result in
    let third = c.taken-third.result in
    let fourth = c.taken-fourth.result in
    let fifth = c.taken-fifth.result in
    All-same has c.in_ok-vec-3.field-0.items (first ∷ second ∷ third ∷ fourth ∷ fifth ∷ []) c.in_ok-vec-3.ensures.items
    (All-append has (first ∷ []) (second ∷ third ∷ fourth ∷ fifth ∷ []) c.in_ok-first.ensures.planned
    (All-append has (second ∷ []) (third ∷ fourth ∷ fifth ∷ []) (c.taken-second.ensures.planned catalog)
    (All-append has (third ∷ []) (fourth ∷ fifth ∷ []) (c.taken-third.ensures.planned catalog)
    (All-append has (fourth ∷ []) (fifth ∷ []) (c.taken-fourth.ensures.planned catalog) (c.taken-fifth.ensures.planned catalog)))))
