-- Two literals in order are outcomes, and a polyvalue of numbers fits in memory.
use Rattle.std.proofs.Common.{[], ◌∷◌, IsTrue, rules, arith}
use Rattle.std.proofs.lemmas.List.Elements.{All-nil, All-cons}
use Rattle.std.proofs.lemmas.List.Kept.{AllPairs-cons}
use Rattle.pv_base.specs.declared.literal.Literal.{Literal}
use Rattle.pv_base.specs.Assignment.{precedes}
use Rattle.pv_base.specs.Polyvalue.{AreOutcomes}
use Rattle.pv_tree_tests.proofs.tests.settle_both.Goals as goal

pub settle_all-requires : goal.settle_all-requires
settle_all-requires g c =
    let first = c.args.first in
    let second = c.args.second in
    let before : IsTrue (precedes first.txn second.txn) = search rules in
    let outcomes : AreOutcomes (first ∷ second ∷ []) =
    AllPairs-cons (λ (l m : Literal). IsTrue (precedes l.txn m.txn)) first (second ∷ [])
    (All-cons (λ (m : Literal). IsTrue (precedes first.txn m.txn)) second [] before (All-nil (λ (m : Literal). IsTrue (precedes first.txn m.txn))))
    (AllPairs-cons (λ (l m : Literal). IsTrue (precedes l.txn m.txn)) second [] (All-nil (λ (m : Literal). IsTrue (precedes second.txn m.txn)))
    (λ i j d before within. absurd (omega (arith, within)))) in
    (omega arith, outcomes)
