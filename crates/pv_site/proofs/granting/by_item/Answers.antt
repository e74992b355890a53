-- Sorted by item.
use Rattle.std.proofs.Common.{rules}
use Rattle.std.proofs.lemmas.List.Sorted.{IsNonDecreasingBy-from_sort, answers_always}
use Rattle.pv_model.specs.Alternatives.{Read}
use Rattle.pv_site.proofs.granting.by_item.Goals as goal

pub returns-clause-sorted : goal.returns-clause-sorted
returns-clause-sorted c =
    IsNonDecreasingBy-from_sort (λ (read : Read). read.item) _
    (c.sort_unstable_by_key.ensures.sorted (λ (read : Read). read.item) (answers_always _ _ _ (λ f a r g h. search rules)))
