use Rattle.std.proofs.Common.{◌≡◌, rules, sym, ◌∙◌, ap, subst, take, drop, ◌≤◌}
use Rattle.std.specs.Prelude.{All, filter}
use Rattle.std.proofs.lemmas.List.Sorted.{IsPartitionPoint-from_clause}
use Rattle.pv_locks.proofs.ItemLemmas.{AreItemsUp, below, upto, is_at, items-up, items-up-drop, below-parted, upto-parted, filter-drop, filter-take, rest-least}
use Rattle.pv_locks.proofs.PutLemmas.{place-is}
use Rattle.pv_locks.proofs.holders.of_item.Goals as goal
use Rattle.pv_locks.specs.Put.{place}
use Rattle.pv_locks.specs.declared.holders.Holder.{Holder}

-- The first search ends where the holders of the item begin, and the second where they end.
pub returns : goal.returns
returns c =
    let holders = c.args.holders.now in
    let rest = c.split_at.result.1.now in
    let item = c.args.item.0 in
    let up = items-up holders c.requires in
    let start : c.partition_point-start.result ≡ place (below item) holders =
    place-is (below item) holders _ c.partition_point-start.ensures.bound
    (IsPartitionPoint-from_clause (below item) _ _ c.partition_point-start.ensures.partitioned (below-parted item holders up) (λ a r q k. search rules)) in
    let behind : rest ≡ drop (place (below item) holders) holders = c.split_at.ensures.back ∙ ap (λ n. drop n holders) start in
    let rest-up = subst AreItemsUp (sym behind) (items-up-drop (place (below item) holders) holders up) in
    let end : c.partition_point-end.result ≡ place (upto item) rest =
    place-is (upto item) rest _ c.partition_point-end.ensures.bound
    (IsPartitionPoint-from_clause (upto item) _ _ c.partition_point-end.ensures.partitioned (upto-parted item rest rest-up) (λ a r q k. search rules)) in
    c.split_at-2.ensures.front ∙ ap (λ n. take n rest) end
    ∙ sym (filter-drop item holders ∙ ap (filter (is_at item)) (sym behind)
    ∙ filter-take item rest rest-up (subst (λ l. All (λ (later : Holder). item ≤ later.item.0) l) (sym behind) (rest-least item holders up)))
