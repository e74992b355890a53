-- The next item is listed where it is the site's.
use Rattle.std.proofs.Common.{◌≡◌, ◌==◌, ◌+◌, true, false, List, [], ◌∷◌, ◌++◌, ℕ, drop, rules, subst, sym}
use Rattle.pv_protocol.specs.Outcome.{items_from}
use Rattle.pv_shelf.proofs.ItemLemmas.{items-listed, items-passed}
use Rattle.pv_shelf.proofs.opening.items_of_site.Goals as goal
use Rattle.pv_shelf.proofs.opening.items_of_site.Goals.{then-eq+in_ok-push, else-eq}

pub loop-item-preserved : goal.loop-item-preserved
loop-item-preserved c =
    let site = c.args.site.0 in
    let items = c.args.catalog.now.items in
    let item = c.loop-item.item in
    let all = items_from site 0 items in
    let rest = items_from site (item + 1) (drop (item + 1) items) in
    elim c.if-eq.branch [
      | then-eq+in_ok-push w ↦
          let own : (c.site_of.result.0 == site) ≡ true = search rules in
          let pushed : c.if-eq.items.items ≡ c.loop-item.items.items ++ item ∷ [] = search rules in
          subst (λ (listed : List ℕ). listed ++ rest ≡ all) (sym pushed) (items-listed items item site c.site_of.result.0 c.loop-item.items.items all c.site_of.ensures own c.loop-item.invariant)
      | else-eq w ↦
          let other : (c.site_of.result.0 == site) ≡ false = search rules in
          let same : c.if-eq.items.items ≡ c.loop-item.items.items = search rules in
          subst (λ (listed : List ℕ). listed ++ rest ≡ all) (sym same) (items-passed items item site c.site_of.result.0 c.loop-item.items.items all c.site_of.ensures other c.loop-item.invariant)
    ]
