-- There is a face for each item of the site, and these ascend.
use Rattle.std.proofs.Common.{length, refl, sym, ap, subst, ◌∙◌}
use Rattle.pv_shelf.proofs.ItemLemmas.{Rises, items-rise, faces-count}
use Rattle.pv_shelf.proofs.opening.shelf.Goals as goal

pub all_readers-requires-clause-items : goal.all_readers-requires-clause-items
all_readers-requires-clause-items g c = subst Rises (sym (c.deref.ensures.value ∙ c.in_ok-items.ensures)) (items-rise c.args.site.0 0 c.args.catalog.now.items)

pub all_readers-requires-clause-seen : goal.all_readers-requires-clause-seen
all_readers-requires-clause-seen g c = (
  record { steps = 0; faces = c.in_ok-faces.faces.items },
  c.in_ok-writer.ensures.seen,
  refl,
  ap length c.in_ok-faces.ensures ∙ faces-count c.args.site.0 0 c.args.catalog.now.items ∙ sym (ap length (c.deref.ensures.value ∙ c.in_ok-items.ensures)),
)
