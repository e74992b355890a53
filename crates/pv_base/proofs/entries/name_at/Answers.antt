-- The key of the entry at a place is the name of the item at that place.
use Rattle.std.proofs.Common.{ap, sym, ◌∙◌}
use Rattle.std.specs.Option.{option_map}
use Rattle.std.specs.Map.Iter.{deref_pair}
use Rattle.pv_base.proofs.EntryLemmas.{slice_get-items_of}
use Rattle.pv_base.proofs.entries.name_at.Goals as goal

pub returns : goal.returns
returns c =
    let at = sym c.get_index.ensures.entry ∙ ap (option_map deref_pair) c.unwrap.ensures in
    rw c.as_slice.ensures.value (slice_get-items_of _ c.args.items.now.entries _ _ at)
