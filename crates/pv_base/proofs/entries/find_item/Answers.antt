-- The place of a key among the entries is the place of the item of that name.
use Rattle.std.proofs.Common.{◌∙◌}
use Rattle.pv_base.proofs.EntryLemmas.{position-keys_of}
use Rattle.pv_base.proofs.entries.find_item.Goals as goal

pub returns-clause-place : goal.returns-clause-place
returns-clause-place c = c.get_index_of.ensures.index ∙ position-keys_of c.args.name.now c.args.items.now.entries
