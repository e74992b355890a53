-- An entry under a new name goes behind the others, and so does its item.
use Rattle.std.proofs.Common.{◌∙◌, ap}
use Rattle.pv_base.specs.CatalogView.{items_of}
use Rattle.pv_base.proofs.EntryLemmas.{items_of-insert_entry}
use Rattle.pv_base.proofs.entries.push_item.Goals as goal

pub returns-clause-added : goal.returns-clause-added
returns-clause-added c =
    ap items_of c.in_ok-insert.ensures.entries
    ∙ items_of-insert_entry c.args.name c.args.declaration c.args.items.now.entries c.requires
