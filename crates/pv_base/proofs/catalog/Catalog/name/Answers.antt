-- The name at a place is one of the catalog's, and each of these is a name.
use Rattle.pv_base.proofs.EntryLemmas.{name-at-is-name}
use Rattle.pv_base.proofs.catalog.Catalog.name.Goals as goal

pub returns-clause-named : goal.returns-clause-named
returns-clause-named c = name-at-is-name _ _ _ c.self.invariant.names (c.name_at.ensures)
