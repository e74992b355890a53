-- Assignments of later worlds in earlier ones.
use Rattle.std.specs.Prelude.{List}
use Rattle.pv_base.specs.declared.txn.TxnId.{TxnId}
use Rattle.pv_law_agreement.specs.Places.{txns_of}
use Rattle.pv_law_values.specs.Cut.{among}
use Rattle.pv_protocol.specs.Committed.{Fits}
use Rattle.pv_protocol.specs.World.{World}

-- An assignment that fits the later world fits the earlier one, cut to the order that this had.
abbrev pub FitsFallBack : World → World → Type 0
FitsFallBack earlier later = (assignment : List TxnId) → Fits later assignment → Fits earlier (among (txns_of earlier.order) assignment)
