-- The rows so far are written, each write names only the transactions, and each is a polyvalue.
use Rattle.std.proofs.Common.{◌≡◌, List, take, All}
use Rattle.pv_base.specs.Polyvalue.{IsPolyvalue}
use Rattle.pv_base.specs.declared.limits.TheConstants.{READ_NAMES}
use Rattle.pv_base.specs.declared.txn.TxnId.{TxnId}
use Rattle.pv_model.specs.Alternatives.{rows_at, assigned}
use Rattle.pv_split.proofs.WriteLemmas.{after, NamesOnly}
use Rattle.pv_split.proofs.writes.writes_of.Given as goal

abbrev pub invariant-loop-index : goal.invariant-loop-index
invariant-loop-index l = record {
  written : (assignment : List TxnId) → rows_at l.writes.items assignment ≡ assigned l.fn.program (take l.index (after l.fn.program l.fn.reads assignment));
  named : All (NamesOnly l.fn.txns) l.writes.items;
  polyvalues : All (λ write. IsPolyvalue READ_NAMES write.cases) l.writes.items;
}
