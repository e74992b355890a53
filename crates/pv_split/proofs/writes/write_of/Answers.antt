-- The write names no more than the transactions, which are few.
use Rattle.std.proofs.Common.{refl}
use Rattle.pv_base.specs.declared.limits.TheConstants.{READ_NAMES}
use Rattle.pv_cases.proofs.PolyvalueFacts.{polyvalue-within}
use Rattle.pv_split.proofs.writes.write_of.Goals as goal

pub returns-clause-polyvalue : goal.returns-clause-polyvalue
returns-clause-polyvalue c =
    polyvalue-within READ_NAMES c.in_ok-value.value c.in_ok-value.value c.args.txns.now refl c.in_ok-value.ensures.polyvalue.canonical c.in_ok-value.ensures.names c.requires.few
