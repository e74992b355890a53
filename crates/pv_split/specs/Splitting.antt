-- What a program writes and replies over polyvalues that name few outcomes together.
use Rattle.std.specs.Prelude.{ℕ, List, Option, Some, None, All, IsTrue}
use Rattle.pv_base.specs.declared.reply.Reply.{Reply}
use Rattle.pv_base.specs.declared.txn.TxnId.{TxnId}
use Rattle.pv_base.specs.Polyvalue.{Case, names, NamesAtMost, IsPolyvalue}
use Rattle.pv_model.specs.Alternatives.{Read, all_cases, IsSplit}
use Rattle.pv_model.specs.Syntax.{Program}
use Rattle.pv_split.specs.declared.joining.SplitError.{SplitError}
use Rattle.pv_split.specs.declared.joining.SplitError.TheVariants.{OutcomeLimit, NoMemory}

-- the count of outcomes that the error reports, unless it is out of memory
abbrev pub count_of : SplitError → Option ℕ
count_of (OutcomeLimit count) = Some count
count_of NoMemory = None

-- The reads name so many outcomes at most. What is written and replied is what the program does at every assignment, in polyvalues that
-- name no more than the reads.
pub record IsJoinedSplit (limit : ℕ) (program : Program) (reads : List Read) (joined : List Read × List (Case Reply)) : Type 0 where
  pub few : NamesAtMost limit (all_cases reads)
  pub split : IsSplit program reads joined.0 joined.1
  pub writes : All (λ write. IsPolyvalue limit write.cases) joined.0
  pub reply : IsPolyvalue limit joined.1
  pub named_by_writes : All (λ write. (txn : TxnId) → IsTrue (names write.cases txn) → IsTrue (names (all_cases reads) txn)) joined.0
  pub named_by_reply : (txn : TxnId) → IsTrue (names joined.1 txn) → IsTrue (names (all_cases reads) txn)
