-- What a reply is once its transaction has committed.
use Rattle.std.specs.Prelude.{◌≡◌, List, [], ◌∷◌, true}
use Rattle.pv_base.specs.Polyvalue.{Case, IsCanonical, value_at, with_outcomes}
use Rattle.pv_base.specs.declared.reply.Reply.{Reply}
use Rattle.pv_base.specs.declared.txn.TxnId.{TxnId}
use Rattle.pv_format.specs.Record.{Record}
use Rattle.pv_protocol.specs.Records.{choice}

-- These are the canonical cases of the reply before, with the outcomes put in that the records have, and that the transaction commits.
pub record IsCommitted (records : List Record) (txn : TxnId) (before after : List (Case Reply)) : Type 0 where
  pub value : (assignment : List TxnId) → value_at after assignment
      ≡ value_at before (choice records (with_outcomes (record { txn = txn; commits = true } ∷ []) assignment))
  pub canonical : IsCanonical after
