-- What a step leaves of a transaction that it isn't about.
use Rattle.std.specs.Prelude.{◌≡◌, Contains}
use Rattle.pv_base.specs.declared.txn.TxnId.{TxnId}
use Rattle.pv_format.specs.Message.{txn_of}
use Rattle.pv_protocol.specs.Here.{Here, grant_of}
use Rattle.pv_protocol.specs.Keyed.{of_txn}
use Rattle.pv_protocol.specs.Lock.{next_txn}
use Rattle.pv_protocol.specs.Records.{is_prepared}
use Rattle.pv_protocol.specs.State.{Entry, Input, submit, receive, tick, Outgoing, Step}
use Rattle.pv_protocol.specs.Step.{records_after}

-- The input isn't about the transaction: it begins another one, or is a message about another one. A tick is about all.
abbrev pub IsOther : Here → TxnId → Input → Type 0
IsOther here txn (submit program) = next_txn here ≡ txn → ⊥
IsOther here txn (receive from message) = txn_of message ≡ txn → ⊥
IsOther here txn tick = ⊥

-- The transaction's grant and its entry are as they were, it is prepared if it was, and nothing is sent of it.
pub record Frames (here : Here) (txn : TxnId) (step : Step) : Type 0 where
  pub grant : grant_of step.running txn ≡ grant_of here.running txn
  pub entry : of_txn (λ (e : Entry). e.txn) txn step.running.entries ≡ of_txn (λ (e : Entry). e.txn) txn here.running.entries
  pub prepared : is_prepared (records_after here.records step) txn ≡ is_prepared here.records txn
  pub silent : (sent : Outgoing) → Contains step.sends sent → txn_of sent.message ≡ txn → ⊥
