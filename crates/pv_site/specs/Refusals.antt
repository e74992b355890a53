-- How transactions that expire are refused.
use Rattle.std.specs.Prelude.{false, List, [], Option, Some, None}
use Rattle.pv_base.specs.declared.txn.TxnId.{TxnId}
use Rattle.pv_coord.specs.Coordinator.{Coordinator, work_of}
use Rattle.pv_coord.specs.Work.{Work, sites_of}
use Rattle.pv_coord.specs.declared.answer.Expiry.{Expiry}
use Rattle.pv_protocol.specs.Here.{outcome_sends}
use Rattle.pv_protocol.specs.State.{Outgoing, Note, refused, expired}

-- that the transaction doesn't commit, for the participants of the work on it
abbrev pub refusal_of : TxnId → Option Work → List Outgoing
refusal_of txn None = []
refusal_of txn (Some work) = outcome_sends txn false (sites_of work)

-- that the transaction doesn't commit, for its participants, if the site works on it
abbrev pub refusal_sends : Coordinator → TxnId → List Outgoing
refusal_sends coord txn = refusal_of txn (work_of coord txn)

-- that the transaction is refused for the site that it waited for
abbrev pub refusal_note : Expiry → Note
refusal_note expiry = refused expiry.txn (expired expiry.site.0)
