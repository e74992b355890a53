-- What is written is the transaction's bytes.
use Rattle.std.proofs.Common.{◌≡◌, ◌++◌, ◌∙◌, ℕ, List, subst}
use Rattle.std.specs.Prelude.{OnOk}
use Rattle.pv_fields.proofs.NumberLemmas.{txn_spelled}
use Rattle.pv_replay.proofs.fields.put_txn.Goals as goal

pub returns-clause-written : goal.returns-clause-written
returns-clause-written c = λ bytes spells.
    subst (λ (written : List ℕ). OnOk c.bytes.result (c.bytes.new.self.bytes ≡ c.args.put.now.bytes ++ written)) (c.txn_bytes.ensures ∙ txn_spelled c.args.txn bytes spells) c.bytes.ensures.written
