-- What a vote is asked on names nothing but what was read for it.
use Rattle.std.specs.Prelude.{◌≡◌, ℕ, ℤ, List, Contains, IsTrue, Some}
use Rattle.pv_base.specs.Polyvalue.{Case, names}
use Rattle.pv_base.specs.declared.grant.GrantId.{GrantId}
use Rattle.pv_base.specs.declared.txn.TxnId.{TxnId}
use Rattle.pv_format.specs.Message.{prepare}
use Rattle.pv_law_acts.specs.Seen.{WorksAgeless, Sent}
use Rattle.pv_model.specs.Alternatives.{Read}
use Rattle.pv_protocol.specs.Coordinate.{names_taken}
use Rattle.pv_protocol.specs.Shown.{written}
use Rattle.pv_protocol.specs.State.{Entry, voting}
use Rattle.pv_protocol.specs.World.{World}

-- The values name only these transactions.
abbrev pub NameOnly : List TxnId → List Read → Type 0
NameOnly txns reads = (item : ℕ) (cases : List (Case ℤ)) → written item reads ≡ Some cases → (txn : TxnId) → IsTrue (names cases txn) → Contains txns txn

-- Each vote is asked on values that name only what was taken for the transaction, as long as its site works on it.
abbrev pub AskedNameTaken : World → Type 0
AskedNameTaken world =
    (from to : ℕ) (txn : TxnId) (id : GrantId) (writes : List Read) → Sent world from to (prepare txn id writes)
    → (n : ℕ) (entry : Entry) → WorksAgeless world n txn entry → entry.stage ≡ voting → NameOnly (names_taken entry) writes
