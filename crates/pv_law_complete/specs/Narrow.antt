-- How wide the values of an item may become by a vote.
use Rattle.std.specs.Prelude.{◌≡◌, false, ℕ, List, [], ◌∷◌, ◌++◌, length, ◌+◌, ◌≤◌, Contains, IsSome}
use Rattle.pv_base.specs.Named.{names_of}
use Rattle.pv_base.specs.declared.grant.GrantId.{GrantId}
use Rattle.pv_base.specs.declared.txn.TxnId.{TxnId}
use Rattle.pv_format.specs.Message.{prepare}
use Rattle.pv_format.specs.Record.{prepared}
use Rattle.pv_law_acts.specs.Seen.{records_at, HoldsAgeless, WorksAgeless, Sent}
use Rattle.pv_model.specs.Alternatives.{Read}
use Rattle.pv_protocol.specs.Coordinate.{names_taken}
use Rattle.pv_protocol.specs.Records.{is_prepared}
use Rattle.pv_protocol.specs.Shown.{shown, written}
use Rattle.pv_protocol.specs.State.{Setup, Entry, voting, Taken, Grant}
use Rattle.pv_protocol.specs.World.{World}

-- Where a site is asked to vote by a transaction that still holds its grant there, an item that was read for it would name no more than was
-- taken for the transaction, and the transaction itself.
abbrev pub VotesStayNarrow : Setup → World → Type 0
VotesStayNarrow setup world =
    (n : ℕ) (txn : TxnId) (entry : Entry) → WorksAgeless world n txn entry → entry.stage ≡ voting
    → (taken : Taken) → Contains entry.taken taken → (grant : Grant) → HoldsAgeless world taken.site grant → grant.txn ≡ txn → grant.id ≡ taken.grant
    → is_prepared (records_at world taken.site) txn ≡ false → (from : ℕ) (id : GrantId) (writes : List Read) → Sent world from taken.site (prepare txn id writes)
    → (item : ℕ) → IsSome (written item writes) → IsSome (written item taken.values)
    → length (names_of (shown setup.catalog (records_at world taken.site ++ prepared txn writes ∷ []) item)) ≤ length (names_taken entry) + 1
