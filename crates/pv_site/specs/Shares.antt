-- What a program wrote, shared out among the participants, and what a site shows for wants.
use Rattle.std.specs.Prelude.{ℕ, ◌==◌, List, map, find, filter_map, Option, Some, None, if◌then◌else◌}
use Rattle.pv_base.specs.Catalog.{Declared}
use Rattle.pv_base.specs.Want.{Want}
use Rattle.pv_base.specs.declared.grant.GrantId.{GrantId}
use Rattle.pv_base.specs.declared.txn.TxnId.{TxnId}
use Rattle.pv_format.specs.Message.{prepare}
use Rattle.pv_format.specs.Record.{Record}
use Rattle.pv_model.specs.Alternatives.{Read}
use Rattle.pv_model.specs.Check.{Part}
use Rattle.pv_protocol.specs.Coordinate.{exclusive_items}
use Rattle.pv_protocol.specs.Shown.{shown}
use Rattle.pv_protocol.specs.State.{Outgoing}

-- what the wanted items are shown as
abbrev pub shown_values : Declared → List Record → List Want → List Read
shown_values catalog records wants = map (λ want. record { item = want.item; cases = shown catalog records want.item }) wants

-- what is written to these items. Nothing is to one that isn't among the writes.
abbrev pub writes_in : List Read → List ℕ → List Read
writes_in writes items = filter_map (λ item. find (λ (write : Read). write.item == item) writes) items

-- The vote of a participant is asked for on what is written to its exclusive items.
abbrev pub prepare_send : TxnId → GrantId → List Read → Part → Outgoing
prepare_send txn grant writes part = record { to = part.site; message = prepare txn grant (writes_in writes (exclusive_items part.wants)) }

-- The same, if there is a grant.
abbrev pub prepare_if : TxnId → List Read → Part → Option GrantId → Option Outgoing
prepare_if txn writes part None = None
prepare_if txn writes part (Some grant) = Some (prepare_send txn grant writes part)

-- Each part's site is asked for its vote, under the grant that has just come from it, or the one that these were before.
abbrev pub prepares : TxnId → List Read → ℕ → GrantId → (ℕ → Option GrantId) → List Part → List Outgoing
prepares txn writes from grant taken parts =
    filter_map (λ (part : Part). prepare_if txn writes part (if part.site == from then Some grant else taken part.site)) parts
