-- None is named so far.
use Rattle.std.proofs.Common.{◌≡◌, false, take}
use Rattle.std.specs.List.{list_any}
use Rattle.pv_protocol.specs.Here.{Here}
use Rattle.pv_protocol.specs.Outcome.{is_named_here}
use Rattle.pv_store.specs.Kept.{IsStoreOf, txns_of}
use Rattle.pv_store.proofs.store.Store.any.Given as goal

abbrev pub invariant-loop-place : goal.invariant-loop-place
invariant-loop-place l = (here : Here) → IsStoreOf here l.self → list_any (is_named_here here) (take l.place (txns_of l.self.room.places)) ≡ false
