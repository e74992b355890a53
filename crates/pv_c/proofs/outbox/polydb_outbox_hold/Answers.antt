-- The output is held under the cases that C gave.
use Rattle.std.proofs.Common.{List, ℕ, subst}
use Rattle.pv_embed_outbox.specs.Calls.{HoldsBy}
use Rattle.pv_handle.specs.Outbox.{OnBox}
use Rattle.pv_handle.specs.Slot.{Calls}
use Rattle.pv_c.proofs.outbox.polydb_outbox_hold.Goals as goal

pub returns : goal.returns
returns c = (
  c.hold.result,
  c.status_of_holding.ensures,
  subst
      (λ (cases : List ℕ).
      Calls (OnBox (λ old new. HoldsBy {X = Unit {0}} old new c.args.output cases)) c.args.outbox.now.handle.outbox c.hold.new.self.handle.outbox c.hold.result)
      c.given.ensures c.hold.ensures,
)
