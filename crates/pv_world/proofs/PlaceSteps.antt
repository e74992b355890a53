-- A transaction at its lock point is added to the order.
use Rattle.std.proofs.Common.{◌≡◌, ℕ, Option, Some, None, List, [], ◌∷◌, ◌++◌, sym, ap, ◌∙◌}
use Rattle.std.specs.Option.{option_map}
use Rattle.pv_base.proofs.Basics.{Some_inj}
use Rattle.pv_base.specs.declared.txn.TxnId.{TxnId}
use Rattle.pv_protocol.specs.State as state
use Rattle.pv_protocol.specs.World as model
use Rattle.pv_protocol.specs.World.{site_at}
use Rattle.pv_world.proofs.StandLemmas.{stands-placed}
use Rattle.pv_world.specs.Mail.{MailState}
use Rattle.pv_world.specs.Places.{IsPlacedRight, votes_from}
use Rattle.pv_world.specs.Stands.{Stands, placed_of}
use Rattle.pv_world.specs.Steps.{IsPlaced}
use Rattle.pv_world.specs.declared.order.Placed.{Placed}
use Rattle.pv_world.specs.declared.world.World.{World}

pub placed-by : (old new : World) (is : model.World) (n : ℕ) (txn : TxnId) (own : Placed) (at_point : Option state.Placed) → Stands old is
    → Some txn ≡ option_map (λ (placed : state.Placed). placed.txn) at_point → IsPlacedRight old.catalog (site_at is n).running at_point
    → placed_of own ≡ (txn, votes_from (site_at is n).running txn 0 old.catalog.sites) → new.catalog ≡ old.catalog → new.cells ≡ old.cells → new.mail ≡ old.mail
    → new.order.items ≡ old.order.items ++ own ∷ [] → IsPlaced old new is at_point
placed-by old new is n txn own None stands reaches right own_is catalog cells mail order = absurd (let wrong : ⊥ = cc in wrong)
placed-by old new is n txn own (Some placed) stands reaches right own_is catalog cells mail order = record {
  stands =
      stands-placed old is stands new catalog placed own cells mail order
      (own_is
      ∙ (ap (λ (t : TxnId). (t, votes_from (site_at is n).running t 0 old.catalog.sites)) (Some_inj reaches)
      ∙ ap (λ (grants : List state.TakenGrant). (placed.txn, grants)) (sym right)));
  same = record { catalog = catalog; limit = ap (λ (m : MailState). m.limit) mail };
}
