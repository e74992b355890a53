-- A run that goes on.
use Rattle.std.proofs.Common.{◌≡◌, List, [], ◌∷◌, ◌++◌, append_assoc, refl, sym, ap, ◌∙◌}
use Rattle.pv_model.specs.Events.{Event}
use Rattle.pv_protocol.specs.Run.{run, transitions_of, world_after}
use Rattle.pv_protocol.specs.State.{Setup}
use Rattle.pv_protocol.specs.World.{World}
use Rattle.pv_protocol.specs.WorldStep.{Transition}

-- The world after transitions and then more.
pub world_after-append : (world : World) (front back : List Transition) → world_after world (front ++ back) ≡ world_after (world_after world front) back
world_after-append world [] back = refl
world_after-append world (transition ∷ front) back = world_after-append transition.world front back

-- A run of events and then more.
pub run-append : (setup : Setup) (world : World) (events more : List Event)
    → run setup world (events ++ more) ≡ run setup world events ++ run setup (world_after world (run setup world events)) more
run-append setup world [] more = refl
run-append setup world (event ∷ events) more =
    let now = transitions_of setup world event in
    let after = world_after world now in
    ap (λ (rest : List Transition). now ++ rest) (run-append setup after events more)
    ∙ sym (append_assoc now (run setup after events) (run setup (world_after after (run setup after events)) more))
    ∙ ap (λ (end : World). (now ++ run setup after events) ++ run setup end more) (sym (world_after-append world now (run setup after events)))
