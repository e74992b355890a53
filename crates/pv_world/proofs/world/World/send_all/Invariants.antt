use Rattle.std.proofs.Common.{map}
use Rattle.pv_protocol.specs.World as model
use Rattle.pv_protocol.specs.World.{from_site, with_sent}
use Rattle.pv_site.specs.Values.{outgoing_of}
use Rattle.pv_world.specs.Stands.{Stands}
use Rattle.pv_world.specs.Steps.{IsSameBeside}
use Rattle.pv_world.proofs.world.World.send_all.Given as goal

abbrev pub invariant-loop-outgoing : goal.invariant-loop-outgoing
invariant-loop-outgoing l = (is : model.World) → Stands l.fn.self is
    → Stands l.self (with_sent is (from_site l.from.0 (map outgoing_of l.yielded))) × IsSameBeside l.fn.self l.self
