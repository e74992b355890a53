use Rattle.std.proofs.Common.{[], refl}
use Rattle.pv_host.proofs.WaitingLemmas.{group-dropped, view-is}
use Rattle.pv_host.proofs.waiting.Waiting.drop_group.Goals as goal

pub invariant_of-self : goal.invariant_of-self
invariant_of-self c =
    (group-dropped c.self.inside c.args.self.now c.self.view_is c.self.invariant (record { bytes = c.drop_front.new.bytes; frozen = 0 }) refl c.drop_front.ensures).good

pub returns : goal.returns
returns c =
    view-is (record { bytes = c.drop_front.new.bytes; frozen = 0 }) [] c.args.self.now.pending
    (group-dropped c.self.inside c.args.self.now c.self.view_is c.self.invariant (record { bytes = c.drop_front.new.bytes; frozen = 0 }) refl c.drop_front.ensures)
