use Rattle.std.proofs.Common.{◌≡◌, ◌++◌, true, map, drop}
use Rattle.pv_model.specs.Check.{Part}
use Rattle.pv_protocol.specs.Here.{outcome_sends}
use Rattle.pv_protocol.specs.Vote.{others_than}
use Rattle.pv_site.specs.Values.{outgoing_of}
use Rattle.pv_site.proofs.committing.push_to_others.Given as goal

abbrev pub invariant-loop-part : goal.invariant-loop-part
invariant-loop-part l =
    map outgoing_of l.fn.sends.items ++ outcome_sends l.fn.txn true (others_than l.fn.me.0 (map (λ (part : Part). part.site) l.fn.parts))
    ≡ map outgoing_of l.sends.items ++ outcome_sends l.fn.txn true (others_than l.fn.me.0 (map (λ (part : Part). part.site) (drop l.part-index l.parts)))
