use Rattle.std.proofs.Common.{◌≡◌, ◌++◌, map, drop}
use Rattle.pv_model.specs.Check as model
use Rattle.pv_protocol.specs.Here.{outcome_sends}
use Rattle.pv_site.specs.Values.{outgoing_of}
use Rattle.pv_site.proofs.refusing.push_outcomes.Given as goal

abbrev pub invariant-loop-part : goal.invariant-loop-part
invariant-loop-part l =
    map outgoing_of l.fn.sends.items ++ outcome_sends l.fn.txn l.fn.commits (map (λ (part : model.Part). part.site) l.fn.parts)
    ≡ map outgoing_of l.sends.items ++ outcome_sends l.fn.txn l.fn.commits (map (λ (part : model.Part). part.site) (drop l.part-index l.parts))
