use Rattle.std.proofs.Common.{◌≡◌, ◌++◌, map, drop}
use Rattle.std.specs.List.{flat_map}
use Rattle.pv_coord.specs.declared.answer.Expiry.{Expiry}
use Rattle.pv_site.specs.Refusals.{refusal_sends}
use Rattle.pv_site.specs.Values.{outgoing_of}
use Rattle.pv_site.proofs.ticking.push_refusals.Given as goal

abbrev pub invariant-loop-expiry : goal.invariant-loop-expiry
invariant-loop-expiry l =
    map outgoing_of l.fn.sends.items ++ flat_map (λ (expiry : Expiry). refusal_sends l.fn.coord.contents expiry.txn) l.fn.expiries
    ≡ map outgoing_of l.sends.items ++ flat_map (λ (expiry : Expiry). refusal_sends l.fn.coord.contents expiry.txn) (drop l.expiry-index l.expiries)
