use Rattle.std.proofs.Common.{◌≡◌, map, find, drop, not}
use Rattle.std.specs.Option.{unwrap_or}
use Rattle.pv_coord.specs.Work.{awaited}
use Rattle.pv_model.specs.Check.{Part}
use Rattle.pv_protocol.specs.Tick.{has_answered}
use Rattle.pv_coord.proofs.entry.Entry.awaited.Given as goal

abbrev pub invariant-loop-part : goal.invariant-loop-part
invariant-loop-part l =
    awaited l.fn.self ≡ unwrap_or (find (λ site. not (has_answered l.fn.self.entry.stage l.fn.self.entry site)) (map (λ (part : Part). part.site) (drop l.part-index l.part-items))) 0
