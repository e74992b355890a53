-- Events that fit so many deciders.
use Rattle.std.specs.Prelude.{ℕ, ◌<◌, ◌≤◌, ⊤}
use Rattle.pv_base.specs.declared.limits.TheConstants.{MAX_SITES}
use Rattle.pv_quorum_script.specs.declared.event.QuorumEvent.{QuorumEvent}
use Rattle.pv_quorum_script.specs.declared.event.QuorumEvent.TheVariants.{Propose, Deliver, Pump, Lose, Drop, Stop, Start, Arm, Mend}

-- The event's decider is one of so many, its transaction's site is one that there may be, and what it arms is counted from 1.
abbrev pub IsEventFor : ℕ → QuorumEvent → Type 0
IsEventFor count (Propose decider txn commits) = (decider < count) × (txn.site.0 < MAX_SITES)
IsEventFor count (Deliver number) = ⊤
IsEventFor count (Pump most) = ⊤
IsEventFor count (Lose number) = ⊤
IsEventFor count (Drop decider) = decider < count
IsEventFor count (Stop decider) = decider < count
IsEventFor count (Start decider) = decider < count
IsEventFor count (Arm decider call mode stop) = (decider < count) × (1 ≤ call)
IsEventFor count (Mend decider) = decider < count
