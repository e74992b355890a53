-- Messages of a ring on which none fails.
use Rattle.std.specs.Prelude.{ℕ, List, map}
use Rattle.pv_post.specs.declared.fault_plan.FaultPlan.{FaultPlan}

-- By it no message fails.
abbrev pub no_faults : FaultPlan
no_faults = record { drop_each = 0; double_each = 0 }

module _ {M : Type 0} where
  -- each message, which counts once
  abbrev pub once_each : List M → List (M × ℕ)
  once_each messages = map (λ message. (message, 1)) messages

  -- the messages, without how often they count
  abbrev pub messages_of : List (M × ℕ) → List M
  messages_of counted = map (λ one. one.0) counted
