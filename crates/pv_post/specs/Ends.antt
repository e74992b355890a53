-- What a contract sees of the two ends of a ring.
use Rattle.std.specs.Prelude.{◌≡◌, ◌⊎◌, ℕ, List}
use Rattle.rtrb.specs.Ring.{sent, received, known_free, known_items, SameProducer, SameConsumer}
use Rattle.pv_post.specs.declared.fault_plan.FaultPlan.{FaultPlan}
use Rattle.pv_post.specs.declared.outlet.Out.{Out}
use Rattle.pv_post.specs.declared.inlet.In.{In}

-- A message counts once or twice.
abbrev pub IsCount : ℕ → Type 0
IsCount count = (count ≡ 1) ⊎ (count ≡ 2)

module _ {M : Type 0} where
  abbrev pub plan_of : Out M → FaultPlan
  plan_of out = out.plan

  -- The messages that were handed to `post`, in order.
  abbrev pub offered : Out M → List M
  offered out = out.offered.items

  -- Those that it put into the ring, each with how often it counts.
  abbrev pub posted : Out M → List (M × ℕ)
  posted out = sent out.ring

  -- How many places of the ring it knows to be free.
  abbrev pub free : Out M → ℕ
  free out = known_free out.ring

  -- The messages that were taken, in order, each with how often it counts.
  abbrev pub taken : In M → List (M × ℕ)
  taken inlet = received inlet.ring

  -- The messages that are known to be in the ring: those that are taken next.
  abbrev pub known : In M → List (M × ℕ)
  known inlet = known_items inlet.ring

  -- They are the ends of one ring.
  abbrev pub IsPair : Out M → In M → Type 0
  IsPair out inlet = Rattle.rtrb.specs.Ring.IsPair out.ring inlet.ring

  -- It is the same end, with the same plan.
  abbrev pub SameOut : Out M → Out M → Type 0
  SameOut old new = SameProducer old.ring new.ring × (new.plan ≡ old.plan)

  -- It is the same end.
  abbrev pub SameIn : In M → In M → Type 0
  SameIn old new = SameConsumer old.ring new.ring
