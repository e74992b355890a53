-- A pump: fresh messages are delivered, the least first.
use Rattle.std.specs.Prelude.{ℕ, zero, suc, ◌+◌, ◌^◌, Bool, true, false, Option, Some, None, List, [], ◌∷◌, position}
use Rattle.pv_format.specs.Message.{Message, lock, granted, denied, prepare, vote_yes, vote_no, outcome_reported, ask, Envelope}
use Rattle.pv_model.specs.Events.{deliver}
use Rattle.pv_protocol.specs.State.{Setup}
use Rattle.pv_protocol.specs.World.{World}
use Rattle.pv_protocol.specs.WorldStep.{Transition, transition_of}

-- the least fresh message
abbrev pub next_fresh : World → Option ℕ
next_fresh world = position (λ fresh. fresh) world.fresh

-- goes on with the least fresh message, if there is one
abbrev pub with_fresh : Option ℕ → (ℕ → List Transition) → List Transition
with_fresh None go = []
with_fresh (Some n) go = go n

-- The least fresh message is delivered, again and again, until none is fresh or so many were delivered.
abbrev pub deliveries : ℕ → Setup → World → List Transition
deliveries zero setup world = []
deliveries (suc more) setup world =
    with_fresh (next_fresh world) (λ n. let transition = transition_of setup world (deliver n) in transition ∷ deliveries more setup transition.world)

-- Each message that a delivery causes is of a later kind. This is how many kinds may come after a message's own.
abbrev pub kinds_left : Message → ℕ
kinds_left (lock txn wants) = 4
kinds_left (granted txn grant values) = 3
kinds_left (denied txn item holder) = 3
kinds_left (prepare txn grant writes) = 2
kinds_left (vote_yes txn) = 1
kinds_left (vote_no txn cause) = 1
kinds_left (ask txn) = 1
kinds_left (outcome_reported txn commits) = 0

-- A bound on the deliveries that one message leads to, its own among them, where each causes at most 16 others.
abbrev pub weight : Message → ℕ
weight message = 17 ^ kinds_left message

-- the weights of the fresh messages
abbrev pub weight_left : List Envelope → List Bool → ℕ
weight_left [] marks = 0
weight_left (envelope ∷ sent) [] = 0
weight_left (envelope ∷ sent) (true ∷ marks) = weight envelope.message + weight_left sent marks
weight_left (envelope ∷ sent) (false ∷ marks) = weight_left sent marks

-- After at most this many deliveries no message is fresh.
abbrev pub enough : World → ℕ
enough world = weight_left world.sent world.fresh
