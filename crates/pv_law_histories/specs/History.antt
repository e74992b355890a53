-- The history of a site: what it took in, and what came of it, each at a stamp (Lamport, 1978).
use Rattle.std.specs.Prelude.{ℕ, List, [], ◌∷◌}
use Rattle.pv_format.specs.Message.{Message}
use Rattle.pv_model.specs.LiveScript.{Request}
use Rattle.pv_protocol.specs.Lines.{Line, lines_of}
use Rattle.pv_protocol.specs.State.{Note}

-- What a site took in: a request of one of its clients, a message from a site, or a tick. A message comes with the stamp at which it was sent
-- and its place among those that were sent then.
pub data Intake : Type 0 where
  request : (client : ℕ) → Request → Intake
  parcel : (from stamp place : ℕ) → Message → Intake
  tick : Intake

-- What came of it: a step with these notes; a fault in the step's append, after which the site is down; or nothing, since the site was down.
pub data Came : Type 0 where
  done : List Note → Came
  fault : Came
  down : Came

-- What a site took in at a stamp. It sent so many messages, of which the last few found no memory and were lost.
pub record Stamped : Type 0 where
  pub stamp : ℕ
  pub intake : Intake
  pub sends : ℕ
  pub short : ℕ
  pub came : Came

-- what is printed of it, at the site of this number
abbrev pub lines_of_came : ℕ → Came → List Line
lines_of_came n (done notes) = lines_of n notes
lines_of_came n fault = Line.fault n ∷ []
lines_of_came n down = Line.down n ∷ []
