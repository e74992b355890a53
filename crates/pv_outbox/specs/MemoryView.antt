-- What an outbox has in memory.
use Rattle.std.specs.Prelude.{ℕ}
use Rattle.pv_law_outbox.specs.State.{State}
use Rattle.pv_outbox.specs.Covers.{Queued}

-- What the records say, and for how many more of each kind there is room.
pub record Facts : Type 0 where
  pub state : State
  pub room : ℕ

-- That, and where the outputs are found that may be ready.
pub record Memory : Type 0 where
  pub facts : Facts
  pub queue : Queued
