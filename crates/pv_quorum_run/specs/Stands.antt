-- What the deciders of a run in memory stand for.
use Rattle.std.specs.Prelude.{◌≡◌, ◌≢◌, ℕ, ◌<◌, ◌≤◌, List, ◌++◌, All, get_or, map, length, Result, Ok, Err, ⊤}
use Rattle.pv_base.specs.declared.limits.TheConstants.{MAX_JOURNAL, MAX_SITES}
use Rattle.pv_law_decisions.specs.Lines.{Line, lines_text}
use Rattle.pv_law_decisions.specs.Scene.{Scene, arm_at, memory_at}
use Rattle.pv_law_quorum.specs.Decider.{Setup}
use Rattle.pv_law_quorum.specs.World.{records_at}
use Rattle.pv_quorum.specs.DeciderState.{setup_of}
use Rattle.pv_quorum.specs.Values.{txn_in}
use Rattle.pv_quorum_run.specs.Cells.{Seat, StandsForSeat}
use Rattle.pv_quorum_run.specs.Mail.{envelope_of}
use Rattle.pv_quorum_run.specs.declared.cell.Cell.{Cell}
use Rattle.pv_quorum_run.specs.declared.mail.Sent.{Sent}
use Rattle.pv_quorum_run.specs.declared.table.Table.{Table}

-- the decider of this number
abbrev pub seat_at : Scene → ℕ → Seat
seat_at scene n = record { records = records_at scene.world n; memory = memory_at scene n; arm = arm_at scene n }

-- A message went from one decider to another, and is of a transaction that there may be.
pub record IsPosted (count : ℕ) (post : Sent) : Type 0 where
  pub to : post.to < count
  pub from : post.from < count
  pub apart : post.from ≢ post.to
  pub site : (txn_in post.message).site.0 < MAX_SITES

-- The deciders in memory are those of the scene, with its messages.
pub record StandsFor (table : Table) (scene : Scene) : Type 0 where
  pub fewest : 3 ≤ table.count
  pub most : table.count ≤ 5
  pub cells : length table.cells.items ≡ table.count
  pub deciders : length scene.world.deciders ≡ table.count
  pub arms : length scene.arms ≡ table.count
  pub seats : (n : ℕ) (none : Cell) → n < table.count → StandsForSeat table.count n (get_or table.cells.items n none) (seat_at scene n)
  pub sent : map envelope_of table.mail.sent ≡ scene.world.sent
  pub fresh : table.mail.fresh ≡ scene.fresh
  pub posted : All (IsPosted table.count) table.mail.sent

-- The deciders in memory are those of some scene.
abbrev pub StandsForSome : Table → Type 0
StandsForSome table = (scene : Scene) × StandsFor table scene

-- what is fixed for these deciders
abbrev pub setup_for : Table → Setup
setup_for table = setup_of table.count MAX_JOURNAL

-- The deciders have become those of this scene, and these lines come after what the buffer held, unless there was no memory.
abbrev pub Becomes : {X E : Type 0} → (old new : Table) → (before after : List ℕ) → List Line × Scene → Result X E → Type 0
Becomes old new before after now (Ok _) = StandsFor new now.1 × (new.count ≡ old.count) × (after ≡ before ++ lines_text now.0)
Becomes old new before after now (Err _) = ⊤
