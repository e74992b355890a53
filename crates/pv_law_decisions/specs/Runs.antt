-- Runs of scripts of deciders.
use Rattle.std.specs.Prelude.{◌≡◌, ◌⊎◌, ℕ, suc, ◌≤◌, Option, Some, None, List, [], ◌∷◌, ◌++◌, slice_get}
use Rattle.pv_law_decisions.specs.Lines.{Line}
use Rattle.pv_law_decisions.specs.Scene.{Scene, proposed, delivered, lost, without, halted, begun, with_arm, memory_at, next_fresh}
use Rattle.pv_law_quorum.specs.Decider.{Setup}
use Rattle.pv_quorum_script.specs.declared.event.QuorumEvent.{QuorumEvent}
use Rattle.pv_quorum_script.specs.declared.event.QuorumEvent.TheVariants.{Propose, Deliver, Pump, Lose, Drop, Stop, Start, Arm, Mend}

-- So many messages are delivered, each the least that is fresh then, with what that prints.
pub data Delivers (setup : Setup) (before : Scene) : ℕ → List Line → Scene → Type 0 where
  none : Delivers setup before 0 [] before
  more : (k : ℕ) (lines : List Line) (scene : Scene) (number : ℕ) → Delivers setup before k lines scene → next_fresh scene ≡ Some number
      → Delivers setup before (suc k) (lines ++ (delivered setup scene number).0) (delivered setup scene number).1

-- A pump delivers until no message is fresh, or so many were delivered.
abbrev pub IsOver : Option ℕ → ℕ → Scene → Type 0
IsOver None k after = next_fresh after ≡ None
IsOver (Some most) k after = (k ≡ most) ⊎ ((k ≤ most) × (next_fresh after ≡ None))

-- This is what is printed, and the scene after it.
abbrev pub Comes : List Line × Scene → List Line → Scene → Type 0
Comes now lines after = (lines ≡ now.0) × (after ≡ now.1)

-- What an event prints, and the scene after it.
abbrev pub Happens : Setup → Scene → QuorumEvent → List Line → Scene → Type 0
Happens setup before (Propose n txn commits) lines after = Comes (proposed setup before n txn commits) lines after
Happens setup before (Deliver number) lines after = Comes (delivered setup before number) lines after
Happens setup before (Pump most) lines after = (k : ℕ) × Delivers setup before k lines after × IsOver most k after
Happens setup before (Lose number) lines after = Comes (lost before number (slice_get before.world.sent number)) lines after
Happens setup before (Drop n) lines after = Comes ([], record before { fresh = without n before.world.sent before.fresh }) lines after
Happens setup before (Stop n) lines after = Comes (halted setup before n (memory_at before n)) lines after
Happens setup before (Start n) lines after = Comes (begun setup before n (memory_at before n)) lines after
Happens setup before (Arm n call mode stops) lines after = Comes ([], with_arm before n (Some (record { left = call; mode = mode; stop = stops }))) lines after
Happens setup before (Mend n) lines after = Comes ([], with_arm before n None) lines after

-- What events print, one after another, and the scene after them.
pub data Runs (setup : Setup) (first : Scene) : List QuorumEvent → List Line → Scene → Type 0 where
  none : Runs setup first [] [] first
  more : (events : List QuorumEvent) (lines : List Line) (before : Scene) (event : QuorumEvent) (now : List Line) (after : Scene) → Runs setup first events lines before
      → Happens setup before event now after → Runs setup first (events ++ event ∷ []) (lines ++ now) after
