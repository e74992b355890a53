-- What is promised of the run of a script.
use Rattle.std.specs.Prelude.{◌≡◌, ℕ, ◌<◌, Bool, true, false, None, Some, List, ◌∷◌, ◌++◌}
use Rattle.std.specs.List.{Contains}
use Rattle.pv_base.specs.declared.txn.TxnId.{TxnId}
use Rattle.pv_law_decisions.specs.Lines.{Line, told}
use Rattle.pv_law_decisions.specs.Runs.{Happens, Runs}
use Rattle.pv_law_decisions.specs.Scene.{Scene, at_first, memory_at}
use Rattle.pv_law_quorum.specs.Ballot.{is_majority, is_passed}
use Rattle.pv_law_quorum.specs.Decider.{Setup, Entry, decided, spent, full}
use Rattle.pv_law_quorum.specs.Record.{promised}
use Rattle.pv_law_quorum.specs.Undisturbed.{next_ballot}
use Rattle.pv_law_quorum.specs.World.{IsChosen, records_at}
use Rattle.pv_quorum_script.specs.declared.event.QuorumEvent.{QuorumEvent}
use Rattle.pv_quorum_script.specs.declared.event.QuorumEvent.TheVariants.{Propose, Pump}

-- The decider is up.
abbrev pub IsUp : Scene → ℕ → Type 0
IsUp scene n = (memory : List Entry) × (memory_at scene n ≡ Some memory)

-- The decider proposes here with a majority that is up, itself among them. When all is delivered that comes of that, whoever was up is up still, so none has stopped and no disk has failed:
-- nobody starts meanwhile. And none of the deciders has promised a higher ballot of the transaction.
pub record IsUndisturbed (setup : Setup) (members : ℕ → Bool) (n : ℕ) (txn : TxnId) (before after : Scene) : Type 0 where
  pub most : is_majority setup.deciders members ≡ true
  pub own : members n ≡ true
  pub within : (k : ℕ) → members k ≡ true → k < setup.deciders
  pub up : (k : ℕ) → members k ≡ true → IsUp before k
  pub quiet : (k : ℕ) → IsUp before k → IsUp after k
  pub unpassed : (k : ℕ) → is_passed (next_ballot before.world n txn) (promised txn (records_at after.world k)) ≡ false

-- Of a proposal it is printed that a value is decided, that the log of one of these deciders is full, or that no ballot number is left.
pub data IsSettled (members : ℕ → Bool) (lines : List Line) (n : ℕ) (txn : TxnId) : Type 0 where
  by_decision : (commits : Bool) → Contains lines (told (decided n txn commits)) → IsSettled members lines n txn
  by_full_log : (k length : ℕ) → members k ≡ true → Contains lines (told (full k length)) → IsSettled members lines n txn
  by_last_number : Contains lines (told (spent n)) → IsSettled members lines n txn

module _ (setup : Setup) where
  -- The run of these events, with what it prints, and the scene in which it ends.
  abbrev pub Reaches : List QuorumEvent → List Line → Scene → Type 0
  Reaches events lines scene = Runs setup (at_first setup) events lines scene

  pub record KeepsPromises (events : List QuorumEvent) : Type 0 where
    -- At most one value is ever chosen for a transaction: what is chosen after some of the events is what is chosen after more of them.
    pub one : (front more : List QuorumEvent) → events ≡ front ++ more → (lines later : List Line) (scene last : Scene) → Reaches front lines scene
        → Runs setup scene more later last → (txn : TxnId) (v u : Bool) → IsChosen setup scene.world txn v → IsChosen setup last.world txn u → v ≡ u
    -- Every line in the whole run that says that a value is decided names the one that is chosen.
    pub decided_is : (lines : List Line) (last : Scene) → Reaches events lines last → (n : ℕ) (txn : TxnId) (v : Bool) → Contains lines (told (decided n txn v))
        → IsChosen setup last.world txn v
    -- What is chosen was proposed.
    pub was_proposed : (lines : List Line) (last : Scene) → Reaches events lines last → (txn : TxnId) (v : Bool) → IsChosen setup last.world txn v
        → (n : ℕ) × Contains events (Propose n txn v)
    -- A proposal that nothing disturbs, and after which all messages are delivered, is settled.
    pub settled : (front more : List QuorumEvent) (n : ℕ) (txn : TxnId) (v : Bool) → events ≡ front ++ Propose n txn v ∷ (Pump None ∷ more)
        → (lines now later : List Line) (before begun after : Scene) → Reaches front lines before → Happens setup before (Propose n txn v) now begun
        → Happens setup begun (Pump None) later after → (members : ℕ → Bool) → IsUndisturbed setup members n txn before after
        → IsSettled members (now ++ later) n txn
