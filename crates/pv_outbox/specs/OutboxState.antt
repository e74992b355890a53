-- An outbox as contracts see it, and which records it stands for.
use Rattle.std.specs.Prelude.{◌≡◌, Bool, false, List, Some}
use Rattle.pv_disk_model.specs.LogModel.{LogModel}
use Rattle.pv_disk_model.specs.Size.{Contents, size_of}
use Rattle.pv_law_outbox.specs.State.{Record, State, state_of}
use Rattle.pv_outbox.specs.Spelling.{SpellRecords}

-- An outbox over a log: what its records say, whether it is down, and the log.
pub record OutboxState (W : Type 0) : Type 0 where
  pub state : State
  pub is_down : Bool
  pub log : W

module _ {W : Type 0} (M : LogModel W) where
  -- The log is as the outbox left it, and isn't down where the outbox is up.
  pub record IsUsable (outbox : OutboxState W) : Type 0 where
    pub intact : M.is_intact outbox.log
    pub up : outbox.is_down ≡ false → M.is_down outbox.log ≡ false

  -- The outbox is up and stands for these records, which are spelled by these contents: it knows what they say, and they are what the log
  -- holds, where that is known.
  pub record StandsFor (outbox : OutboxState W) (entries : List Record) (contents : Contents) : Type 0 where
    pub up : outbox.is_down ≡ false
    pub state : outbox.state ≡ state_of entries
    pub spelled : SpellRecords entries contents
    pub size : M.size outbox.log ≡ size_of contents
    pub held : (held : Contents) → M.contents outbox.log ≡ Some held → held ≡ contents
