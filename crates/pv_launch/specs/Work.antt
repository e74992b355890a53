-- Which bytes of a disk hold work: a promise or an outcome that a site has recorded.
use Rattle.std.specs.Prelude.{◌≡◌, ◌⊎◌, ℕ, ◌≤◌, List, [], Some, Contains, ⊤}
use Rattle.pv_disk_model.specs.DiskModel.{DiskModel}
use Rattle.pv_disk_model.specs.Size.{Contents}
use Rattle.pv_format.specs.Record.{Record, epoch_begun, prepared, outcome_known}
use Rattle.pv_format.specs.RecordSpelling.{IsReadAs}
use Rattle.pv_law_checkpoints.specs.TwoAreas.{IsTwoAreas}

-- The record is of work: it isn't only that the site has started.
abbrev pub IsWork : Record → Type 0
IsWork (epoch_begun epoch) = ⊥
IsWork (prepared txn writes) = ⊤
IsWork (outcome_known txn commits) = ⊤

-- The bytes are no log in two areas that has such a record.
abbrev pub HasNoWork : List ℕ → Type 0
HasNoWork bytes =
    (contents : Contents) (content : List ℕ) (entry : Record) → IsTwoAreas contents bytes → Contains contents content → IsReadAs entry content → IsWork entry → ⊥

module _ {D : Type 0} (M : DiskModel D) where
  -- Nothing is made of the disk that has work in it: where it read as empty it is known what it holds now, and that is no work, unless a crash might have left it then.
  pub record StaysIdle (old new : D) : Type 0 where
    pub faults : M.faults old ≤ M.faults new
    pub idle : M.content old ≡ Some [] → (bytes : List ℕ) × (M.content new ≡ Some bytes) × (HasNoWork bytes ⊎ M.may_leave old bytes)
