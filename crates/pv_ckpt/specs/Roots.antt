-- What the code knows of the root in force.
use Rattle.std.specs.Prelude.{◌≡◌, ℕ, ◌==◌, List, ◌++◌}
use Rattle.pv_disk_model.specs.Size.{Contents, size_of}
use Rattle.pv_law_checkpoints.specs.Roots.{gate_at, number_at, other_root, place_at, size_at, IsInForce}
use Rattle.pv_law_checkpoints.specs.TwoAreas.{Starts, end_at, IsLog, HasOtherStart, HasNoRoots, HasNoOpenRoot}
use Rattle.pv_ckpt.specs.declared.roots.Root.{Root}

-- In these bytes this root is in force, and it is known of the other one's gate whether it is 1.
pub record IsRootOf (bytes : List ℕ) (root : Root) : Type 0 where
  pub starts : Starts bytes
  pub in_force : IsInForce bytes root.at
  pub number : root.number ≡ number_at bytes root.at
  pub place : root.place ≡ place_at bytes root.at
  pub size : root.size ≡ size_at bytes root.at
  pub other : root.other_open ≡ (gate_at bytes (other_root root.at) == 1)

-- The bytes are a log with these contents, this root is in force in them, and the closed gate of its area stands at this place.
pub record IsHeld (bytes : List ℕ) (root : Root) (end : ℕ) (packed later : Contents) : Type 0 where
  pub root_is : IsRootOf bytes root
  pub log : IsLog root.at packed later bytes
  pub end_is : end ≡ end_at bytes root.at later

-- The bytes are a log with this root in force, this end and this length.
abbrev pub IsLogBy : List ℕ → Root → (end size : ℕ) → Type 0
IsLogBy bytes root end size = (packed : Contents) × (later : Contents) × IsHeld bytes root end packed later × (size ≡ size_of (packed ++ later))

-- Where bytes with no root in force show that, by what they begin with.
pub data IsRootless (bytes : List ℕ) (place : ℕ) : Type 0 where
  begins_otherwise : HasOtherStart bytes place → IsRootless bytes place
  ends_early : HasNoRoots bytes place → IsRootless bytes place
  none_open : HasNoOpenRoot bytes place → IsRootless bytes place
