-- An append to a log in two areas: what its two writes make.
use Rattle.std.specs.Prelude.{◌≡◌, ◌⊎◌, ℕ, ◌+◌, ◌^◌, ◌<◌, List, [], ◌∷◌, ◌++◌, length, drop}
use Rattle.pv_disk_model.specs.Size.{Contents}
use Rattle.pv_format.specs.Journal.{framed}
use Rattle.pv_law_checkpoints.specs.Roots.{other_root, IsSameRoot}
use Rattle.pv_law_checkpoints.specs.TwoAreas.{end_at, IsLog}

-- What is written behind the closed gate: the content with its length before it and a closed gate after it.
abbrev pub frame_of : List ℕ → List ℕ
frame_of content = framed content ++ 0 ∷ []

-- The log is as before, and the content stands behind its closed gate.
pub record IsStaged (at : ℕ) (packed later : Contents) (content bytes : List ℕ) : Type 0 where
  pub log : IsLog at packed later bytes
  pub short : length content < 2 ^ 32
  pub tail : List ℕ
  pub behind_gate : drop (end_at bytes at later + 1) bytes ≡ framed content ++ 0 ∷ tail

-- Both roots read as before, so the number in force and the other root's gate are as before, and so is the place of the area.
pub record AreSameRoots (old new : List ℕ) (at : ℕ) : Type 0 where
  pub own : IsSameRoot old new at
  pub other : IsSameRoot old new (other_root at)

-- The log is as before, or has one content more.
abbrev pub IsWithOrWithout : (at : ℕ) → (packed later : Contents) → (content bytes : List ℕ) → Type 0
IsWithOrWithout at packed later content bytes = IsLog at packed later bytes ⊎ IsLog at packed (later ++ content ∷ []) bytes
