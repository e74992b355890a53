-- What a checkpoint writes, as the code holds it.
use Rattle.std.specs.Prelude.{◌≡◌, ℕ, ◌+◌, List, [], ◌∷◌, ◌++◌, length, true}
use Rattle.pv_disk_model.specs.Size.{Contents}
use Rattle.pv_law_checkpoints.specs.Roots.{fields_of, number_at, other_root}
use Rattle.pv_format.specs.Checkpoint.{naming, storing}
use Rattle.pv_law_checkpoints.specs.Stages.{free_place, writes}
use Rattle.pv_ckpt.specs.declared.checkpoint.Packed.{Packed}
use Rattle.pv_ckpt.specs.declared.roots.Root.{Root}

-- It is made of this block, for the log whose root in force this is and whose area ends there.
pub record IsPackedFrom (root : Root) (end : ℕ) (block : List ℕ) (packed : Packed) : Type 0 where
  pub at : packed.root.at ≡ other_root root.at
  pub number : packed.root.number ≡ root.number + 1
  pub place : packed.root.place ≡ free_place (length block) root.place end
  pub size : packed.root.size ≡ length block
  pub other : packed.root.other_open ≡ true
  pub block_is : packed.block.items ≡ block ++ 0 ∷ []
  pub fields_are : packed.fields.items ≡ fields_of (root.number + 1) packed.root.place (length block)

-- It is what a checkpoint of these bytes writes, in which the root at this place is in force, with the given contents in its block.
pub record IsMadeFor (packed : Packed) (at : ℕ) (given : Contents) (bytes : List ℕ) : Type 0 where
  pub root : packed.root.at ≡ other_root at
  pub block_is : packed.block.items ≡ writes storing (number_at bytes at) packed.root.place given
  pub fields_are : packed.fields.items ≡ writes naming (number_at bytes at) packed.root.place given
