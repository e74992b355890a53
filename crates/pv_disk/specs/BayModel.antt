-- What there is to say of a bay, from which the disks of a run's sites come and to which they go back.
use Rattle.std.specs.Prelude.{ℕ, Bool, List, Option}

-- What a bay says of a site: whether its disk is out, and how many disks were handed back of which a call had failed, up to u64's greatest
-- value. Where the bay tells its contents also what the disk handed back last reads, and what the disk reads that is kept now, if one is.
pub record Berth : Type 0 where
  pub is_out : Bool
  pub faults : ℕ
  pub holds : List ℕ
  pub kept : Option (List ℕ)

-- A bay as clauses see it.
pub record BayModel (W : Type 0) : Type 0 where
  -- whether it tells its contents
  pub tells : W → Bool
  -- how often it failed to hand out a disk, up to u64's greatest value
  pub faults : W → ℕ
  -- what it says of the site with this number
  pub berth : W → ℕ → Berth
