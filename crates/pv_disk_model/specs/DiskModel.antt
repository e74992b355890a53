-- What there is to say of a disk: what reads give, what a crash leaves, and for what it has room.
use Rattle.std.specs.Prelude.{◌≡◌, ℕ, ◌≤◌, Bool, true, List, Option, Some, None, is_some}
use Rattle.pv_disk_model.specs.Calls.{DiskCall}

-- A disk as clauses see it, and the laws that each disk keeps.
pub record DiskModel (W : Type 0) : Type 1 where
  -- what reads give, where it is known
  pub content : W → Option (List ℕ)
  -- what the reads so far have given, one after another, where that is kept
  pub given : W → Option (List ℕ)
  -- what a crash at this moment may leave
  pub may_leave : W → List ℕ → Type 0
  -- the moment, as a number that doesn't fall
  pub moment : W → ℕ
  -- what a crash at some moment from that one on might have left, during a call or between two
  pub left_since : W → ℕ → List ℕ → Type 0
  -- how many calls have failed, up to u64's greatest value
  pub faults : W → ℕ
  -- for how many bytes, and for how many writes, there is room
  pub room : W → ℕ
  pub writes : W → ℕ
  -- what a call makes of the disk and whether it succeeds, for those who know what the disk is
  pub goes : W → DiskCall → Bool → W → Type 0
  -- that is kept where what reads give isn't known
  pub is_kept : (disk : W) → content disk ≡ None → is_some (given disk) ≡ true
  -- this moment is one of those since an earlier one, and since this moment there is no other
  pub counts_now : (disk : W) (t : ℕ) (left : List ℕ) → t ≤ moment disk → may_leave disk left → left_since disk t left
  pub only_now : (disk : W) (left : List ℕ) → left_since disk (moment disk) left → may_leave disk left
  -- what reads give is one of the contents that a crash now may leave
  pub is_left : (disk : W) (bytes : List ℕ) → content disk ≡ Some bytes → may_leave disk bytes
