-- What there is to say of a log: what it holds, what a crash leaves of it, and whether it can go on.
use Rattle.std.specs.Prelude.{◌≡◌, ℕ, ◌≤◌, Bool, false, Option, Some}
use Rattle.pv_base.specs.declared.limits.TheConstants.{MAX_LENGTH}
use Rattle.pv_disk_model.specs.Calls.{LogCall}
use Rattle.pv_disk_model.specs.Size.{Contents, size_of}

-- A log as clauses see it, and the laws that each log keeps.
pub record LogModel (W : Type 0) : Type 1 where
  -- what the log holds, where it is known
  pub contents : W → Option Contents
  -- what a crash at this moment may leave: contents, or what can't be opened as a log (`None`)
  pub may_leave : W → Option Contents → Type 0
  -- the moment, as a number that doesn't fall
  pub moment : W → ℕ
  -- what a crash at some moment from that one on might have left, during a call or between two
  pub left_since : W → ℕ → Option Contents → Type 0
  -- how often what the log stands on has failed, up to u64's greatest value
  pub faults : W → ℕ
  -- a call has answered that it failed since the log was opened
  pub is_down : W → Bool
  -- the log's length and how long it may become, in bytes
  pub size : W → ℕ
  pub limit : W → ℕ
  -- an append of a content of so many bytes finds its memory
  pub has_room : W → ℕ → Type 0
  -- what the log stands on is as the log's own calls left it
  pub is_intact : W → Type 0
  -- what a call makes of the log and whether it succeeds, for those who know what the log is
  pub goes : W → LogCall → Bool → W → Type 0
  -- this moment is one of those since an earlier one, and since this moment there is no other
  pub counts_now : (log : W) (t : ℕ) (left : Option Contents) → t ≤ moment log → may_leave log left → left_since log t left
  pub only_now : (log : W) (left : Option Contents) → left_since log (moment log) left → may_leave log left
  -- what the log holds is one of those that a crash now may leave
  pub is_left : (log : W) (held : Contents) → contents log ≡ Some held → may_leave log (Some held)
  -- between its calls a log that isn't down has all that it holds on what it stands on
  pub settled : (log : W) (held : Contents) (left : Option Contents) → is_intact log → is_down log ≡ false → contents log ≡ Some held → may_leave log left → left ≡ Some held
  -- the log's length is that of what it holds, and never above the greatest
  pub size_is : (log : W) (held : Contents) → is_intact log → is_down log ≡ false → contents log ≡ Some held → size log ≡ size_of held
  pub is_bounded : (log : W) → is_intact log → size log ≤ MAX_LENGTH
