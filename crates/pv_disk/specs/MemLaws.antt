-- A memory disk as a disk.
use Rattle.std.specs.Prelude.{◌≡◌, ◌⊎◌, ℕ, List, Some, None, length, drop}
use Rattle.std.proofs.Common.{inl, inr, sym, arith, subst}
use Rattle.std.proofs.lemmas.List.{drop_all}
use Rattle.std.proofs.lemmas.Option.{none-some}
use Rattle.pv_disk_model.specs.DiskModel.{DiskModel}
use Rattle.pv_disk.specs.MemImage.{ImageState, Moment, MayLeave, MightHaveLeft}
use Rattle.pv_disk.specs.MemDisk.{MemState, MemGoes}

-- A crash now leaves what reads give, or what torn writes make of what was last synced.
abbrev pub LeftNow : ImageState → List ℕ → Type 0
LeftNow image left = (left ≡ image.content) ⊎ MayLeave image.now left

-- A crash since that moment might have left this.
abbrev pub LeftSince : ImageState → ℕ → List ℕ → Type 0
LeftSince image since left = LeftNow image left ⊎ MightHaveLeft (drop since image.past) left

pub left_now : (image : ImageState) (left : List ℕ) → LeftSince image (length image.past) left → LeftNow image left
left_now image left (inl now) = now
left_now image left (inr then) = absurd (subst (λ (l : List Moment). MightHaveLeft l left) (drop_all (length image.past) image.past (omega arith)) then)

pub same_content : (a b : List ℕ) → Some a ≡ Some b → b ≡ a
same_content a b e = let same : a ≡ b = cc in sym same

abbrev pub mem_model : DiskModel MemState
mem_model = record {
  content = λ disk. Some disk.image.content;
  given = λ disk. None;
  is_kept = λ disk unknown. absurd (none-some disk.image.content (sym unknown));
  may_leave = λ disk. LeftNow disk.image;
  moment = λ disk. length disk.image.past;
  left_since = λ disk. LeftSince disk.image;
  faults = λ disk. disk.faults;
  room = λ disk. disk.image.room;
  writes = λ disk. disk.image.writes;
  goes = MemGoes;
  counts_now = λ disk t left le now. inl now;
  only_now = λ disk left since. left_now disk.image left since;
  is_left = λ disk bytes is. inl (same_content disk.image.content bytes is);
}
