-- Room in the log, and then the append; and a log of which it isn't known what it holds.
use Rattle.std.proofs.Common.{◌≡◌, ℕ, ◌-◌, ◌^◌, false, List, Option, Some, None, min, refl, ap, arith}
use Rattle.std.specs.Option.{is_some}
use Rattle.pv_disk_model.specs.Log.{Keeps, Adds, MayAdd, StaysUp, GoesDown}
use Rattle.pv_disk_model.specs.LogModel.{LogModel}
use Rattle.pv_disk_model.specs.Size.{Contents, size_of}
use Rattle.pv_disk_model.proofs.LogLemmas.{Keeps-Adds, Keeps-MayAdd, StaysUp-GoesDown, StaysUp-trans}

module _ {W : Type 0} (M : LogModel W) (old mid new : W) (bytes : List ℕ) (intact : M.is_intact old) (stays : StaysUp M old mid) (kept : Keeps M old mid) where
  pub adds-after : StaysUp M mid new × Adds M mid new bytes → StaysUp M old new × Adds M old new bytes
  adds-after added = (StaysUp-trans M old mid new stays added.0, Keeps-Adds M old mid new intact stays.was_up kept bytes added.1)

  pub may-add-after : GoesDown M mid new × MayAdd M mid new bytes → GoesDown M old new × MayAdd M old new bytes
  may-add-after failed = (StaysUp-GoesDown M old mid new stays failed.0, Keeps-MayAdd M old mid new intact stays.was_up kept bytes failed.1)

module _ {W : Type 0} (M : LogModel W) (old new : W) (read : Contents) (count length_now : ℕ) (intact : M.is_intact old) (up : M.is_down old ≡ false) (kept : Keeps M old new)
    (same : (held : Contents) → M.contents old ≡ Some held → read ≡ held) (counted : count ≡ min (size_of read) (2 ^ 64 - 1)) (told : length_now ≡ M.size new)
    (differs : count ≡ length_now → ⊥) where
  unknown-by : (known : Option Contents) → M.contents old ≡ known → is_some known ≡ false
  unknown-by None is = refl
  unknown-by (Some held) is =
      let size = M.size_is old held intact up is in
      let read_size = ap size_of (same held is) in
      absurd (differs (omega (arith, counted, told, kept.size, size, read_size, M.is_bounded old intact)))

  -- A log whose length isn't that of what was read isn't known.
  pub unknown-contents : is_some (M.contents old) ≡ false
  unknown-contents = unknown-by (M.contents old) refl
