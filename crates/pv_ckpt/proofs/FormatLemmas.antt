-- What a crash leaves of each call that makes an empty log.
use Rattle.std.proofs.Common.{◌≡◌, inl, ℕ, false, List, [], ◌∷◌, Result, Err, length, refl, sym, subst}
use Rattle.pv_base.specs.BigEndian.{big_endian}
use Rattle.pv_base.specs.Fault.{Rose}
use Rattle.pv_base.specs.declared.failure.Failed.{Failed as Fault}
use Rattle.pv_disk_model.specs.Calls.{make_room}
use Rattle.pv_disk_model.specs.DiskModel.{DiskModel}
use Rattle.pv_disk_model.specs.Disk.{LeavesOnly, LeftTorn, MakesRoom}
use Rattle.pv_disk_model.proofs.DiskLemmas.{LeavesOnly-trans, LeavesOnly-weaken}
use Rattle.pv_disk_model.proofs.OverlayLemmas.{Torn-refl}
use Rattle.pv_disk.specs.DiskAnswers.{ReservesOnDisk}
use Rattle.pv_disk.specs.declared.disk_error.DiskError.{DiskError}
use Rattle.pv_disk.specs.declared.disk_error.DiskError.TheVariants.{Failed, NoMemory}
use Rattle.pv_law_calls.proofs.LookLemmas.{still_left}
use Rattle.pv_law_checkpoints.specs.TwoAreas.{formatted}
use Rattle.pv_ckpt.specs.Opening.{Formatted, Formats}
use Rattle.pv_ckpt.specs.Writing.{WritesSynced}

-- The bytes that are written.
abbrev pub empty : List ℕ
empty =
    80 ∷ 86 ∷ 67 ∷ 75 ∷ 80 ∷ 84 ∷ 48 ∷ 49 ∷ 1 ∷ 0 ∷ 0 ∷ 0 ∷ 0 ∷ 0 ∷ 0 ∷ 0 ∷ 1 ∷ 0 ∷ 0 ∷ 0 ∷ 0 ∷ 0 ∷ 0 ∷ 0 ∷ 58 ∷ 0 ∷ 0 ∷ 0 ∷ 0 ∷ 0 ∷ 0 ∷ 0 ∷ 0 ∷ 0 ∷ 0 ∷ 0 ∷ 0 ∷ 0 ∷ 0 ∷ 0 ∷ 0 ∷ 0
    ∷ 0 ∷ 0 ∷ 0 ∷ 0 ∷ 0 ∷ 0 ∷ 0 ∷ 0 ∷ 0 ∷ 0 ∷ 0 ∷ 0 ∷ 0 ∷ 0 ∷ 0 ∷ 0 ∷ 0 ∷ []

pub empty-formatted : empty ≡ formatted
unfolding formatted big_endian
empty-formatted = refl

module _ {D : Type 0} (M : DiskModel D) (old : D) where
  -- After room was made.
  pub after_room : (new : D) → MakesRoom M old new → LeavesOnly M old new (LeftTorn M old 0 59)
  after_room new makes =
      LeavesOnly-weaken M old new (M.may_leave old) (LeftTorn M old 0 59) makes.any_moment (λ left may. (left, may, Torn-refl 0 59 left))

  -- After the write and its sync.
  pub after_write : {X : Type 0} (mid new : D) (written : List ℕ) (result : Result X Fault) → MakesRoom M old mid → length written ≡ 59 → WritesSynced M mid new 0 written result
      → LeavesOnly M old new (LeftTorn M old 0 59)
  after_write mid new written result makes size wrote =
      let torn : LeavesOnly M mid new (LeftTorn M mid 0 59) = subst (λ n. LeavesOnly M mid new (LeftTorn M mid 0 n)) size wrote.any_moment in
      LeavesOnly-trans M old mid new (LeftTorn M old 0 59) (LeftTorn M mid 0 59) (LeftTorn M old 0 59) (after_room mid makes) torn (λ left is. is)
      (λ left from. (from.0, still_left M old mid (M.may_leave old) makes.any_moment from.0 from.1, from.2))

  -- There was no room.
  pub no_room : {X : Type 0} (Y : Type 0) (new : D) (e : DiskError) (result : Result X DiskError) → result ≡ Err e → ReservesOnDisk M {X = Y} old new 59 1 (Err e) → M.goes old (make_room 59 1) false new
      → Formats M {X = X} old new result
  no_room Y new Failed result is reserves goes =
      subst (Formats M old new) (sym is)
      (record { known = reserves.0.known; any_moment = after_room new reserves.0; faults = reserves.0.faults; calls = inl (refl, goes) }, reserves.1)
  no_room Y new NoMemory result is reserves goes =
      subst (Formats M old new) (sym is)
      (record { known = reserves.0.known; any_moment = after_room new reserves.0; faults = reserves.0.faults; calls = inl (refl, goes) }, reserves.1, reserves.0.any_moment, reserves.2)

  -- The disk failed later.
  pub disk_failed : {X : Type 0} (new : D) (result : Result X DiskError) → result ≡ Err Failed → Formatted M old new false → Rose (M.faults old) (M.faults new) → Formats M {X = X} old new result
  disk_failed new result is formatted_so rose = subst (Formats M old new) (sym is) (formatted_so, rose)
