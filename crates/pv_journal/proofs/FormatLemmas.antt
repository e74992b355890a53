-- What a crash leaves of each call that makes an empty journal.
use Rattle.std.proofs.Common.{◌≡◌, inl, ℕ, false, List, Result, Err, refl, sym, subst, arith}
use Rattle.pv_base.specs.Fault.{Rose}
use Rattle.pv_disk_model.specs.Calls.{make_room}
use Rattle.pv_disk_model.specs.DiskModel.{DiskModel}
use Rattle.pv_disk_model.specs.Disk.{Torn, LeavesOnly, LeftTorn, MakesRoom}
use Rattle.pv_disk_model.proofs.DiskLemmas.{LeavesOnly-trans, LeavesOnly-weaken}
use Rattle.pv_disk.specs.DiskAnswers.{ReservesOnDisk}
use Rattle.pv_disk.specs.declared.disk_error.DiskError.{DiskError}
use Rattle.pv_disk.specs.declared.disk_error.DiskError.TheVariants.{Failed, NoMemory}
use Rattle.pv_journal.specs.Opening.{Formatted, Formats}
use Rattle.pv_law_calls.proofs.LookLemmas.{still_left}

torn_same : (place count : ℕ) (bytes : List ℕ) → Torn place count bytes bytes
torn_same place count bytes = record { before = refl; after = refl; no_shorter = omega arith; no_longer = omega arith }

module _ {D : Type 0} (M : DiskModel D) (old : D) where
  -- After room was made.
  pub after_room : (new : D) → MakesRoom M old new → LeavesOnly M old new (LeftTorn M old 0 9)
  after_room new makes =
      LeavesOnly-weaken M old new (M.may_leave old) (LeftTorn M old 0 9) makes.any_moment (λ left may. (left, may, torn_same 0 9 left))

  -- After the write.
  pub after_header : (mid new : D) → MakesRoom M old mid → LeavesOnly M mid new (LeftTorn M mid 0 9) → LeavesOnly M old new (LeftTorn M old 0 9)
  after_header mid new makes torn =
      LeavesOnly-trans M old mid new (LeftTorn M old 0 9) (LeftTorn M mid 0 9) (LeftTorn M old 0 9) (after_room mid makes) torn (λ left is. is)
      (λ left from. (from.0, still_left M old mid (M.may_leave old) makes.any_moment from.0 from.1, from.2))

  -- After the sync.
  pub after_sync : (mid new : D) → LeavesOnly M old mid (LeftTorn M old 0 9) → LeavesOnly M mid new (M.may_leave mid) → LeavesOnly M old new (LeftTorn M old 0 9)
  after_sync mid new leaves quiet =
      LeavesOnly-trans M old mid new (LeftTorn M old 0 9) (M.may_leave mid) (LeftTorn M old 0 9) leaves quiet (λ left is. is) (still_left M old mid (LeftTorn M old 0 9) leaves)

  -- There was no room.
  pub no_room : {X : Type 0} (Y : Type 0) (new : D) (e : DiskError) (result : Result X DiskError) → result ≡ Err e → ReservesOnDisk M {X = Y} old new 9 1 (Err e) → M.goes old (make_room 9 1) false new
      → Formats M {X = X} old new result
  no_room Y new Failed result is reserves goes =
      subst (Formats M old new) (sym is)
      (record { known = reserves.0.known; any_moment = after_room new reserves.0; faults = reserves.0.faults; calls = inl (refl, goes) }, reserves.1)
  no_room Y new NoMemory result is reserves goes =
      subst (Formats M old new) (sym is)
      (record { known = reserves.0.known; any_moment = after_room new reserves.0; faults = reserves.0.faults; calls = inl (refl, goes) }, reserves.1, reserves.0.any_moment, reserves.2)

  -- The disk failed later.
  pub disk_failed : {X : Type 0} (new : D) (result : Result X DiskError) → result ≡ Err Failed → Formatted M old new false → Rose (M.faults old) (M.faults new) → Formats M {X = X} old new result
  disk_failed new result is formatted rose = subst (Formats M old new) (sym is) (formatted, rose)
