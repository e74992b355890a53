-- How calls that only read join.
use Rattle.std.proofs.Common.{◌≡◌, ℕ, Bool, true, false, List, Option, Some, None, Result, Ok, Err, refl, sym, ◌∙◌, ap, subst, arith}
use Rattle.std.specs.Prelude.{is_some}
use Rattle.pv_base.specs.Fault.{Rose}
use Rattle.pv_base.specs.declared.failure.Failed.{Failed as Fault}
use Rattle.pv_disk_model.specs.Calls.{DiskCall, IsRead, OnlyReads, none, one_more}
use Rattle.pv_disk_model.specs.DiskModel.{DiskModel}
use Rattle.pv_disk_model.specs.Disk.{LeavesOnly, Observes}
use Rattle.pv_disk_model.proofs.DiskLemmas.{LeavesOnly-none, LeavesOnly-trans}
use Rattle.pv_disk.specs.declared.disk_error.LookError.{LookError}
use Rattle.pv_disk.specs.declared.disk_error.LookError.TheVariants.{Failed, NotOurs, NoMemory}
use Rattle.pv_law_calls.specs.Reading.{Looks, LooksOn, LooksBy}

module _ {D : Type 0} (M : DiskModel D) where
  -- What a crash may leave after calls that only read, it might have left before them.
  pub still_left : (old new : D) (P : List ℕ → Type 0) → LeavesOnly M old new P → (left : List ℕ) → M.may_leave new left → P left
  still_left old new P leaves left may = leaves.each left (M.counts_now new (M.moment old) left leaves.later may)

  pub Looks-none : (disk : D) → Looks M disk disk
  Looks-none disk = record {
    known = refl;
    any_moment = LeavesOnly-none M disk (M.may_leave disk) (λ left may. may);
    room = omega arith;
    writes = omega arith;
    faults = omega arith;
    reads = none;
  }

  pub Looks-call : {X : Type 0} (old new : D) (call : DiskCall) (ok : Bool) (result : Result X Fault) → IsRead call → M.goes old call ok new → Observes M old new result → Looks M old new
  Looks-call old new call ok result is_read goes observes = record {
    known = observes.known;
    any_moment = observes.any_moment;
    room = observes.room;
    writes = observes.writes;
    faults = observes.fault.0;
    reads = one_more old call ok new none is_read goes;
  }

  OnlyReads-trans : (old mid new : D) → OnlyReads M.goes old mid → OnlyReads M.goes mid new → OnlyReads M.goes old new
  OnlyReads-trans old mid new first none = first
  OnlyReads-trans old mid new first (one_more from call ok _ second is_read goes) =
      one_more from call ok new (OnlyReads-trans old mid from first second) is_read goes

  pub Looks-trans : (old mid new : D) → Looks M old mid → Looks M mid new → Looks M old new
  Looks-trans old mid new first second = record {
    known = second.known ∙ first.known;
    any_moment =
        LeavesOnly-trans M old mid new (M.may_leave old) (M.may_leave mid) (M.may_leave old) first.any_moment second.any_moment (λ left may. may)
        (still_left old mid (M.may_leave old) first.any_moment);
    room = omega (arith, first.room, second.room);
    writes = omega (arith, first.writes, second.writes);
    faults = omega (arith, first.faults, second.faults);
    reads = OnlyReads-trans old mid new first.reads second.reads;
  }

  -- A reading after calls that only read.
  pub looked : {X Y : Type 0} (old mid new : D) (x : X) (result : Result Y LookError) → LooksBy M {X = X} old mid (Ok x) → LooksBy M {X = Y} mid new result → LooksBy M {X = Y} old new result
  looked old mid new x (Ok y) first second = (Looks-trans old mid new first.0 second.0, second.1 ∙ first.1, second.2 ∙ first.2)
  looked old mid new x (Err Failed) first second = (Looks-trans old mid new first.0 second.0, omega (arith, first.0.faults, second.1))
  looked old mid new x (Err (NotOurs place)) first second = (Looks-trans old mid new first.0 second.0, second.1 ∙ first.1, second.2 ∙ first.2)
  looked old mid new x (Err NoMemory) first second = (Looks-trans old mid new first.0 second.0, second.1 ∙ first.1, second.2 ∙ first.2)

  -- The same where both are known to have succeeded.
  pub looked_ok : (old mid new : D) → LooksOn M old mid → LooksOn M mid new → LooksOn M old new
  looked_ok old mid new first second = (Looks-trans old mid new first.0 second.0, second.1 ∙ first.1, second.2 ∙ first.2)

  -- The error of a reading is passed on.
  pub looked_err : {X Y : Type 0} (old mid new : D) (e : LookError) (result : Result X LookError) (other : Result Y LookError) → result ≡ Err e → other ≡ Err e
      → LooksOn M old mid → LooksBy M {X = X} mid new result → LooksBy M {X = Y} old new other
  looked_err old mid new Failed result other is same first second =
      let failed = subst (LooksBy M mid new) is second in
      subst (LooksBy M old new) (sym same) (Looks-trans old mid new first.0 failed.0, omega (arith, first.0.faults, failed.1))
  looked_err old mid new (NotOurs place) result other is same first second =
      let failed = subst (LooksBy M mid new) is second in
      subst (LooksBy M old new) (sym same) (Looks-trans old mid new first.0 failed.0, failed.1 ∙ first.1, failed.2 ∙ first.2)
  looked_err old mid new NoMemory result other is same first second =
      let failed = subst (LooksBy M mid new) is second in
      subst (LooksBy M old new) (sym same) (Looks-trans old mid new first.0 failed.0, failed.1 ∙ first.1, failed.2 ∙ first.2)

  -- A call of the disk that reads.
  pub looks_ok : {X : Type 0} (old new : D) (call : DiskCall) (x : X) → IsRead call → M.goes old call true new → Observes M {X = X} old new (Ok x)
      → LooksOn M old new
  looks_ok old new call x is_read goes observes = (Looks-call old new call true (Ok x) is_read goes observes, observes.content, observes.uncounted)

  pub looks_failed : {X : Type 0} (old new : D) (call : DiskCall) (e : Fault) → IsRead call → M.goes old call false new → Observes M {X = X} old new (Err e)
      → Looks M old new × Rose (M.faults old) (M.faults new)
  looks_failed old new call e is_read goes observes = (Looks-call old new call false (Err e) is_read goes observes, observes.fault.1)

  pub looks_none : (disk : D) → LooksOn M disk disk
  looks_none disk = (Looks-none disk, refl, refl)

module _ {D : Type 0} (M : DiskModel D) where
  -- There was no memory for what was read.
  pub looked_in_vain : {Y : Type 0} (old new : D) (other : Result Y LookError) → other ≡ Err NoMemory → LooksOn M old new → LooksBy M {X = Y} old new other
  looked_in_vain old new other is looks = subst (LooksBy M old new) (sym is) looks

pub ruleset looking = (looked_ok, looked_err, looked_in_vain, looks_ok, looks_failed, looks_none)

-- What is known now was known before, where that stays alike.
pub known_before : {X : Type 0} (old new : Option X) (x : X) → is_some new ≡ is_some old → new ≡ Some x → (was : X) × (old ≡ Some was)
known_before (Some was) new x alike is = (was, refl)
known_before None new x alike is = absurd (let some : is_some new ≡ true = ap is_some is in cc)
