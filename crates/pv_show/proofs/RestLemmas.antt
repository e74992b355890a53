-- A new bay in memory is at rest.
use Rattle.std.proofs.Common.{◌≡◌, ℕ, zero, suc, false, List, [], ◌∷◌, map, Option, None, Result, Ok, Err, refl, sym, subst}
use Rattle.std.specs.Prelude.{IfOk, replicate, slice_get}
use Rattle.pv_disk.specs.MemBay.{MemBayState, berth_of, first_berth, mem_bay}
use Rattle.pv_disk.specs.MemDisk.{MemState}
use Rattle.pv_show.specs.Bays.{IsAtRest}

none-first-out : (disks : List MemState) (site : ℕ) (kept : Option (Option MemState)) → (berth_of (slice_get (map first_berth disks) site) kept).is_out ≡ false
none-first-out [] site kept = refl
none-first-out (disk ∷ disks) zero kept = refl
none-first-out (disk ∷ disks) (suc site) kept = none-first-out disks site kept

pub rest-of-new : {E : Type 0} (disks : List MemState) (result : Result MemBayState E)
    → IfOk result (λ bay. bay ≡ record { berths = map first_berth disks; kept = replicate 16 None; faults = 0 }) → IfOk result (IsAtRest mem_bay)
rest-of-new disks (Ok bay) is = λ (site : ℕ). subst (λ (b : MemBayState). (mem_bay.berth b site).is_out ≡ false) (sym is) (none-first-out disks site _)
rest-of-new disks (Err e) is = is
