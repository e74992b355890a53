-- How synced writes follow each other.
use Rattle.std.proofs.Common.{◌≡◌, inl, inr, ℕ, ◌≤◌, Bool, true, false, List, [], ◌∷◌, ◌++◌, Some, Result, Ok, Err, OnOk, length, arith, ap, subst}
use Rattle.pv_base.specs.declared.failure.Failed.{Failed as Fault}
use Rattle.pv_disk_model.specs.Calls.{Makes}
use Rattle.pv_disk_model.specs.DiskModel.{DiskModel}
use Rattle.pv_disk_model.specs.Disk.{overlaid}
use Rattle.pv_disk_model.proofs.OverlayLemmas.{length-overlaid}
use Rattle.pv_law_calls.proofs.LookLemmas.{known_before}
use Rattle.pv_ckpt.specs.Writing.{WritesSynced}

-- Some calls, and then others.
pub makes_then : {W Call : Type 0} (goes : W → Call → Bool → W → Type 0) (old mid new : W) (first second : List Call) (ok : Bool) → Makes goes old first true mid → Makes goes mid second ok new
    → Makes goes old (first ++ second) ok new
makes_then goes old mid new [] second ok made then = subst (λ w. Makes goes w second ok new) made.1 then
makes_then goes old mid new (call ∷ first) second ok (inl failed) then = absurd (let both : true ≡ false = failed.0 in cc)
makes_then goes old mid new (call ∷ first) second ok (inr (next, goes_there, made)) then = inr (next, goes_there, makes_then goes next mid new first second ok made then)

-- The others don't come where one of the first failed.
pub makes_not : {W Call : Type 0} (goes : W → Call → Bool → W → Type 0) (old new : W) (first second : List Call) → Makes goes old first false new → Makes goes old (first ++ second) false new
makes_not goes old new [] second made = absurd (let both : false ≡ true = made.0 in cc)
makes_not goes old new (call ∷ first) second (inl failed) = inl failed
makes_not goes old new (call ∷ first) second (inr (next, goes_there, made)) = inr (next, goes_there, makes_not goes next new first second made)

module _ {D : Type 0} (M : DiskModel D) where
  -- A write makes the disk no shorter.
  pub still_long : {X : Type 0} (old new : D) (place : ℕ) (written : List ℕ) (result : Result X Fault) → WritesSynced M old new place written result
      → ((held : List ℕ) → M.content old ≡ Some held → (place ≤ length held) × (59 ≤ length held)) → OnOk result ((held : List ℕ) → M.content new ≡ Some held → 59 ≤ length held)
  still_long old new place written (Ok x) wrote long = λ held now.
      let was = known_before (M.content old) (M.content new) held wrote.known now in
      let made = overlaid was.0 place written in
      let is : M.content new ≡ Some made = wrote.content was.0 was.1 in
      let same : made ≡ held = cc in
      let within = long was.0 was.1 in
      omega (arith, ap length same, length-overlaid was.0 place written within.0, within.1)
  still_long old new place written (Err e) wrote long = tt
