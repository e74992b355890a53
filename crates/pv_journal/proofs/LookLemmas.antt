-- What a reading tells.
use Rattle.std.proofs.Common.{◌≡◌, ℕ, List, Option, Some, Result, Ok, Err, refl}
use Rattle.std.specs.Prelude.{IsErrOf, IfOk, IfErr, IfSome}
use Rattle.pv_disk.specs.declared.disk_error.LookError.{LookError}
use Rattle.pv_disk.specs.declared.disk_error.LookError.TheVariants.{Failed, NotOurs, NoMemory}
use Rattle.pv_journal.specs.Opening.{place_in}

-- What is said of each place that a reading tells, is said of the place in its error.
pub place_told : {X : Type 0} (P : ℕ → Type 0) (result : Result X LookError) → ((place : ℕ) → IsErrOf result (NotOurs place) → P place)
    → IfErr result (λ e. IfSome (place_in e) P)
place_told P (Ok x) known = tt
place_told P (Err Failed) known = tt
place_told P (Err (NotOurs place)) known = known place refl
place_told P (Err NoMemory) known = tt

-- What is said of all bytes that are known, is said of these.
pub found_at : {X E : Type 0} (P : X → List ℕ → Type 0) (content : Option (List ℕ)) (bytes : List ℕ) (result : Result X E)
    → IfOk result (λ x. (held : List ℕ) → content ≡ Some held → P x held) → content ≡ Some bytes → IfOk result (λ x. P x bytes)
found_at P content bytes (Ok x) found is = found bytes is
found_at P content bytes (Err e) found is = tt
