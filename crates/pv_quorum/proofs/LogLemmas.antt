-- Room in the log, and then the append.
use Rattle.std.proofs.Common.{◌≡◌, ℕ, ◌-◌, ◌^◌, true, false, List, Option, Some, None, Result, Ok, Err, length, min, inl, inr, refl, subst, ap, arith}
use Rattle.std.specs.Option.{is_some}
use Rattle.pv_disk_model.specs.Calls.{reserve}
use Rattle.pv_disk_model.specs.Log.{Keeps, StaysUp, IsWithin}
use Rattle.pv_disk_model.specs.LogModel.{LogModel}
use Rattle.pv_disk_model.proofs.LogLemmas.{Keeps-Adds, Keeps-MayAdd, StaysUp-GoesDown, StaysUp-trans}
use Rattle.pv_disk_model.specs.Size.{Contents, size_of}
use Rattle.pv_law_quorum.specs.Record.{Record}
use Rattle.pv_quorum.specs.Spelling.{record_bytes}
use Rattle.pv_quorum.specs.Writing.{AppendsBytes, Writes}
use Rattle.pv_quorum.specs.declared.error.QuorumError.{QuorumError}
use Rattle.pv_quorum.specs.declared.error.QuorumError.TheVariants.{Fault, Down, NoMemory}
use Rattle.pv_quorum.specs.declared.writing.Written.{Written}
use Rattle.pv_quorum.specs.declared.writing.Written.TheVariants as written

module _ {W : Type 0} (M : LogModel W) where
  module _ (old mid new : W) (entry : Record) (intact : M.is_intact old) (stays : StaysUp M old mid) (kept : Keeps M old mid) where
    by : IsWithin M old (length (record_bytes entry)) → M.goes old (reserve (length (record_bytes entry))) true mid → (result : Result Written QuorumError) → AppendsBytes M mid new (record_bytes entry) result → Writes M old new entry result
    by within reserved (Ok written.Done) appended = (
      within,
      StaysUp-trans M old mid new stays appended.0,
      Keeps-Adds M old mid new intact stays.was_up kept (record_bytes entry) appended.1,
      inr (mid, reserved, inr (new, appended.2, (refl, refl))),
    )
    by within reserved (Ok (written.Full with_it)) appended = absurd appended
    by within reserved (Err Fault) appended = (
      within,
      StaysUp-GoesDown M old mid new stays appended.0,
      Keeps-MayAdd M old mid new intact stays.was_up kept (record_bytes entry) appended.1,
      inr (mid, reserved, inl (refl, appended.2)),
    )
    by within reserved (Err Down) appended = absurd appended
    by within reserved (Err NoMemory) appended = absurd appended

    -- What an append comes to for which room was made.
    pub written-after : (bytes : List ℕ) → bytes ≡ record_bytes entry → IsWithin M old (length bytes) → M.goes old (reserve (length bytes)) true mid → (result : Result Written QuorumError)
        → AppendsBytes M mid new bytes result → Writes M old new entry result
    written-after bytes is within reserved result appended =
        by (subst (λ b. IsWithin M old (length b)) is within) (subst (λ b. M.goes old (reserve (length b)) true mid) is reserved) result (subst (λ b. AppendsBytes M mid new b result) is appended)

module _ {W : Type 0} (M : LogModel W) (old new : W) (read : Contents) (count length_now : ℕ) (intact : M.is_intact old) (up : M.is_down old ≡ false) (kept : Keeps M old new)
    (same : (held : Contents) → M.contents old ≡ Some held → read ≡ held) (counted : count ≡ min (size_of read) (2 ^ 64 - 1)) (told : length_now ≡ M.size new)
    (differs : count ≡ length_now → ⊥) where
  unknown-by : (known : Option Contents) → M.contents old ≡ known → is_some known ≡ false
  unknown-by None is = refl
  unknown-by (Some held) is =
      let size = M.size_is old held intact up is in
      let read_size = ap size_of (same held is) in
      absurd (differs (omega (arith, counted, told, kept.size, size, read_size, M.is_bounded old intact)))

  -- A log whose length isn't that of what was read isn't known.
  pub unknown-contents : is_some (M.contents old) ≡ false
  unknown-contents = unknown-by (M.contents old) refl
