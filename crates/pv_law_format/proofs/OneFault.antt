-- A layout finds one fault at most.
use Rattle.std.proofs.Common.{◌≡◌, ℕ, ◌+◌, ◌<◌, Bool, List, ◌++◌, length, refl, sym, ap, subst, ◌∙◌, arith}
use Rattle.std.specs.Prelude.{ℤ, IsFalse}
use Rattle.std.proofs.lemmas.Bool.{true≢false}
use Rattle.std.proofs.lemmas.List.{length-append}
use Rattle.pv_base.specs.BigEndian.{IsNumber}
use Rattle.pv_base.specs.Polyvalue.{Case}
use Rattle.pv_base.proofs.BigEndianLemmas.{IsNumber-begins, IsNumber-length}
use Rattle.pv_format.specs.FirstFault.{Fault, HasFaultBy, NumberFault, is_short, is_refused, is_later, EndFault, is_extra, PartFault, is_within, is_after}
use Rattle.pv_format.specs.Form.{Form}
use Rattle.pv_format.specs.Layout.{Layout, anything, nothing_more, number_then, polyvalue_then}
use Rattle.pv_format.specs.Spelling.{IsAllowed}
use Rattle.pv_law_format.proofs.Codes.{IsReadOnce}

-- Of parts with faults of their own, in each form: one at most, and none where the bytes begin with the part's spelling.
pub record IsPart (SpellsPart : Form → List (Case ℤ) → List ℕ → Type 0) (Faults : Form → ℕ → List ℕ → Fault → Type 0) : Type 0 where
  pub read : (form : Form) → IsReadOnce (SpellsPart form)
  pub one : (form : Form) (place : ℕ) (bytes : List ℕ) (fault other : Fault) → Faults form place bytes fault → Faults form place bytes other → fault ≡ other
  pub not_both : (form : Form) (cases : List (Case ℤ)) (front rest : List ℕ) (place : ℕ) (fault : Fault) → SpellsPart form cases front
      → Faults form place (front ++ rest) fault → ⊥

-- A short number isn't whole.
short-whole : (size value : ℕ) (bytes front rest : List ℕ) → length bytes < size → bytes ≡ front ++ rest → IsNumber size value front → ⊥
short-whole size value bytes front rest less whole is =
    omega (arith, less, ap (λ (b : List ℕ). length b) whole, length-append front rest, IsNumber-length size value front is)

module _ (size : ℕ) (allows : ℕ → Bool) (Later : ℕ → ℕ → List ℕ → Fault → Type 0) (place : ℕ) (bytes : List ℕ)
    (later-one : (value : ℕ) (rest : List ℕ) (fault other : Fault) → Later value (place + size) rest fault → Later value (place + size) rest other → fault ≡ other) where
  not-refused : (value other : ℕ) (front rest begin end : List ℕ) → bytes ≡ front ++ rest → IsNumber size value front → IsFalse (allows value)
      → bytes ≡ begin ++ end → IsAllowed size allows other begin → ⊥
  not-refused value other front rest begin end whole is refused whole_too allowed =
      let parts = IsNumber-begins size value other front begin rest end is allowed.spelled (sym whole ∙ whole_too) in
      true≢false (sym allowed.allowed ∙ ap allows (sym parts.0) ∙ refused)

  one-number-fault : (fault other : Fault) → NumberFault size allows Later place bytes fault → NumberFault size allows Later place bytes other → fault ≡ other
  one-number-fault _ _ (is_short less) (is_short less_too) = refl
  one-number-fault _ _ (is_short less) (is_refused value front rest whole is refused) = absurd (short-whole size value bytes front rest less whole is)
  one-number-fault _ _ (is_short less) (is_later value front rest fault whole is wrong) = absurd (short-whole size value bytes front rest less whole is.spelled)
  one-number-fault _ _ (is_refused value front rest whole is refused) (is_short less) = absurd (short-whole size value bytes front rest less whole is)
  one-number-fault _ _ (is_refused value front rest whole is refused) (is_refused other begin end whole_too is_too refused_too) = refl
  one-number-fault _ _ (is_refused value front rest whole is refused) (is_later other begin end fault whole_too is_too wrong) =
      absurd (not-refused value other front rest begin end whole is refused whole_too is_too)
  one-number-fault _ _ (is_later value front rest fault whole is wrong) (is_short less) = absurd (short-whole size value bytes front rest less whole is.spelled)
  one-number-fault _ _ (is_later value front rest fault whole is wrong) (is_refused other begin end whole_too is_too refused) =
      absurd (not-refused other value begin end front rest whole_too is_too refused whole is)
  one-number-fault _ _ (is_later value front rest fault whole is wrong) (is_later other begin end fault_too whole_too is_too wrong_too) =
      let parts = IsNumber-begins size other value begin front end rest is_too.spelled is.spelled (sym whole_too ∙ whole) in
      later-one value rest fault fault_too wrong
      (subst (λ (r : List ℕ). Later value (place + size) r fault_too) parts.1 (subst (λ (n : ℕ). Later n (place + size) end fault_too) parts.0 wrong_too))

one-end-fault : (place : ℕ) (bytes : List ℕ) (fault other : Fault) → EndFault place bytes fault → EndFault place bytes other → fault ≡ other
one-end-fault place bytes _ _ (is_extra more) (is_extra more_too) = refl

module _ {SpellsPart : Form → List (Case ℤ) → List ℕ → Type 0} {Faults : Form → ℕ → List ℕ → Fault → Type 0} (part : IsPart SpellsPart Faults) where
  one-part-fault : (form : Form) (Later : ℕ → List ℕ → Fault → Type 0) (place : ℕ) (bytes : List ℕ)
      → ((there : ℕ) (rest : List ℕ) (fault other : Fault) → Later there rest fault → Later there rest other → fault ≡ other)
      → (fault other : Fault) → PartFault SpellsPart Faults form Later place bytes fault → PartFault SpellsPart Faults form Later place bytes other → fault ≡ other
  one-part-fault form Later place bytes later-one _ _ (is_within fault wrong) (is_within other wrong_too) = part.one form place bytes fault other wrong wrong_too
  one-part-fault form Later place bytes later-one _ _ (is_within fault wrong) (is_after cases front rest other whole is wrong_too) =
      absurd (part.not_both form cases front rest place fault is (subst (λ (b : List ℕ). Faults form place b fault) whole wrong))
  one-part-fault form Later place bytes later-one _ _ (is_after cases front rest fault whole is wrong) (is_within other wrong_too) =
      absurd (part.not_both form cases front rest place other is (subst (λ (b : List ℕ). Faults form place b other) whole wrong_too))
  one-part-fault form Later place bytes later-one _ _ (is_after cases front rest fault whole is wrong) (is_after others begin end other whole_too is_too wrong_too) =
      let parts = part.read form others cases begin front end rest is_too is (sym whole_too ∙ whole) in
      let lengths : length begin ≡ length front = omega (
        arith,
        ap (λ (b : List ℕ). length b) (sym whole_too ∙ whole),
        length-append begin end,
        length-append front rest,
        ap (λ (b : List ℕ). length b) parts.1,
      ) in
      later-one (place + length front) rest fault other wrong
      (subst (λ (r : List ℕ). Later (place + length front) r other) parts.1 (subst (λ (n : ℕ). Later (place + n) end other) lengths wrong_too))

  pub one-fault : (layout : Layout) (place : ℕ) (bytes : List ℕ) (fault other : Fault)
      → HasFaultBy SpellsPart Faults layout place bytes fault → HasFaultBy SpellsPart Faults layout place bytes other → fault ≡ other
  one-fault anything place bytes fault other wrong wrong_too = absurd wrong
  one-fault nothing_more place bytes fault other wrong wrong_too = one-end-fault place bytes fault other wrong wrong_too
  one-fault (number_then size allows next) place bytes fault other wrong wrong_too =
      one-number-fault size allows (λ value. HasFaultBy SpellsPart Faults (next value)) place bytes (λ value. one-fault (next value) (place + size)) fault other wrong wrong_too
  one-fault (polyvalue_then form next) place bytes fault other wrong wrong_too =
      one-part-fault form (HasFaultBy SpellsPart Faults next) place bytes (one-fault next) fault other wrong wrong_too
