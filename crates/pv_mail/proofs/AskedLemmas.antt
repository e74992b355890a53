-- Who asked for a transaction, by its place among what is begun.
use Rattle.std.proofs.Common.{◌≡◌, ℕ, suc, ◌+◌, ◌<◌, ◌≤◌, Bool, true, false, not, cond, Option, None, Some, List, [], ◌∷◌, length, get_or, refl, ap, ◌∙◌, if◌then◌else◌, arith}
use Rattle.std.specs.List.{position_or_len, remove}
use Rattle.pv_base.specs.Assignment.{is_same_txn}
use Rattle.pv_base.specs.declared.txn.TxnId.{TxnId}
use Rattle.pv_mail.specs.Answers.{asker_in, without}
use Rattle.pv_mail.specs.declared.asked.Asker.{Asker}
use Rattle.pv_mail.specs.declared.asked.Begun.{Begun}

module _ (txn : TxnId) where
  abbrev pub is_of : Begun → Bool
  is_of begun = is_same_txn begun.txn txn

  none-case : (test : Bool) (asker : Asker) (rest : Option Asker) (place count : ℕ) → suc count ≤ cond (not test) (1 + place) 0 → (count ≤ place → rest ≡ None)
      → (if test then Some asker else rest) ≡ None
  none-case true asker rest place count past none = absurd (omega arith)
  none-case false asker rest place count past none = none (omega arith)

  pub asker-none : (begun : List Begun) → length begun ≤ position_or_len is_of begun → asker_in begun txn ≡ None
  asker-none [] past = refl
  asker-none (first ∷ rest) past =
      none-case (is_of first) first.asker (asker_in rest txn) (position_or_len is_of rest) (length rest) past (asker-none rest)

  same-case : (test : Bool) (first : Begun) (rest left : List Begun) (place count : ℕ) → suc count ≤ cond (not test) (1 + place) 0
      → (count ≤ place → left ≡ rest) → (if test then rest else first ∷ left) ≡ first ∷ rest
  same-case true first rest left place count past same = absurd (omega arith)
  same-case false first rest left place count past same = ap (λ (all : List Begun). first ∷ all) (same (omega arith))

  pub without-none : (begun : List Begun) → length begun ≤ position_or_len is_of begun → without begun txn ≡ begun
  without-none [] past = refl
  without-none (first ∷ rest) past =
      same-case (is_of first) first rest (without rest txn) (position_or_len is_of rest) (length rest) past (without-none rest)

  at-case : (test : Bool) (first d : Begun) (rest : List Begun) (found : Option Asker) (place : ℕ) → cond (not test) (1 + place) 0 < suc (length rest)
      → (place < length rest → found ≡ Some (get_or rest place d).asker)
      → (if test then Some first.asker else found) ≡ Some (get_or (first ∷ rest) (cond (not test) (1 + place) 0) d).asker
  at-case true first d rest found place within is = refl
  at-case false first d rest found place within is =
      let next : suc place ≡ 1 + place = omega arith in is (omega arith) ∙ ap (λ (n : ℕ). Some (get_or (first ∷ rest) n d).asker) next

  pub asker-at : (begun : List Begun) (d : Begun) → position_or_len is_of begun < length begun
      → asker_in begun txn ≡ Some (get_or begun (position_or_len is_of begun) d).asker
  asker-at [] d within = absurd (omega arith)
  asker-at (first ∷ rest) d within =
      at-case (is_of first) first d rest (asker_in rest txn) (position_or_len is_of rest) within (asker-at rest d)

  rest-case : (test : Bool) (first : Begun) (rest left : List Begun) (place : ℕ) → cond (not test) (1 + place) 0 < suc (length rest)
      → (place < length rest → left ≡ remove rest place) → (if test then rest else first ∷ left) ≡ remove (first ∷ rest) (cond (not test) (1 + place) 0)
  rest-case true first rest left place within is = refl
  rest-case false first rest left place within is =
      let next : suc place ≡ 1 + place = omega arith in
      ap (λ (all : List Begun). first ∷ all) (is (omega arith)) ∙ ap (λ (n : ℕ). remove (first ∷ rest) n) next

  pub without-at : (begun : List Begun) → position_or_len is_of begun < length begun → without begun txn ≡ remove begun (position_or_len is_of begun)
  without-at [] within = absurd (omega arith)
  without-at (first ∷ rest) within =
      rest-case (is_of first) first rest (without rest txn) (position_or_len is_of rest) within (without-at rest)
