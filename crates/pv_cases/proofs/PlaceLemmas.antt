-- Where an assignment of some transactions stands among all of them.
use Rattle.std.proofs.Common.{◌≡◌, ℕ, zero, suc, ◌+◌, ◌-◌, ◌*◌, ◌^◌, ◌%◌, ◌<◌, ◌≤◌, List, [], ◌∷◌, ◌++◌, Some, map, length, refl, ap, subst, ◌∙◌, arith}
use Rattle.std.specs.Prelude.{slice_get}
use Rattle.std.specs.Option.{option_map}
use Rattle.std.proofs.Math.Nat.{two-pow-succ}
use Rattle.std.proofs.lemmas.Nat.{one_shl}
use Rattle.std.proofs.lemmas.Option.{slice_get-map}
use Rattle.pv_base.specs.declared.txn.TxnId.{TxnId}
use Rattle.pv_base.specs.Assignment.{assignments}
use Rattle.pv_law_polyvalues.proofs.TableLemmas.{length-assignments}

in-front : {X : Type 0} (xs ys : List X) (at : ℕ) → at < length xs → slice_get (xs ++ ys) at ≡ slice_get xs at
in-front [] ys at within = absurd (omega (arith, within))
in-front (x ∷ xs) ys zero within = refl
in-front (x ∷ xs) ys (suc at) within = in-front xs ys at (omega (arith, within))

in-back : {X : Type 0} (xs ys : List X) (at place : ℕ) → at ≡ length xs + place → slice_get (xs ++ ys) at ≡ slice_get ys place
in-back [] ys at place is = ap (slice_get ys) (omega (arith, is))
in-back (x ∷ xs) ys zero place is = absurd (omega (arith, is))
in-back (x ∷ xs) ys (suc at) place is = in-back xs ys at place (omega (arith, is))

pub half-is : (txns : List TxnId) → length txns < 32 → 1 * 2 ^ length txns % 18446744073709551616 ≡ 2 ^ length txns
half-is txns few = one_shl (length txns) 64 (omega (arith, few))

-- The front half of the places doesn't commit the first transaction.
pub front-half : (left : List TxnId) (txn : TxnId) (rest : List TxnId) (at : ℕ) (found : List TxnId) → left ≡ txn ∷ rest → at < 2 ^ length rest
    → slice_get (assignments rest) at ≡ Some found → slice_get (assignments left) at ≡ Some found
front-half left txn rest at found is within here =
    ap (λ (txns : List TxnId). slice_get (assignments txns) at) is
    ∙ in-front (assignments rest) (map (λ assignment. txn ∷ assignment) (assignments rest)) at (omega (arith, within, length-assignments rest))
    ∙ here

-- The back half does.
pub back-half : (left : List TxnId) (txn : TxnId) (rest : List TxnId) (at : ℕ) (found : List TxnId) → left ≡ txn ∷ rest → 2 ^ length rest ≤ at
    → slice_get (assignments rest) (at - 2 ^ length rest) ≡ Some found → slice_get (assignments left) at ≡ Some (txn ∷ found)
back-half left txn rest at found is within here =
    ap (λ (txns : List TxnId). slice_get (assignments txns) at) is
    ∙ in-back (assignments rest) (map (λ assignment. txn ∷ assignment) (assignments rest)) at (at - 2 ^ length rest) (omega (arith, within, length-assignments rest))
    ∙ slice_get-map (λ assignment. txn ∷ assignment) (assignments rest) (at - 2 ^ length rest)
    ∙ ap (option_map (λ assignment. txn ∷ assignment)) here

-- The places left are halved.
pub halved : (left : List TxnId) (txn : TxnId) (rest : List TxnId) (at : ℕ) → left ≡ txn ∷ rest → at < 2 ^ length left → at - 2 ^ length rest < 2 ^ length rest
halved left txn rest at is there =
    omega (arith, subst (λ (txns : List TxnId). at < 2 ^ length txns) is there, two-pow-succ (length rest))

pub none-left : (left : List TxnId) (at : ℕ) → length left ≡ 0 → at < 2 ^ length left → slice_get (assignments left) at ≡ Some []
none-left [] zero none there = refl
none-left [] (suc at) none there = absurd (omega (arith, there))
none-left (txn ∷ left) at none there = absurd (omega (arith, none))
