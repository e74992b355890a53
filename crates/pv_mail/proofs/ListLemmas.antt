-- Lists that are gone through from the front, and tests that agree.
use Rattle.std.proofs.Common.{◌≡◌, ℕ, zero, suc, ◌<◌, ◌==◌, Bool, true, false, List, [], ◌∷◌, ◌++◌, length, map, take, drop, refl, sym, ap, eq-eqb, eqb-true, arith}

pub drop-next : {A : Type 0} (xs : List A) (n : ℕ) (x : A) (ys : List A) → drop n xs ≡ x ∷ ys → drop (suc n) xs ≡ ys
drop-next [] zero x ys is = absurd cc
drop-next [] (suc n) x ys is = absurd cc
drop-next (first ∷ xs) zero x ys is = ap (drop 1) is
drop-next (first ∷ xs) (suc n) x ys is = drop-next xs n x ys is

pub take-next : {A B : Type 0} (f : A → B) (xs : List A) (n : ℕ) (x : A) (ys : List A) → drop n xs ≡ x ∷ ys → take (suc n) (map f xs) ≡ take n (map f xs) ++ f x ∷ []
take-next f [] zero x ys is = absurd cc
take-next f [] (suc n) x ys is = absurd cc
take-next f (first ∷ xs) zero x ys is = ap (λ (all : List _). take 1 (map f all)) is
take-next f (first ∷ xs) (suc n) x ys is = ap (λ (all : List _). f first ∷ all) (take-next f xs n x ys is)

pub drop-within : {A : Type 0} (xs : List A) (n : ℕ) (x : A) (ys : List A) → drop n xs ≡ x ∷ ys → n < length xs
drop-within [] zero x ys is = absurd cc
drop-within [] (suc n) x ys is = absurd cc
drop-within (first ∷ xs) zero x ys is = omega arith
drop-within (first ∷ xs) (suc n) x ys is = let rest = drop-within xs n x ys is in omega arith

never : (test : Bool) → test ≡ true → test ≡ false → ⊥
never true is isnt = absurd cc
never false is isnt = absurd cc

-- An equation as a test, either way round.
turned-at : (a b : ℕ) (test other : Bool) → (a == b) ≡ test → (b == a) ≡ other → test ≡ other
turned-at a b true true is same = refl
turned-at a b false false is same = refl
turned-at a b true false is same = absurd (never (b == a) (eq-eqb b a (sym (eqb-true a b is))) same)
turned-at a b false true is same = absurd (never (a == b) (eq-eqb a b (sym (eqb-true b a same))) is)

pub turned : (a b : ℕ) → (a == b) ≡ (b == a)
turned a b = turned-at a b (a == b) (b == a) refl refl
