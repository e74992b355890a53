-- What equations of truth values, options and lists say of their parts.
use Rattle.std.proofs.Common.{◌≡◌, Bool, true, false, ◌&&◌, Some, List, ◌∷◌}
use Rattle.std.proofs.lemmas.Bool.{and_parts}

pub never : false ≡ true → ⊥
never e = cc

pub Some_inj : {A : Type 0} {a b : A} → Some a ≡ Some b → a ≡ b
Some_inj e = cc

pub heads : {A : Type 0} {x y : A} {xs ys : List A} → x ∷ xs ≡ y ∷ ys → x ≡ y
heads e = cc

pub tails : {A : Type 0} {x y : A} {xs ys : List A} → x ∷ xs ≡ y ∷ ys → xs ≡ ys
tails e = cc

-- both of two tests that pass
pub and-left : (a b : Bool) → (a && b) ≡ true → a ≡ true
and-left a b e = (and_parts a b e).0

pub and-right : (a b : Bool) → (a && b) ≡ true → b ≡ true
and-right a b e = (and_parts a b e).1
