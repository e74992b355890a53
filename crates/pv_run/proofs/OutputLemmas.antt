-- What is written so far is a beginning of all that is to be written.
use Rattle.std.proofs.Common.{◌≡◌, ℕ, ◌+◌, List, [], ◌∷◌, ◌++◌, length, take, Option, Result, Ok, Err, OnErr, refl, sym, ◌∙◌, subst, inl, inr, arith}
use Rattle.std.specs.Io.KnownBytes.{Appends}
use Rattle.std.proofs.KnownBytes.{Appends-nil, Appends-trans}
use Rattle.std.proofs.lemmas.Bool.{cases_lt}
use Rattle.std.proofs.lemmas.List.{take-append-le, take_all}
use Rattle.std.proofs.Math.Seq.{take-append-add, take-append_seam}
use Rattle.pv_io.specs.Stream.{AppendsPrefix}

pub AppendsPrefix-none : (a : Option (List ℕ)) (xs : List ℕ) → AppendsPrefix a a xs
AppendsPrefix-none a xs = (0, Appends-nil a)

-- a beginning of a beginning
pub AppendsPrefix-front : (a b : Option (List ℕ)) (xs ys : List ℕ) → AppendsPrefix a b xs → AppendsPrefix a b (xs ++ ys)
AppendsPrefix-front a b xs ys p = elim (cases_lt p.0 (length xs)) [
  | inl within ↦ (p.0, subst (Appends a b) (sym (take-append-le p.0 xs ys (omega arith))) p.1)
  | inr beyond ↦ (length xs, subst (Appends a b) (take_all p.0 xs beyond ∙ sym (take-append_seam xs ys)) p.1)
]

-- all of a beginning
pub AppendsPrefix-whole : (a b : Option (List ℕ)) (xs ys : List ℕ) → Appends a b xs → AppendsPrefix a b (xs ++ ys)
AppendsPrefix-whole a b xs ys p = (length xs, subst (Appends a b) (sym (take-append_seam xs ys)) p)

-- and then a beginning of the rest
pub AppendsPrefix-after : (a b c : Option (List ℕ)) (xs ys : List ℕ) → Appends a b xs → AppendsPrefix b c ys → AppendsPrefix a c (xs ++ ys)
AppendsPrefix-after a b c xs ys p q =
    (length xs + q.0, subst (Appends a c) (sym (take-append-add xs ys q.0)) (Appends-trans a b c xs (take q.0 ys) p q.1))

-- what holds at any rate holds at an error
pub on_any_err : {T E : Type 0} (r : Result T E) (P : Type 0) → P → OnErr r P
on_any_err (Ok x) P p = tt
on_any_err (Err e) P p = p

-- nothing in two pieces
pub both-empty : (xs ys : List ℕ) → xs ++ ys ≡ [] → (xs ≡ []) × (ys ≡ [])
both-empty [] ys is = (refl, is)
both-empty (x ∷ xs) ys is = absurd (let wrong : ⊥ = cc in wrong)
