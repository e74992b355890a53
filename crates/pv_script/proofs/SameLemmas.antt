-- Items that are declared alike.
use Rattle.std.proofs.Common.{◌≡◌, ℕ, ℤ, ◌<◌, ◌≤◌, zero, suc, Bool, true, false, not, Decides, List, [], ◌∷◌, length, map, take, slice_get, Some, refl, ap, arith, sym, ◌∙◌}
use Rattle.std.proofs.lemmas.Bool.{false≢true}
use Rattle.pv_base.specs.Catalog.{Item}

-- the item at a place
pub item-at : (xs : List Item) (i : ℕ) → i < length xs → (x : Item) × (slice_get xs i ≡ Some x)
item-at [] i below = absurd (omega (arith, below))
item-at (x ∷ xs) zero below = (x, refl)
item-at (x ∷ xs) (suc i) below = item-at xs i (omega (arith, below))

-- what is said of it
pub part-at : {A : Type 0} (f : Item → A) (xs : List Item) (i : ℕ) (x : Item) (a : A) → slice_get xs i ≡ Some x → slice_get (map f xs) i ≡ Some a → a ≡ f x
part-at f [] i x a is said = cc
part-at f (y ∷ xs) zero x a is said = let same : y ≡ x = cc in let given : f y ≡ a = cc in sym given ∙ ap f same
part-at f (y ∷ xs) (suc i) x a is said = part-at f xs i x a is said

-- Items with the same name, site and value are the same.
pub same-item : (x y : Item) → x.name ≡ y.name → x.site ≡ y.site → x.value ≡ y.value → x ≡ y
same-item x y name site value = λ i. record { name = name i; site = site i; value = value i }

module _ (xs ys : List Item) (i : ℕ) (one : i < length xs) (other : i < length ys) where
  -- Where something is said of one that isn't said of the other, they aren't the same.
  pub differ : {A : Type 0} (f : Item → A) (a b : A) → slice_get (map f xs) i ≡ Some a → slice_get (map f ys) i ≡ Some b → (a ≡ b → ⊥)
      → slice_get xs i ≡ slice_get ys i → ⊥
  differ f a b given said apart same =
      let x = item-at xs i one in
      apart (part-at f xs i x.0 a x.1 given ∙ sym (part-at f ys i x.0 b (sym same ∙ x.1) said))

  -- Where the same is said of both they are the same.
  pub alike : (name name' : List ℕ) (site site' : ℕ) (value value' : ℤ)
      → slice_get (map (λ item. item.name) xs) i ≡ Some name → slice_get (map (λ item. item.name) ys) i ≡ Some name'
      → slice_get (map (λ item. item.site) xs) i ≡ Some site → slice_get (map (λ item. item.site) ys) i ≡ Some site'
      → slice_get (map (λ item. item.value) xs) i ≡ Some value → slice_get (map (λ item. item.value) ys) i ≡ Some value'
      → name ≡ name' → site ≡ site' → value ≡ value' → slice_get xs i ≡ slice_get ys i
  alike name name' site site' value value' n n' s s' v v' names sites values =
      let x = item-at xs i one in
      let y = item-at ys i other in
      x.1
      ∙ ap Some (same-item x.0 y.0
      (sym (part-at (λ (item : Item). item.name) xs i x.0 name x.1 n) ∙ names ∙ part-at (λ (item : Item). item.name) ys i y.0 name' y.1 n')
      (sym (part-at (λ (item : Item). item.site) xs i x.0 site x.1 s) ∙ sites ∙ part-at (λ (item : Item). item.site) ys i y.0 site' y.1 s')
      (sym (part-at (λ (item : Item). item.value) xs i x.0 value x.1 v) ∙ values ∙ part-at (λ (item : Item). item.value) ys i y.0 value' y.1 v'))
      ∙ sym y.1

-- What `!=` says, of a test that decides.
pub ne-true : {P : Type 0} (test answer : Bool) → answer ≡ not test → Decides test P → answer ≡ true → P → ⊥
ne-true true answer is decides said holds = false≢true (sym is ∙ said)
ne-true false answer is decides said holds = false≢true (decides.1 holds)

pub ne-false : {P : Type 0} (test answer : Bool) → answer ≡ not test → Decides test P → answer ≡ false → P
ne-false true answer is decides said = decides.0 refl
ne-false false answer is decides said = absurd (false≢true (sym said ∙ is))

-- one more
pub take-next : (xs ys : List Item) (i : ℕ) → take i xs ≡ take i ys → slice_get xs i ≡ slice_get ys i → take (suc i) xs ≡ take (suc i) ys
take-next [] [] i same next = refl
take-next [] (y ∷ ys) zero same next = cc
take-next [] (y ∷ ys) (suc i) same next = cc
take-next (x ∷ xs) [] zero same next = cc
take-next (x ∷ xs) [] (suc i) same next = cc
take-next (x ∷ xs) (y ∷ ys) zero same next = let first : x ≡ y = cc in ap (λ (z : Item). z ∷ []) first
take-next (x ∷ xs) (y ∷ ys) (suc i) same next =
    let first : x ≡ y = cc in
    let rest : take i xs ≡ take i ys = cc in
    let more = take-next xs ys i rest next in
    λ j. first j ∷ more j

-- all of them
pub take-whole : (xs ys : List Item) (i : ℕ) → length xs ≤ i → length ys ≤ i → take i xs ≡ take i ys → xs ≡ ys
take-whole [] [] i one other same = refl
take-whole [] (y ∷ ys) zero one other same = absurd (omega (arith, other))
take-whole [] (y ∷ ys) (suc i) one other same = cc
take-whole (x ∷ xs) [] zero one other same = absurd (omega (arith, one))
take-whole (x ∷ xs) [] (suc i) one other same = cc
take-whole (x ∷ xs) (y ∷ ys) zero one other same = absurd (omega (arith, one))
take-whole (x ∷ xs) (y ∷ ys) (suc i) one other same =
    let first : x ≡ y = cc in
    let rest : take i xs ≡ take i ys = cc in
    let more = take-whole xs ys i (omega (arith, one)) (omega (arith, other)) rest in
    λ j. first j ∷ more j
