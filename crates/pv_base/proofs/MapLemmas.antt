-- Lists that are mapped: what they contain, and where two functions give one list.
use Rattle.std.proofs.Common.{◌≡◌, ⊎_elim, ℕ, zero, suc, Some, List, [], ◌∷◌, length, replicate, refl, ap, subst, ◌∙◌, arith}
use Rattle.std.specs.Prelude.{map}
use Rattle.std.specs.List.{Contains}
use Rattle.pv_base.proofs.Basics.{Some_inj, heads, tails}
use Rattle.pv_base.proofs.ContainsLemmas.{Contains-first, Contains-behind, Contains-nil, Contains-cases}

pub Contains-map : {X Y : Type 0} (f : X → Y) (xs : List X) (x : X) → Contains xs x → Contains (map f xs) (f x)
Contains-map f [] x h = absurd (Contains-nil x h)
Contains-map f (y ∷ ys) x h =
    ⊎_elim
    (λ same. subst (λ z. Contains (f y ∷ map f ys) (f z)) same (Contains-first (f y) (map f ys)))
    (λ behind. Contains-behind (f y) (map f ys) (f x) (Contains-map f ys x behind))
    (Contains-cases y ys x h)

-- Each element of a mapped list is the value of some element.
pub Contains-unmap : {X Y : Type 0} (f : X → Y) (xs : List X) (y : Y) → Contains (map f xs) y → (x : X) × (Contains xs x × (f x ≡ y))
Contains-unmap f [] y h = absurd (Contains-nil y h)
Contains-unmap f (x ∷ xs) y h =
    ⊎_elim
    (λ same. (x, (Contains-first x xs, same)))
    (λ behind. let found = Contains-unmap f xs y behind in (found.0, (Contains-behind x xs found.0 found.1.0, found.1.1)))
    (Contains-cases (f x) (map f xs) y h)

-- Functions that give the same at each element give the same list.
pub map-same : {X Y : Type 0} (f g : X → Y) (xs : List X) → ((x : X) → Contains xs x → f x ≡ g x) → map f xs ≡ map g xs
map-same f g [] same = refl
map-same f g (x ∷ xs) same =
    ap (λ y. y ∷ map f xs) (same x (Contains-first x xs))
    ∙ ap (λ ys. g x ∷ ys) (map-same f g xs (λ y h. same y (Contains-behind x xs y h)))

-- Functions with the same values in a list have the same value at each of its elements.
pub same-mapped : {X Y : Type 0} (f g : X → Y) (xs : List X) → map f xs ≡ map g xs → (x : X) → Contains xs x → f x ≡ g x
same-mapped f g [] same x h = absurd (Contains-nil x h)
same-mapped f g (y ∷ ys) same x h =
    ⊎_elim
    (λ first. subst (λ z. f z ≡ g z) first (heads same))
    (λ behind. same-mapped f g ys (tails same) x behind)
    (Contains-cases y ys x h)

pub map-map : {X Y Z : Type 0} (f : Y → Z) (g : X → Y) (xs : List X) → map f (map g xs) ≡ map (λ x. f (g x)) xs
map-map f g [] = refl
map-map f g (x ∷ xs) = ap (λ zs. f (g x) ∷ zs) (map-map f g xs)

pub map-constant : {X Y : Type 0} (y : Y) (xs : List X) (count : ℕ) → length xs ≡ count → map (λ x. y) xs ≡ replicate count y
map-constant y [] zero long = refl
map-constant y [] (suc n) long = absurd (omega (arith, long))
map-constant y (x ∷ xs) zero long = absurd (omega (arith, long))
map-constant y (x ∷ xs) (suc n) long = ap (λ ys. y ∷ ys) (map-constant y xs n (omega (arith, long)))

pub map-replicate : {X Y : Type 0} (f : X → Y) (x : X) (count : ℕ) → map f (replicate count x) ≡ replicate count (f x)
map-replicate f x zero = refl
map-replicate f x (suc n) = ap (λ ys. f x ∷ ys) (map-replicate f x n)

-- Lists whose elements are the same under `Some` are the same.
pub Somes-same : {X : Type 0} (xs ys : List X) → map Some xs ≡ map Some ys → xs ≡ ys
Somes-same [] [] same = refl
Somes-same [] (y ∷ ys) same = absurd (omega (arith, ap length same))
Somes-same (x ∷ xs) [] same = absurd (omega (arith, ap length same))
Somes-same (x ∷ xs) (y ∷ ys) same = ap (λ z. z ∷ xs) (Some_inj (heads same)) ∙ ap (λ zs. y ∷ zs) (Somes-same xs ys (tails same))
