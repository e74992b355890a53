-- The first element at which a list is not what it has to be, as a token of a program.
use Rattle.std.specs.Prelude.{◌≡◌, ℕ, List, [], ◌∷◌, ◌++◌, map, ◌⊎◌}

-- numbered elements, without their numbers
abbrev pub without_numbers : {A : Type 0} → List (ℕ × A) → List A
without_numbers numbered = map (λ x. x.1) numbered

-- With some elements after them, these are what they have to be.
abbrev pub MayBegin : {A : Type 0} → (List A → Type 0) → List A → Type 0
MayBegin {A} AreWhole front = (rest : List A) × AreWhole (front ++ rest)

-- The elements before the one of this number may begin whole ones. With it they may not.
pub record IsMisplaced {A : Type 0} (AreWhole : List A → Type 0) (numbered : List (ℕ × A)) (number : ℕ) : Type 0 where
  pub front : List (ℕ × A)
  pub line : A
  pub rest : List (ℕ × A)
  pub split : numbered ≡ front ++ (number, line) ∷ rest
  pub good : MayBegin AreWhole (without_numbers front)
  pub bad : MayBegin AreWhole (without_numbers front ++ line ∷ []) → ⊥

-- All the elements may begin whole ones but aren't whole. The fault is at the place after the last one.
pub record AreCutShort {A : Type 0} (AreWhole : List A → Type 0) (numbered : List (ℕ × A)) (after number : ℕ) : Type 0 where
  pub place : number ≡ after
  pub good : MayBegin AreWhole (without_numbers numbered)
  pub bad : AreWhole (without_numbers numbered) → ⊥

-- Elements are first at fault at this number; `after` is the number after the last one.
abbrev pub IsFirstFault : {A : Type 0} → (List A → Type 0) → List (ℕ × A) → ℕ → ℕ → Type 0
IsFirstFault AreWhole numbered after number = IsMisplaced AreWhole numbered number ⊎ AreCutShort AreWhole numbered after number
