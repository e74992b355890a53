-- Grants in the order of sites, with one more.
use Rattle.std.proofs.Common.{◌≡◌, ℕ, suc, ◌+◌, ◌≤◌, Some, None, rules, Bool, true, false, ◌&&◌, ◌||◌, List, [], ◌∷◌, ◌++◌, length, cond, take, drop, refl, ap, ◌∙◌, arith}
use Rattle.std.specs.Prelude.{◌==◌, nat_lt, not, map, if◌then◌else◌}
use Rattle.std.specs.List.{list_any, list_all, position, position_or_len, zip}
use Rattle.std.specs.Option.{unwrap_or}
use Rattle.std.proofs.lemmas.List.Sums.{prefix_len-le-length}
use Rattle.pv_base.specs.Want.{Want}
use Rattle.pv_model.specs.Alternatives.{Read}
use Rattle.pv_model.specs.Check.{Part}
use Rattle.pv_protocol.specs.Coordinate.{with_taken, are_values_of}
use Rattle.pv_protocol.specs.State.{Taken}

-- The grant is of a later site.
abbrev pub is_later : ℕ → Taken → Bool
is_later site other = nat_lt site other.site

put : (b : Bool) (n : ℕ) (taken first : Taken) (rest : List Taken) → with_taken taken rest ≡ take n rest ++ taken ∷ drop n rest
    → (if b then taken ∷ (first ∷ rest) else first ∷ with_taken taken rest)
    ≡ take (cond (not b) (1 + n) 0) (first ∷ rest) ++ taken ∷ drop (cond (not b) (1 + n) 0) (first ∷ rest)
put true n taken first rest is = refl
put false n taken first rest is =
    let one : suc n ≡ 1 + n = omega arith in
    ap (λ (list : List Taken). first ∷ list) is ∙ ap (λ (m : ℕ). take m (first ∷ rest) ++ taken ∷ drop m (first ∷ rest)) one

-- One more grant goes before the first of a later site.
pub with-place : (taken : Taken) (list : List Taken)
    → with_taken taken list ≡ take (position_or_len (is_later taken.site) list) list ++ taken ∷ drop (position_or_len (is_later taken.site) list) list
with-place taken [] = refl
with-place taken (first ∷ rest) = put (is_later taken.site first) (position_or_len (is_later taken.site) rest) taken first rest (with-place taken rest)

swapped : (a b c : Bool) → (a || (b || c)) ≡ (b || (a || c))
swapped true true c = refl
swapped true false c = refl
swapped false b c = refl

found-by : (b : Bool) (p : Taken → Bool) (taken first : Taken) (rest : List Taken) → list_any p (with_taken taken rest) ≡ (p taken || list_any p rest)
    → list_any p (if b then taken ∷ (first ∷ rest) else first ∷ with_taken taken rest) ≡ (p taken || (p first || list_any p rest))
found-by true p taken first rest is = refl
found-by false p taken first rest is = ap (λ (found : Bool). p first || found) is ∙ swapped (p first) (p taken) (list_any p rest)

-- What is found with one more grant.
pub list_any-with : (p : Taken → Bool) (taken : Taken) (list : List Taken) → list_any p (with_taken taken list) ≡ (p taken || list_any p list)
list_any-with p taken [] = refl
list_any-with p taken (first ∷ rest) = found-by (is_later taken.site first) p taken first rest (list_any-with p taken rest)

longer-by : (b : Bool) (taken first : Taken) (rest : List Taken) → length (with_taken taken rest) ≡ length rest + 1
    → length (if b then taken ∷ (first ∷ rest) else first ∷ with_taken taken rest) ≡ length (first ∷ rest) + 1
longer-by true taken first rest is = omega arith
longer-by false taken first rest is = omega (arith, is)

-- They are one more.
pub length-with : (taken : Taken) (list : List Taken) → length (with_taken taken list) ≡ length list + 1
length-with taken [] = refl
length-with taken (first ∷ rest) = longer-by (is_later taken.site first) taken first rest (length-with taken rest)

-- What is tested of what is mapped.
pub any_mapped : {X Y : Type 0} (p : Y → Bool) (f : X → Y) (xs : List X) → list_any p (map f xs) ≡ list_any (λ x. p (f x)) xs
any_mapped p f [] = refl
any_mapped p f (x ∷ xs) = ap (λ (b : Bool). p (f x) || b) (any_mapped p f xs)

pub list_all-map : {X Y : Type 0} (p : Y → Bool) (f : X → Y) (xs : List X) → list_all p (map f xs) ≡ list_all (λ x. p (f x)) xs
list_all-map p f [] = refl
list_all-map p f (x ∷ xs) = ap (λ (b : Bool). p (f x) && b) (list_all-map p f xs)

-- Tests that agree everywhere agree on all.
pub all_same : {X : Type 0} (p q : X → Bool) (xs : List X) → ((x : X) → p x ≡ q x) → list_all p xs ≡ list_all q xs
all_same p q [] same = refl
all_same p q (x ∷ xs) same = ap (λ (b : Bool). b && list_all p xs) (same x) ∙ ap (λ (b : Bool). q x && b) (all_same p q xs same)

-- Whether every participant has granted, once one more grant is taken.
pub all_granted : (taken : Taken) (list : List Taken) (parts : List Part)
    → list_all (λ site. list_any (λ (t : Taken). t.site == site) (with_taken taken list)) (map (λ (part : Part). part.site) parts)
    ≡ list_all (λ (part : Part). (taken.site == part.site) || list_any (λ (t : Taken). t.site == part.site) list) parts
all_granted taken list parts =
    list_all-map (λ site. list_any (λ (t : Taken). t.site == site) (with_taken taken list)) (λ (part : Part). part.site) parts
    ∙ all_same (λ (part : Part). list_any (λ (t : Taken). t.site == part.site) (with_taken taken list))
    (λ (part : Part). (taken.site == part.site) || list_any (λ (t : Taken). t.site == part.site) list) parts
    (λ part. list_any-with (λ (t : Taken). t.site == part.site) taken list)

pub last-found : (n from : ℕ) (votes : List ℕ) → list_any (λ other. n == other) (votes ++ from ∷ []) ≡ (list_any (λ other. n == other) votes || (n == from))
last-found n from [] = or-false (n == from) where
  or-false : (b : Bool) → (b || false) ≡ b
  or-false true = refl
  or-false false = refl
last-found n from (vote ∷ votes) =
    ap (λ (b : Bool). (n == vote) || b) (last-found n from votes)
    ∙ grouped (n == vote) (list_any (λ other. n == other) votes) (n == from) where
      grouped : (a b c : Bool) → (a || (b || c)) ≡ ((a || b) || c)
      grouped true b c = refl
      grouped false b c = refl

-- Whether every participant has voted, once one more vote is counted.
pub all_voted : (from : ℕ) (votes : List ℕ) (parts : List Part)
    → list_all (λ site. list_any (λ other. site == other) (votes ++ from ∷ [])) (map (λ (part : Part). part.site) parts)
    ≡ list_all (λ (part : Part). list_any (λ other. part.site == other) votes || (part.site == from)) parts
all_voted from votes parts =
    list_all-map (λ site. list_any (λ other. site == other) (votes ++ from ∷ [])) (λ (part : Part). part.site) parts
    ∙ all_same (λ (part : Part). list_any (λ other. part.site == other) (votes ++ from ∷ []))
    (λ (part : Part). list_any (λ other. part.site == other) votes || (part.site == from)) parts
    (λ part. last-found part.site from votes)

-- Lists of one length agree where they agree as far as both go.
pub agree-pointwise : (wants : List Want) (values : List Read) → length wants ≡ length values
    → list_all (λ (pair : Want × Read). pair.1.item == pair.0.item) (zip wants values) ≡ are_values_of wants values
agree-pointwise [] [] same = refl
agree-pointwise [] (value ∷ values) same = absurd (omega (arith, same))
agree-pointwise (want ∷ wants) [] same = absurd (omega (arith, same))
agree-pointwise (want ∷ wants) (value ∷ values) same = ap (λ (b : Bool). (value.item == want.item) && b) (agree-pointwise wants values (omega (arith, same)))

fits-by : (p : Taken → Bool) (list : List Taken) (n : ℕ) → n ≤ length list → (lt : Bool) → nat_lt n (length list) ≡ lt → unwrap_or (cond lt (Some n) None) (length list) ≡ n
fits-by p list n le true is = refl
fits-by p list n le false is = omega (arith, le, not_lt n (length list) is) where
  not_lt : (a b : ℕ) → nat_lt a b ≡ false → b ≤ a
  not_lt a b test = search rules

-- The place of the first of a later site, or the end.
pub unwrapped : (p : Taken → Bool) (list : List Taken) → unwrap_or (position p list) (length list) ≡ position_or_len p list
unwrapped p list = fits-by p list (position_or_len p list) (prefix_len-le-length (λ x. not (p x)) list) (nat_lt (position_or_len p list) (length list)) refl
