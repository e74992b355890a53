-- Lists with one element more.
use Rattle.std.proofs.Common.{◌≡◌, ◌⊎◌, inl, inr, ℕ, zero, suc, ◌<◌, ◌+◌, ◌==◌, Bool, true, false, cond, ◌||◌, Option, Some, None, List, [], ◌∷◌, ◌++◌, length, get_or, MatchOption, refl, sym, ap, subst, arith}
use Rattle.std.specs.Prelude.{nat_eq, slice_get}
use Rattle.std.specs.List.{Contains, list_any}
use Rattle.std.specs.Map.{lookup}
use Rattle.std.proofs.lemmas.Bool.{true≢false, false≢true, eqb-true, eqb-false}
use Rattle.std.proofs.lemmas.List.{get_or_default}
use Rattle.std.proofs.lemmas.Option.{none-some}
use Rattle.pv_base.proofs.Basics.{Some_inj}
use Rattle.pv_base.proofs.ContainsLemmas.{Contains-first, Contains-behind}

-- An element of the longer list is one of the list, or the last.
pub slice_get-last : {X : Type 0} (xs : List X) (last : X) (place : ℕ) (x : X) → slice_get (xs ++ last ∷ []) place ≡ Some x
    → (slice_get xs place ≡ Some x) ⊎ ((place ≡ length xs) × (last ≡ x))
slice_get-last [] last zero x is = inr (refl, Some_inj is)
slice_get-last [] last (suc place) x is = absurd (none-some x is)
slice_get-last (first ∷ xs) last zero x is = inl is
slice_get-last (first ∷ xs) last (suc place) x is = by (slice_get-last xs last place x is)
  where
    by : (slice_get xs place ≡ Some x) ⊎ ((place ≡ length xs) × (last ≡ x)) → (slice_get xs place ≡ Some x) ⊎ ((suc place ≡ suc (length xs)) × (last ≡ x))
    by (inl there) = inl there
    by (inr (same, is_last)) = inr (ap suc same, is_last)

-- A pair behind others that doesn't pass isn't found.

cond-apart : {X : Type 0} (b : Bool) (first : X) (rest more : Option X) → more ≡ rest → cond b (Some first) more ≡ cond b (Some first) rest
cond-apart b first rest more same = ap (λ found. cond b (Some first) found) same

pub lookup-apart : {K X : Type 0} (test : K → Bool) (pairs : List (K × X)) (key : K) (x : X) → test key ≡ false → lookup test (pairs ++ (key, x) ∷ []) ≡ lookup test pairs
lookup-apart test [] key x apart = ap (λ (b : Bool). cond b (Some x) None) apart
lookup-apart test (pair ∷ pairs) key x apart = cond-apart (test pair.0) pair.1 (lookup test pairs) (lookup test (pairs ++ (key, x) ∷ [])) (lookup-apart test pairs key x apart)

pub or-first : (a b : Bool) → (a || b) ≡ false → a ≡ false
or-first true b is = absurd (true≢false is)
or-first false b is = refl

pub or-second : (a b : Bool) → (a || b) ≡ false → b ≡ false
or-second true b is = absurd (true≢false is)
or-second false b is = is

-- What holds where there is none.
pub match-none : {X : Type 0} (P : Type 0) (Q : X → Type 0) (found : Option X) → found ≡ None → MatchOption found P Q → P
match-none P Q None is holds = holds
match-none P Q (Some x) is holds = absurd (none-some x (sym is))

-- What is found among numbers is one of them.

any-by : (n x : ℕ) (xs : List ℕ) (b : Bool) → nat_eq n x ≡ b → (b || list_any (nat_eq n) xs) ≡ true → (list_any (nat_eq n) xs ≡ true → Contains xs n) → Contains (x ∷ xs) n
any-by n x xs true same is rest = subst (Contains (x ∷ xs)) (sym (eqb-true n x same)) (Contains-first x xs)
any-by n x xs false apart is rest = Contains-behind x xs n (rest is)

pub any-contains : (n : ℕ) (xs : List ℕ) → list_any (nat_eq n) xs ≡ true → Contains xs n
any-contains n [] is = absurd (false≢true is)
any-contains n (x ∷ xs) is = any-by n x xs (nat_eq n x) refl is (any-contains n xs)

-- What holds of the elements so far and of the next one holds of one more.
pub each-more : {X : Type 0} (P : X → Type 0) (xs : List X) (i : ℕ) (x : X) → i < length xs
    → ((k : ℕ) (d : X) → k < i → P (get_or xs k d)) → P (get_or xs i x) → (k : ℕ) (d : X) → k < i + 1 → P (get_or xs k d)
each-more P xs i x inside before here k d below = by (k == i) refl
  where
    by : (b : Bool) → (k == i) ≡ b → P (get_or xs k d)
    by true same = subst (λ n. P (get_or xs n d)) (sym (eqb-true k i same)) (subst P (get_or_default xs i x d inside) here)
    by false apart = before k d (omega (arith, below, eqb-false k i apart))
