-- A text has one list of tokens.
use Rattle.std.proofs.Common.{◌≡◌, ℕ, ◌+◌, Bool, true, false, ◌||◌, Some, None, List, [], ◌∷◌, ◌++◌, length, refl, sym, ap, ◌∙◌, subst, ⊎_elim, inl, inr, arith}
use Rattle.std.specs.Prelude.{IsTrue, not, ◌==◌, cond, nat_le, ◌⊎◌}
use Rattle.std.proofs.Math.Bool.{and-false}
use Rattle.std.proofs.lemmas.Bool.{eqb-true}
use Rattle.std.proofs.lemmas.Option.{none-some}
use Rattle.pv_base.specs.declared.limits.TheConstants.{MAX_NAME}
use Rattle.pv_base.specs.Name.{is_blank, is_spelled_as_name}
use Rattle.pv_model.specs.Tokens.{Token, stray, words_and_symbols, is_digits, token_of, BeginsWithToken, AreTokens, at_end, at_blank, at_token, at_stray}
use Rattle.pv_base.proofs.Basics.{never, Some_inj}

pub empty_is_no_token : token_of [] ≡ None
unfolding token_of words_and_symbols is_spelled_as_name is_digits
empty_is_no_token = refl

space_is_no_token : (bs : List ℕ) → token_of (32 ∷ bs) ≡ None
unfolding token_of words_and_symbols is_spelled_as_name is_digits
space_is_no_token bs = ap (λ (b : Bool). cond b (Some (Token.name (32 ∷ bs))) None) (and-false (nat_le (length (32 ∷ bs)) MAX_NAME))

tab_is_no_token : (bs : List ℕ) → token_of (9 ∷ bs) ≡ None
unfolding token_of words_and_symbols is_spelled_as_name is_digits
tab_is_no_token bs = ap (λ (b : Bool). cond b (Some (Token.name (9 ∷ bs))) None) (and-false (nat_le (length (9 ∷ bs)) MAX_NAME))

blank_cases : (b : ℕ) → IsTrue (is_blank b) → (b ≡ 32) ⊎ (b ≡ 9)
blank_cases b h = go (b == 32) refl
  where
    go : (x : Bool) → (b == 32) ≡ x → (b ≡ 32) ⊎ (b ≡ 9)
    go true e = inl (eqb-true b 32 e)
    go false e = inr (eqb-true b 9 (ap (λ (x : Bool). x || (b == 9)) (sym e) ∙ h))

blank_is_no_token : (b : ℕ) (bs : List ℕ) → IsTrue (is_blank b) → token_of (b ∷ bs) ≡ None
blank_is_no_token b bs h = ⊎_elim
    (λ e. subst (λ (x : ℕ). token_of (x ∷ bs) ≡ None) (sym e) (space_is_no_token bs))
    (λ e. subst (λ (x : ℕ). token_of (x ∷ bs) ≡ None) (sym e) (tab_is_no_token bs))
    (blank_cases b h)

no_token_of_nothing : {front behind : List ℕ} {t : Token} → BeginsWithToken [] front t behind → ⊥
no_token_of_nothing {front = []} {behind} {t} p = none-some t (sym empty_is_no_token ∙ p.is)
no_token_of_nothing {front = b ∷ front} {behind} {t} p = let e = p.split in cc

no_token_at_blank : {b : ℕ} {bs front behind : List ℕ} {t : Token} → IsTrue (is_blank b) → BeginsWithToken (b ∷ bs) front t behind → ⊥
no_token_at_blank {b} {bs} {front = []} {behind} {t} h p = none-some t (sym empty_is_no_token ∙ p.is)
no_token_at_blank {b} {bs} {front = c ∷ front} {behind} {t} h p =
    let e = p.split in
    let same : b ≡ c = cc in
    none-some t (sym (blank_is_no_token c front (subst (λ (x : ℕ). IsTrue (is_blank x)) same h)) ∙ p.is)

-- fronts of one length are one
same_front : {A : Type 0} (xs ys us vs : List A) → xs ++ us ≡ ys ++ vs → length xs ≡ length ys → (xs ≡ ys) × (us ≡ vs)
same_front [] [] us vs e l = (refl, e)
same_front [] (y ∷ ys) us vs e l = absurd (omega (arith, l))
same_front (x ∷ xs) [] us vs e l = absurd (omega (arith, l))
same_front (x ∷ xs) (y ∷ ys) us vs e l =
    let head : x ≡ y = cc in
    let tail : xs ++ us ≡ ys ++ vs = cc in
    let more = same_front xs ys us vs tail (omega (arith, l)) in
    ((λ i. head i ∷ more.0 i), more.1)

one_token : {bytes f g x y : List ℕ} {t u : Token} → BeginsWithToken bytes f t x → BeginsWithToken bytes g u y → (f ≡ g) × (x ≡ y) × (t ≡ u)
one_token {bytes} {f} {g} {x} {y} {t} {u} p q =
    let long = p.longest g y u q.split q.is in
    let other = q.longest f x t p.split p.is in
    let same = same_front f g x y (sym p.split ∙ q.split) (omega (arith, long, other)) in
    (same.0, same.1, Some_inj (sym p.is ∙ ap token_of same.0 ∙ q.is))

not_both : (b : Bool) → b ≡ true → not b ≡ true → ⊥
not_both true h k = never k
not_both false h k = never h

pub one_token_list : {column : ℕ} {bytes : List ℕ} {ts us : List (ℕ × Token)} → AreTokens column bytes ts → AreTokens column bytes us → ts ≡ us
one_token_list (at_end c) (at_end c2) = refl
one_token_list (at_end c) (at_token c2 bytes2 front2 t2 behind2 ts2 p2 q2) = absurd (no_token_of_nothing p2)
one_token_list (at_blank c b bytes ts h q) (at_blank c2 b2 bytes2 ts2 h2 q2) = one_token_list q q2
one_token_list (at_blank c b bytes ts h q) (at_token c2 bytes2 front2 t2 behind2 ts2 p2 q2) = absurd (no_token_at_blank h p2)
one_token_list (at_blank c b bytes ts h q) (at_stray c2 b2 bytes2 ts2 h2 n2 q2) = absurd (not_both (is_blank b) h h2)
one_token_list (at_token c bytes front t behind ts p q) (at_end c2) = absurd (no_token_of_nothing p)
one_token_list (at_token c bytes front t behind ts p q) (at_blank c2 b2 bytes2 ts2 h2 q2) = absurd (no_token_at_blank h2 p)
one_token_list (at_token c bytes front t behind ts p q) (at_token c2 bytes2 front2 t2 behind2 ts2 p2 q2) =
    let same = one_token p p2 in
    let column : c + length front2 ≡ c + length front = ap (λ (f : List ℕ). c + length f) (sym same.0) in
    let moved : AreTokens (c + length front) behind ts2 =
    subst (λ (n : ℕ). AreTokens n behind ts2) column (subst (λ (bs : List ℕ). AreTokens (c + length front2) bs ts2) (sym same.1) q2) in
    let more = one_token_list q moved in
    λ i. (c, same.2 i) ∷ more i
one_token_list (at_token c bytes front t behind ts p q) (at_stray c2 b2 bytes2 ts2 h2 n2 q2) = absurd (none-some t (sym (n2 front behind p.split) ∙ p.is))
one_token_list (at_stray c b bytes ts h n q) (at_blank c2 b2 bytes2 ts2 h2 q2) = absurd (not_both (is_blank b) h2 h)
one_token_list (at_stray c b bytes ts h n q) (at_token c2 bytes2 front2 t2 behind2 ts2 p2 q2) = absurd (none-some t2 (sym (n front2 behind2 p2.split) ∙ p2.is))
one_token_list (at_stray c b bytes ts h n q) (at_stray c2 b2 bytes2 ts2 h2 n2 q2) =
    let more = one_token_list q q2 in
    ap (λ (l : List (ℕ × Token)). (c, stray b) ∷ l) more
