-- The tokens of a text, found one after another.
use Rattle.std.proofs.Common.{◌≡◌, ℕ, suc, true, ◌+◌, ◌<◌, ◌≤◌, List, [], ◌∷◌, ◌++◌, length, map, get_or, drop, sym, ap, ◌∙◌, subst, append_assoc, All, arith}
use Rattle.std.proofs.lemmas.List.{append-nil, map-append}
use Rattle.std.proofs.lemmas.List.Elements.{All-push, All-same}
use Rattle.pv_base.specs.Name.{is_blank}
use Rattle.pv_model.specs.Tokens.{Token, AreTokens, at_end, at_blank}
use Rattle.pv_parse.specs.declared.token.Located.{Located}
use Rattle.pv_parse.specs.TokenView.{located_of, HasDigits, StartsWith}

-- whatever tokens the rest has from this column on, those found stand before them
abbrev pub AreBefore : List ℕ → ℕ → List ℕ → List Located → Type 0
AreBefore text column rest found = (tokens : List (ℕ × Token)) → AreTokens column rest tokens → AreTokens 1 text (map located_of found ++ tokens)

blank_first : (column : ℕ) (rest : List ℕ) (tokens : List (ℕ × Token)) → 1 ≤ length rest → is_blank (get_or rest 0 0) ≡ true → AreTokens (column + 1) (drop 1 rest) tokens → AreTokens column rest tokens
blank_first column [] tokens some blank behind = absurd (omega arith)
blank_first column (b ∷ bs) tokens some blank behind =
    at_blank column b bs tokens blank (subst (λ (n : ℕ). AreTokens n bs tokens) (let e : column + 1 ≡ suc column = omega arith in e) behind)

pub before_blank : (text : List ℕ) (column : ℕ) (rest behind : List ℕ) (found : List Located) → 1 ≤ length rest → is_blank (get_or rest 0 0) ≡ true → behind ≡ drop 1 rest →
    AreBefore text column rest found → AreBefore text (column + 1) behind found
before_blank text column rest behind found some blank same before tokens are =
    before tokens (blank_first column rest tokens some blank (subst (λ (bs : List ℕ). AreTokens (column + 1) bs tokens) same are))

pub before_token : (text : List ℕ) (rest behind : List ℕ) (found more : List Located) (located : Located) (size : ℕ) → StartsWith rest (located_of located).1 size →
    behind ≡ drop size rest → more ≡ found ++ located ∷ [] → AreBefore text located.column rest found → AreBefore text (located.column + size) behind more
before_token text rest behind found more located size starts same pushed before tokens are =
    let all : map located_of more ++ tokens ≡ map located_of found ++ located_of located ∷ tokens =
    ap (λ (l : List Located). map located_of l ++ tokens) pushed
    ∙ ap (λ (l : List (ℕ × Token)). l ++ tokens) (map-append located_of found (located ∷ []))
    ∙ append_assoc (map located_of found) (located_of located ∷ []) tokens in
    subst (AreTokens 1 text) (sym all)
    (before (located_of located ∷ tokens) (starts.first located.column tokens (subst (λ (bs : List ℕ). AreTokens (located.column + size) bs tokens) same are)))

pub digits_more : (found more : List Located) (located : Located) → more ≡ found ++ located ∷ [] → All (λ (p : Located). HasDigits p.token) found → HasDigits located.token → All (λ (p : Located). HasDigits p.token) more
digits_more found more located pushed all digits =
    All-same (λ (p : Located). HasDigits p.token) more (found ++ located ∷ []) pushed (All-push (λ (p : Located). HasDigits p.token) found located all digits)

pub all_found : (text : List ℕ) (column : ℕ) (rest : List ℕ) (found : List Located) → length rest < 1 → AreBefore text column rest found → AreTokens 1 text (map located_of found)
all_found text column [] found none before = subst (AreTokens 1 text) (append-nil (map located_of found)) (before [] (at_end column))
all_found text column (b ∷ bs) found none before = absurd (omega arith)
