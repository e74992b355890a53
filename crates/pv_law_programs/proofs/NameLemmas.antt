-- An accepted name is one token: it is none of the words and symbols that stand for themselves.
use Rattle.std.proofs.Common.{◌≡◌, ℕ, ◌+◌, Bool, true, false, not, ◌&&◌, ◌||◌, Option, Some, None, List, [], ◌∷◌, ◌++◌, length, map, take, drop, cond, find, get_or, refl, sym, ap, ◌∙◌, subst, arith, length-append}
use Rattle.std.specs.Prelude.{nat_le, ◌↔◌}
use Rattle.std.specs.List.{list_all, list_any}
use Rattle.std.specs.Option.{option_map_or}
use Rattle.std.specs.Str.{bytes_eq}
use Rattle.std.proofs.lemmas.Option.{none-some}
use Rattle.std.proofs.lemmas.Bool.{and_parts, and_from, both_ways, not-true}
use Rattle.std.proofs.lemmas.List.{append-nil}
use Rattle.std.proofs.lemmas.Slice.Eq.{bytes_eq-Decides}
use Rattle.pv_base.specs.declared.limits.TheConstants.{MAX_NAME}
use Rattle.pv_base.specs.Name.{is_lower, continues_name, is_spelled_as_name, is_keyword, is_name}
use Rattle.pv_model.specs.Tokens.{Token, name, words_and_symbols, is_name_word, is_digits, name_or_number, token_of, at_end, at_token, HasTokens}
use Rattle.pv_model.specs.Text.{number_of_digits}
use Rattle.pv_law_programs.proofs.TokenLemmas.{one_token_list}

-- What holds of each text in a table holds of bytes that are found there.
pub found_all : (Q : List ℕ → Bool) (bytes : List ℕ) (table : List (List ℕ × Token)) (entry : List ℕ × Token) →
    list_all (λ e. Q e.0) table ≡ true → find (λ e. bytes_eq bytes e.0) table ≡ Some entry → Q bytes ≡ true
found_all Q bytes [] entry all found = absurd (none-some entry found)
found_all Q bytes (e ∷ table) entry all found = go (bytes_eq bytes e.0) refl (λ is. found_all Q bytes table entry ((and_parts (Q e.0) (list_all (λ f. Q f.0) table) all).1) is) found
  where
    go : (b : Bool) → bytes_eq bytes e.0 ≡ b → (find (λ f. bytes_eq bytes f.0) table ≡ Some entry → Q bytes ≡ true) → cond b (Some e) (find (λ f. bytes_eq bytes f.0) table) ≡ Some entry → Q bytes ≡ true
    go true same rest is = ap Q ((bytes_eq-Decides bytes e.0).0 same) ∙ (and_parts (Q e.0) (list_all (λ f. Q f.0) table) all).0
    go false other rest is = rest is

-- Bytes that are none of the first texts of a table are found among the others, if at all.
find-more : (bytes : List ℕ) (front more : List (List ℕ × Token)) → list_any (bytes_eq bytes) (map (λ (e : List ℕ × Token). e.0) front) ≡ false
    → find (λ e. bytes_eq bytes e.0) (front ++ more) ≡ find (λ e. bytes_eq bytes e.0) more
find-more bytes [] more none = refl
find-more bytes (x ∷ front) more none = go (bytes_eq bytes x.0) refl (find-more bytes front more) none
  where
    go : (b : Bool) → bytes_eq bytes x.0 ≡ b
        → (list_any (bytes_eq bytes) (map (λ (e : List ℕ × Token). e.0) front) ≡ false → find (λ e. bytes_eq bytes e.0) (front ++ more) ≡ find (λ e. bytes_eq bytes e.0) more)
        → (b || list_any (bytes_eq bytes) (map (λ (e : List ℕ × Token). e.0) front)) ≡ false
        → cond (bytes_eq bytes x.0) (Some x) (find (λ e. bytes_eq bytes e.0) (front ++ more)) ≡ find (λ e. bytes_eq bytes e.0) more
    go true same later found = absurd (both_ways true found refl)
    go false other later left = ap (λ (c : Bool). cond c (Some x) (find (λ (e : List ℕ × Token). bytes_eq bytes e.0) (front ++ more))) other ∙ later left

-- whether a text doesn't begin with a lower-case letter
abbrev is_sign : List ℕ → Bool
is_sign text = not (is_lower (get_or text 0 0))

-- A text that begins with a lower-case letter is no symbol.
find-signs : (b : ℕ) (bs : List ℕ) (table : List (List ℕ × Token)) → is_lower b ≡ true → list_all (λ e. is_sign e.0) table ≡ true
    → find (λ e. bytes_eq (b ∷ bs) e.0) table ≡ None
find-signs b bs table lower signs = go (find (λ e. bytes_eq (b ∷ bs) e.0) table) refl
  where
    go : (found : Option (List ℕ × Token)) → find (λ e. bytes_eq (b ∷ bs) e.0) table ≡ found → found ≡ None
    go None is = refl
    go (Some entry) is = absurd (both_ways (is_lower b) (not-true (is_lower b) (found_all is_sign (b ∷ bs) table entry signs is)) lower)

pub token_of-name : (text : List ℕ) → is_name text ≡ true → token_of text ≡ Some (name text)
unfolding token_of words_and_symbols is_keyword is_name is_spelled_as_name
token_of-name [] is = absurd (both_ways false refl (and_parts (nat_le 0 MAX_NAME) false (and_parts (nat_le 0 MAX_NAME && false) (not (is_keyword [])) is).0).1)
token_of-name (b ∷ bs) is =
    let text = b ∷ bs in
    let is_none = and_parts (nat_le (length text) MAX_NAME && is_spelled_as_name text) (not (is_keyword text)) is in
    let parts = and_parts (nat_le (length text) MAX_NAME) (is_spelled_as_name text) is_none.0 in
    let lower = (and_parts (is_lower b) (list_all continues_name bs) parts.1).0 in
    let none = find-more text (take 10 words_and_symbols) (drop 10 words_and_symbols) (not-true (is_keyword text) is_none.1)
    ∙ find-signs b bs (drop 10 words_and_symbols) lower refl in
    let word : is_name_word text ≡ true = and_from (nat_le (length text) MAX_NAME) (is_spelled_as_name text) parts.0 parts.1 in
    ap (λ (found : Option (List ℕ × Token)). option_map_or (λ (e : List ℕ × Token). Some e.1) found (name_or_number text)) none
    ∙ ap (λ (c : Bool). cond c (Some (name text)) (cond (is_digits text) (Some (Token.number (number_of_digits text))) None)) word

one-name : (text : List ℕ) → is_name text ≡ true → HasTokens text ((1, name text) ∷ [])
one-name text is =
    at_token 1 text text (name text) [] []
    (record {
      split = sym (append-nil text);
      is = token_of-name text is;
      longest = λ longer other t split found. let all = ap length split ∙ length-append longer other in omega (arith, all);
    })
    (at_end (1 + length text))

-- An accepted name is one token, and has no other tokens.
pub name_is_token : (text : List ℕ) (tokens : List (ℕ × Token)) → is_name text ≡ true → HasTokens text tokens ↔ (tokens ≡ (1, name text) ∷ [])
name_is_token text tokens is = (
  λ has. one_token_list has (one-name text is),
  λ same. subst (HasTokens text) (sym same) (one-name text is),
)
