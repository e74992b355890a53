-- Which bytes are a token: what all tokens share that begin alike.
use Rattle.std.proofs.Common.{◌≡◌, ℕ, suc, zero, ◌<◌, ◌≤◌, Bool, true, false, not, ◌&&◌, ◌||◌, Option, Some, None, List, [], ◌∷◌, length, cond, get_or, refl, sym, ap, ◌∙◌, ⊎_elim, arith, find}
use Rattle.std.specs.Prelude.{nat_le, ◌==◌}
use Rattle.std.specs.List.{list_all}
use Rattle.std.specs.Option.{option_map, option_map_or}
use Rattle.std.specs.Str.{bytes_eq}
use Rattle.std.proofs.lemmas.Option.{none-some}
use Rattle.std.proofs.lemmas.Bool.{and_parts, and_from, and_left, or_cases, or_left, or_right, leb-true, lt-leb, le-leb, cases_Bool, both_ways, not_from_true, not_from_false}
use Rattle.pv_base.specs.declared.limits.TheConstants.{MAX_NAME}
use Rattle.pv_base.specs.Name.{is_lower, is_digit, continues_name, is_spelled_as_name}
use Rattle.pv_model.specs.Text.{number_of_digits}
use Rattle.pv_law_programs.proofs.NameLemmas.{found_all}
use Rattle.pv_model.specs.Tokens.{Token, name, number, words_and_symbols, is_name_word, is_digits, name_or_number, token_of}
use Rattle.pv_parse.specs.declared.token.Token as code
use Rattle.pv_parse.specs.TokenView.{IsOther, listed_token}
use Rattle.pv_parse.specs.TokenView.{token_of as token_view}

named : (bytes : List ℕ) (t : Token) (P : Type 0) → (is_name_word bytes ≡ true → P) → (is_digits bytes ≡ true → P) → name_or_number bytes ≡ Some t → P
named bytes t P word digits is = go (is_name_word bytes) refl (is_digits bytes) refl is
  where
    go : (w : Bool) → is_name_word bytes ≡ w → (d : Bool) → is_digits bytes ≡ d →
        cond w (Some (name bytes)) (cond d (Some (number (number_of_digits bytes))) None) ≡ Some t → P
    go true is_word d e is = word is_word
    go false other true are_digits is = digits are_digits
    go false other false neither is = absurd (none-some t is)

-- What holds of each listed text, of words and of digits holds of all bytes that are a token.
all_tokens : (Q : List ℕ → Bool) (bytes : List ℕ) (t : Token) → list_all (λ e. Q e.0) words_and_symbols ≡ true →
    (is_name_word bytes ≡ true → Q bytes ≡ true) → (is_digits bytes ≡ true → Q bytes ≡ true) → token_of bytes ≡ Some t → Q bytes ≡ true
unfolding token_of
all_tokens Q bytes t each word digits is = go (find (λ e. bytes_eq bytes e.0) words_and_symbols) refl is
  where
    go : (found : Option (List ℕ × Token)) → find (λ e. bytes_eq bytes e.0) words_and_symbols ≡ found →
        option_map_or (λ e. Some e.1) found (name_or_number bytes) ≡ Some t → Q bytes ≡ true
    go (Some entry) f is = found_all Q bytes words_and_symbols entry each f
    go None f is = named bytes t (Q bytes ≡ true) word digits is

digit_no_lower : (b : ℕ) → is_digit b ≡ true → is_lower b ≡ false
digit_no_lower b digit =
    let high = leb-true b 57 ((and_parts (nat_le 48 b) (nat_le b 57) digit).1) in
    and_left (nat_le 97 b) (nat_le b 122) (lt-leb 97 b (omega arith))

-- A token has bytes.
is_some : List ℕ → Bool
is_some bytes = nat_le 1 (length bytes)

some_word : (bytes : List ℕ) → is_name_word bytes ≡ true → is_some bytes ≡ true
unfolding is_spelled_as_name is_some
some_word [] h = h
some_word (b ∷ bs) h = le-leb 1 (length (b ∷ bs)) (omega arith)

-- A token that begins with a lower-case letter is a word.
is_word_at_lower : List ℕ → Bool
is_word_at_lower [] = true
is_word_at_lower (b ∷ bs) = not (is_lower b) || is_name_word (b ∷ bs)

lower_digits : (bytes : List ℕ) → is_digits bytes ≡ true → is_word_at_lower bytes ≡ true
unfolding is_digits is_word_at_lower
lower_digits [] h = refl
lower_digits (b ∷ bs) h =
    or_left (not (is_lower b)) (is_name_word (b ∷ bs)) (not_from_false (is_lower b) (digit_no_lower b ((and_parts (is_digit b) (list_all is_digit bs) h).0)))

lower_word : (bytes : List ℕ) → is_name_word bytes ≡ true → is_word_at_lower bytes ≡ true
unfolding is_word_at_lower
lower_word [] h = refl
lower_word (b ∷ bs) h = or_right (not (is_lower b)) (is_name_word (b ∷ bs)) h

lower_listed : list_all (λ e. is_word_at_lower e.0) words_and_symbols ≡ true
unfolding words_and_symbols is_word_at_lower is_spelled_as_name
lower_listed = refl

pub word_at_lower : (bytes : List ℕ) (t : Token) → is_lower (get_or bytes 0 0) ≡ true → 1 ≤ length bytes → token_of bytes ≡ Some t → is_name_word bytes ≡ true
unfolding is_word_at_lower
word_at_lower [] t lower some is = absurd (omega arith)
word_at_lower (b ∷ bs) t lower some is =
    ⊎_elim (λ no. absurd (both_ways (not (is_lower b)) (not_from_true (is_lower b) lower) no)) (λ yes. yes)
    (or_cases (not (is_lower b)) (is_name_word (b ∷ bs)) (all_tokens is_word_at_lower (b ∷ bs) t lower_listed (lower_word (b ∷ bs)) (lower_digits (b ∷ bs)) is))

-- A token that begins with a digit is a number.
is_number_at_digit : List ℕ → Bool
is_number_at_digit [] = true
is_number_at_digit (b ∷ bs) = not (is_digit b) || is_digits (b ∷ bs)

lower_no_digit : (b : ℕ) → is_lower b ≡ true → is_digit b ≡ false
lower_no_digit b lower = ⊎_elim (λ digit. absurd (both_ways (is_lower b) (digit_no_lower b digit) lower)) (λ no. no) (cases_Bool (is_digit b))

digit_digits : (bytes : List ℕ) → is_digits bytes ≡ true → is_number_at_digit bytes ≡ true
unfolding is_number_at_digit
digit_digits [] h = refl
digit_digits (b ∷ bs) h = or_right (not (is_digit b)) (is_digits (b ∷ bs)) h

first_is_lower : (b : ℕ) (bs : List ℕ) → is_name_word (b ∷ bs) ≡ true → is_lower b ≡ true
unfolding is_spelled_as_name
first_is_lower b bs h =
    (and_parts (is_lower b) (list_all continues_name bs) ((and_parts (nat_le (length (b ∷ bs)) MAX_NAME) (is_lower b && list_all continues_name bs) h).1)).0

pub word_lower : (bytes : List ℕ) → is_name_word bytes ≡ true → is_lower (get_or bytes 0 0) ≡ true
unfolding is_spelled_as_name
word_lower [] h = absurd (both_ways false refl h)
word_lower (b ∷ bs) h = first_is_lower b bs h

digit_word : (bytes : List ℕ) → is_name_word bytes ≡ true → is_number_at_digit bytes ≡ true
unfolding is_number_at_digit
digit_word [] h = refl
digit_word (b ∷ bs) h = or_left (not (is_digit b)) (is_digits (b ∷ bs)) (not_from_false (is_digit b) (lower_no_digit b (first_is_lower b bs h)))

digit_listed : list_all (λ e. is_number_at_digit e.0) words_and_symbols ≡ true
unfolding words_and_symbols is_number_at_digit is_digits
digit_listed = refl

pub digits_at_digit : (bytes : List ℕ) (t : Token) → is_digit (get_or bytes 0 0) ≡ true → 1 ≤ length bytes → token_of bytes ≡ Some t → is_digits bytes ≡ true
unfolding is_number_at_digit
digits_at_digit [] t digit some is = absurd (omega arith)
digits_at_digit (b ∷ bs) t digit some is =
    ⊎_elim (λ no. absurd (both_ways (not (is_digit b)) (not_from_true (is_digit b) digit) no)) (λ yes. yes)
    (or_cases (not (is_digit b)) (is_digits (b ∷ bs)) (all_tokens is_number_at_digit (b ∷ bs) t digit_listed (digit_word (b ∷ bs)) (digit_digits (b ∷ bs)) is))

-- Another token has two bytes at most.
is_short_at_other : List ℕ → Bool
is_short_at_other [] = true
is_short_at_other (b ∷ bs) = is_lower b || (is_digit b || nat_le (length (b ∷ bs)) 2)

other_digits : (bytes : List ℕ) → is_digits bytes ≡ true → is_short_at_other bytes ≡ true
unfolding is_digits is_short_at_other
other_digits [] h = refl
other_digits (b ∷ bs) h =
    or_right (is_lower b) (is_digit b || nat_le (length (b ∷ bs)) 2) (or_left (is_digit b) (nat_le (length (b ∷ bs)) 2) ((and_parts (is_digit b) (list_all is_digit bs) h).0))

other_word : (bytes : List ℕ) → is_name_word bytes ≡ true → is_short_at_other bytes ≡ true
unfolding is_short_at_other
other_word [] h = refl
other_word (b ∷ bs) h = or_left (is_lower b) (is_digit b || nat_le (length (b ∷ bs)) 2) (first_is_lower b bs h)

other_listed : list_all (λ e. is_short_at_other e.0) words_and_symbols ≡ true
unfolding words_and_symbols is_short_at_other
other_listed = refl

pub short_at_other : (bytes : List ℕ) (t : Token) → IsOther (get_or bytes 0 0) → token_of bytes ≡ Some t → length bytes ≤ 2
unfolding is_short_at_other
short_at_other [] t other is = omega arith
short_at_other (b ∷ bs) t other is =
    ⊎_elim (λ lower. absurd (both_ways (is_lower b) other.no_lower lower))
    (λ more. ⊎_elim (λ digit. absurd (both_ways (is_digit b) other.no_digit digit)) (λ short. leb-true (length (b ∷ bs)) 2 short)
    (or_cases (is_digit b) (nat_le (length (b ∷ bs)) 2) more))
    (or_cases (is_lower b) (is_digit b || nat_le (length (b ∷ bs)) 2) (all_tokens is_short_at_other (b ∷ bs) t other_listed (other_word (b ∷ bs)) (other_digits (b ∷ bs)) is))

-- What is listed is a token.
pub token_of-listed : (bytes : List ℕ) (t : Token) → listed_token bytes ≡ Some t → token_of bytes ≡ Some t
unfolding token_of listed_token
token_of-listed bytes t is = go (find (λ e. bytes_eq bytes e.0) words_and_symbols) is
  where
    go : (found : Option (List ℕ × Token)) → option_map (λ e. e.1) found ≡ Some t → option_map_or (λ e. Some e.1) found (name_or_number bytes) ≡ Some t
    go (Some entry) is = is
    go None is = absurd (none-some t is)

-- What isn't listed is a name, a number or no token.
pub token_of-unlisted : (bytes : List ℕ) → listed_token bytes ≡ None → token_of bytes ≡ name_or_number bytes
unfolding token_of listed_token
token_of-unlisted bytes is = go (find (λ e. bytes_eq bytes e.0) words_and_symbols) is
  where
    go : (found : Option (List ℕ × Token)) → option_map (λ e. e.1) found ≡ None → option_map_or (λ e. Some e.1) found (name_or_number bytes) ≡ name_or_number bytes
    go (Some entry) is = absurd (none-some entry.1 (sym is))
    go None is = refl

pub token_of-name : (bytes : List ℕ) → is_name_word bytes ≡ true → listed_token bytes ≡ None → token_of bytes ≡ Some (name bytes)
token_of-name bytes word is =
    token_of-unlisted bytes is ∙ ap (λ (b : Bool). cond b (Some (name bytes)) (cond (is_digits bytes) (Some (number (number_of_digits bytes))) None)) word

no_word_at_other : (bytes : List ℕ) → IsOther (get_or bytes 0 0) → is_name_word bytes ≡ true → ⊥
unfolding is_some
no_word_at_other [] other h = both_ways (is_some []) refl (some_word [] h)
no_word_at_other (b ∷ bs) other h = both_ways (is_lower b) other.no_lower (first_is_lower b bs h)

no_digits_at_other : (bytes : List ℕ) → IsOther (get_or bytes 0 0) → is_digits bytes ≡ true → ⊥
unfolding is_digits
no_digits_at_other [] other h = both_ways false refl h
no_digits_at_other (b ∷ bs) other h = both_ways (is_digit b) other.no_digit ((and_parts (is_digit b) (list_all is_digit bs) h).0)

pub no_token_at_other : (bytes : List ℕ) → IsOther (get_or bytes 0 0) → listed_token bytes ≡ None → token_of bytes ≡ None
no_token_at_other bytes other is = token_of-unlisted bytes is ∙ go (name_or_number bytes) refl
  where
    go : (t : Option Token) → name_or_number bytes ≡ t → t ≡ None
    go None e = refl
    go (Some t) e = absurd (named bytes t ⊥ (no_word_at_other bytes other) (no_digits_at_other bytes other) e)

-- Digits are no word and aren't listed.
is_no_digits : List ℕ → Bool
is_no_digits bytes = not (is_digits bytes)

no_digits_listed : list_all (λ e. is_no_digits e.0) words_and_symbols ≡ true
unfolding words_and_symbols is_digits is_no_digits
no_digits_listed = refl

digits_unlisted : (bytes : List ℕ) → is_digits bytes ≡ true → listed_token bytes ≡ None
unfolding listed_token is_no_digits
digits_unlisted bytes digits = go (find (λ e. bytes_eq bytes e.0) words_and_symbols) refl
  where
    go : (found : Option (List ℕ × Token)) → find (λ e. bytes_eq bytes e.0) words_and_symbols ≡ found → option_map (λ e. e.1) found ≡ None
    go None f = refl
    go (Some entry) f =
        absurd (both_ways (not (is_digits bytes)) (not_from_true (is_digits bytes) digits) (found_all is_no_digits bytes words_and_symbols entry no_digits_listed f))

digits_no_word : (bytes : List ℕ) → is_digits bytes ≡ true → is_name_word bytes ≡ false
unfolding is_digits
digits_no_word [] digits = absurd (both_ways false refl digits)
digits_no_word (b ∷ bs) digits =
    ⊎_elim (λ word. absurd (both_ways (is_lower b) (digit_no_lower b ((and_parts (is_digit b) (list_all is_digit bs) digits).0)) (first_is_lower b bs word)))
    (λ no. no) (cases_Bool (is_name_word (b ∷ bs)))

pub token_of-digits : (bytes : List ℕ) → is_digits bytes ≡ true → token_of bytes ≡ Some (number (number_of_digits bytes))
token_of-digits bytes digits =
    token_of-unlisted bytes (digits_unlisted bytes digits)
    ∙ ap (λ (w : Bool). cond w (Some (name bytes)) (cond (is_digits bytes) (Some (number (number_of_digits bytes))) None)) (digits_no_word bytes digits)
    ∙ ap (λ (d : Bool). cond d (Some (number (number_of_digits bytes))) None) digits

-- A test of all bytes, and of each.
pub all_from_each : (p : ℕ → Bool) (bytes : List ℕ) → ((k : ℕ) → k < length bytes → p (get_or bytes k 0) ≡ true) → list_all p bytes ≡ true
all_from_each p [] each = refl
all_from_each p (b ∷ bs) each = and_from (p b) (list_all p bs) (each 0 (omega arith)) (all_from_each p bs (λ k h. each (suc k) (omega arith)))

pub each_from_all : (p : ℕ → Bool) (bytes : List ℕ) → list_all p bytes ≡ true → (k : ℕ) → k < length bytes → p (get_or bytes k 0) ≡ true
each_from_all p [] all k h = absurd (omega arith)
each_from_all p (b ∷ bs) all zero h = (and_parts (p b) (list_all p bs) all).0
each_from_all p (b ∷ bs) all (suc k) h = each_from_all p bs ((and_parts (p b) (list_all p bs) all).1) k (omega arith)

pub lower_continues : (b : ℕ) → is_lower b ≡ true → continues_name b ≡ true
lower_continues b lower = or_left (is_lower b || is_digit b) (b == 95) (or_left (is_lower b) (is_digit b) lower)

pub word_continues : (bytes : List ℕ) → is_name_word bytes ≡ true → list_all continues_name bytes ≡ true
unfolding is_spelled_as_name
word_continues [] h = refl
word_continues (b ∷ bs) h =
    let parts = and_parts (is_lower b) (list_all continues_name bs) ((and_parts (nat_le (length (b ∷ bs)) MAX_NAME) (is_lower b && list_all continues_name bs) h).1) in
    and_from (continues_name b) (list_all continues_name bs) (lower_continues b parts.0) parts.1

pub word_short : (bytes : List ℕ) → is_name_word bytes ≡ true → length bytes ≤ MAX_NAME
word_short bytes h = leb-true (length bytes) MAX_NAME ((and_parts (nat_le (length bytes) MAX_NAME) (is_spelled_as_name bytes) h).0)

pub word_from_each : (bytes : List ℕ) → 1 ≤ length bytes → length bytes ≤ MAX_NAME → is_lower (get_or bytes 0 0) ≡ true → list_all continues_name bytes ≡ true → is_name_word bytes ≡ true
unfolding is_spelled_as_name
word_from_each [] some short lower all = absurd (omega arith)
word_from_each (b ∷ bs) some short lower all =
    and_from (nat_le (length (b ∷ bs)) MAX_NAME) (is_lower b && list_all continues_name bs) (le-leb (length (b ∷ bs)) MAX_NAME short)
    (and_from (is_lower b) (list_all continues_name bs) lower ((and_parts (continues_name b) (list_all continues_name bs) all).1))

pub digits_from_each : (bytes : List ℕ) → 1 ≤ length bytes → list_all is_digit bytes ≡ true → is_digits bytes ≡ true
unfolding is_digits
digits_from_each [] some all = absurd (omega arith)
digits_from_each (b ∷ bs) some all = all

pub digits_all : (bytes : List ℕ) → is_digits bytes ≡ true → list_all is_digit bytes ≡ true
unfolding is_digits
digits_all [] h = refl
digits_all (b ∷ bs) h = h

pub unfound : (found : Option code.Token) (is : Option Token) → option_map token_view found ≡ is → ((token : code.Token) → found ≡ Some token → ⊥) → is ≡ None
unfound None is same not_some = sym same
unfound (Some token) is same not_some = absurd (not_some token refl)
