-- The token in front of a text: no longer front is a token.
use Rattle.std.proofs.Common.{◌≡◌, ℕ, suc, zero, ◌+◌, ◌<◌, ◌≤◌, Bool, true, false, Option, Some, None, List, [], ◌∷◌, ◌++◌, length, get_or, take, drop, min, refl, sym, ap, ◌∙◌, subst, ⊎_elim, inl, inr, arith}
use Rattle.std.specs.Prelude.{◌⊎◌}
use Rattle.std.specs.List.{list_all}
use Rattle.std.proofs.lemmas.Option.{none-some}
use Rattle.pv_law_programs.proofs.FaultLemmas.{token_is_long}
use Rattle.std.proofs.lemmas.Bool.{cases_lt, both_ways, not_from_false}
use Rattle.std.proofs.lemmas.List.{take-append-drop, length-take-le, length-append, get_or_append_left, get_or-take}
use Rattle.std.proofs.Math.Seq.{take-append_seam}
use Rattle.pv_base.specs.declared.limits.TheConstants.{MAX_NAME}
use Rattle.pv_base.specs.Name.{is_blank, is_lower, is_digit, continues_name}
use Rattle.pv_model.specs.Text.{number_of_digits}
use Rattle.pv_model.specs.Tokens.{Token, number, stray, is_name_word, is_digits, token_of, AreTokens, at_token, at_stray}
use Rattle.pv_parse.specs.TokenView.{StartsWith, IsOther, listed_pair, listed_token}
use Rattle.pv_parse.proofs.TokenKinds.{word_at_lower, digits_at_digit, short_at_other, token_of-listed, no_token_at_other, token_of-digits, all_from_each, each_from_all, word_continues, word_short, word_from_each, digits_from_each, digits_all}

cases_le : (a b : ℕ) → (a ≤ b) ⊎ (b < a)
cases_le a b = ⊎_elim (λ (h : b < a). inr h) (λ (h : a ≤ b). inl h) (cases_lt b a)

-- The front of a text has the text's bytes.
front_first : (text longer other : List ℕ) → text ≡ longer ++ other → 1 ≤ length longer → get_or longer 0 0 ≡ get_or text 0 0
front_first text longer other split some = sym (ap (λ (bs : List ℕ). get_or bs 0 0) split ∙ get_or_append_left longer other 0 0 some)

front_at : (text longer other : List ℕ) (k : ℕ) → text ≡ longer ++ other → k < length longer → get_or longer k 0 ≡ get_or text k 0
front_at text longer other k split h = sym (ap (λ (bs : List ℕ). get_or bs k 0) split ∙ get_or_append_left longer other 0 k h)

front_fits : (text longer other : List ℕ) → text ≡ longer ++ other → length longer ≤ length text
front_fits text longer other split = omega (arith, ap length split, length-append longer other)

front_is_take : (text longer other : List ℕ) → text ≡ longer ++ other → longer ≡ take (length longer) text
front_is_take text longer other split = sym (ap (take (length longer)) split ∙ take-append_seam longer other)

taken_each : (p : ℕ → Bool) (text : List ℕ) (size : ℕ) → size ≤ length text → ((k : ℕ) → k < size → p (get_or text k 0) ≡ true) → list_all p (take size text) ≡ true
taken_each p text size within each =
    all_from_each p (take size text) (λ k h.
    let here : k < size = omega (arith, length-take-le size text within) in
    ap p (get_or-take size text k 0 here) ∙ each k here)

starts : (text : List ℕ) (size : ℕ) (t : Token) → 1 ≤ size → size ≤ length text → token_of (take size text) ≡ Some t →
    ((longer other : List ℕ) (u : Token) → text ≡ longer ++ other → token_of longer ≡ Some u → length longer ≤ size) → StartsWith text t size
starts text size t some within is longest =
    let same = length-take-le size text within in
    record {
      some = some;
      within = within;
      first = λ column tokens rest.
          at_token column text (take size text) t (drop size text) tokens
          (record {
            split = sym (take-append-drop size text);
            is = is;
            longest = λ longer other u split token. subst (λ (n : ℕ). length longer ≤ n) (sym same) (longest longer other u split token);
          })
          (subst (λ (n : ℕ). AreTokens (column + n) (drop size text) tokens) (sym same) rest);
    }

-- Bytes that pass a test as far as this passes begin with one that does.
pub some_at : (p : ℕ → Bool) (text : List ℕ) (size : ℕ) → p (get_or text 0 0) ≡ true → (size ≡ 0 → p (get_or text size 0) ≡ false) → 1 ≤ size
some_at p text zero passes end = absurd (both_ways (p (get_or text 0 0)) (end refl) passes)
some_at p text (suc n) passes end = omega arith

-- The front of a text that begins with a lower-case letter, as long as a name may be.
pub front_is_word : (text : List ℕ) (size : ℕ) → is_lower (get_or text 0 0) ≡ true → 1 ≤ size → size ≤ length text → size ≤ MAX_NAME →
    ((k : ℕ) → k < size → continues_name (get_or text k 0) ≡ true) → is_name_word (take size text) ≡ true
front_is_word text size lower some within short each =
    let same = length-take-le size text within in
    word_from_each (take size text) (omega arith) (omega arith) (ap is_lower (get_or-take size text 0 0 some) ∙ lower) (taken_each continues_name text size within each)

pub word_starts : (text : List ℕ) (size : ℕ) (t : Token) → is_lower (get_or text 0 0) ≡ true → 1 ≤ size → size ≤ length text → size ≤ MAX_NAME →
    (size < MAX_NAME → size < length text → continues_name (get_or text size 0) ≡ false) → token_of (take size text) ≡ Some t → StartsWith text t size
word_starts text size t lower some within short end is = starts text size t some within is longest
  where
    longest : (longer other : List ℕ) (u : Token) → text ≡ longer ++ other → token_of longer ≡ Some u → length longer ≤ size
    longest longer other u split token =
        let some = token_is_long longer u token in
        let word = word_at_lower longer u (ap is_lower (front_first text longer other split some) ∙ lower) some token in
        let short = word_short longer word in
        let fits = front_fits text longer other split in
        ⊎_elim (λ (h : length longer ≤ size). h)
        (λ (h : size < length longer).
        absurd (both_ways (continues_name (get_or text size 0)) (end (omega arith) (omega arith))
        (ap continues_name (sym (front_at text longer other size split h)) ∙ each_from_all continues_name longer (word_continues longer word) size h)))
        (cases_le (length longer) size)

-- The front of a text that begins with a digit, as long as there are digits.
pub front_is_digits : (text : List ℕ) (size : ℕ) → 1 ≤ size → size ≤ length text →
    ((k : ℕ) → k < size → is_digit (get_or text k 0) ≡ true) → is_digits (take size text) ≡ true
front_is_digits text size some within each =
    digits_from_each (take size text) (omega (arith, length-take-le size text within)) (taken_each is_digit text size within each)

pub number_starts : (text : List ℕ) (size : ℕ) → is_digit (get_or text 0 0) ≡ true → 1 ≤ size → size ≤ length text →
    ((k : ℕ) → k < size → is_digit (get_or text k 0) ≡ true) →
    (size < length text → is_digit (get_or text size 0) ≡ false) → StartsWith text (number (number_of_digits (take size text))) size
number_starts text size digit some within each end =
    starts text size (number (number_of_digits (take size text))) some within (token_of-digits (take size text) (front_is_digits text size some within each)) longest
  where
    longest : (longer other : List ℕ) (u : Token) → text ≡ longer ++ other → token_of longer ≡ Some u → length longer ≤ size
    longest longer other u split token =
        let some = token_is_long longer u token in
        let digits = digits_at_digit longer u (ap is_digit (front_first text longer other split some) ∙ digit) some token in
        let fits = front_fits text longer other split in
        ⊎_elim (λ (h : length longer ≤ size). h)
        (λ (h : size < length longer).
        absurd (both_ways (is_digit (get_or text size 0)) (end (omega arith))
        (ap is_digit (sym (front_at text longer other size split h)) ∙ each_from_all is_digit longer (digits_all longer digits) size h)))
        (cases_le (length longer) size)

-- A token that begins otherwise is the front of one or two bytes.
other_front : (text longer other : List ℕ) (u : Token) → IsOther (get_or text 0 0) → text ≡ longer ++ other → token_of longer ≡ Some u → length longer ≤ min (length text) 2
other_front text longer other u begins split token =
    let some = token_is_long longer u token in
    let first : IsOther (get_or longer 0 0) = subst IsOther (sym (front_first text longer other split some)) begins in
    let short = short_at_other longer u first token in
    let fits = front_fits text longer other split in
    omega arith

other_taken : (text : List ℕ) (size : ℕ) → IsOther (get_or text 0 0) → 1 ≤ size → IsOther (get_or (take size text) 0 0)
other_taken text size begins some = subst IsOther (sym (get_or-take size text 0 0 some)) begins

pub pair_starts : (text : List ℕ) (t : Token) → IsOther (get_or text 0 0) → listed_pair text ≡ Some t → StartsWith text t 2
pair_starts [] t begins is = absurd (none-some t is)
pair_starts (a ∷ []) t begins is = absurd (none-some t is)
pair_starts (a ∷ b ∷ bs) t begins is =
    starts (a ∷ b ∷ bs) 2 t (omega arith) (omega arith) (token_of-listed (a ∷ b ∷ []) t is)
    (λ longer other u split token. let short = other_front (a ∷ b ∷ bs) longer other u begins split token in omega arith)

-- Where the first two bytes are no token, no token is longer than one byte.
single_front : (text longer other : List ℕ) (u : Token) → IsOther (get_or text 0 0) → listed_pair text ≡ None →
    text ≡ longer ++ other → token_of longer ≡ Some u → length longer ≤ 1
single_front [] longer other u begins unlisted split token = let fits = front_fits [] longer other split in omega arith
single_front (a ∷ []) longer other u begins unlisted split token = let fits = front_fits (a ∷ []) longer other split in omega arith
single_front (a ∷ b ∷ bs) longer other u begins unlisted split token =
    let short = other_front (a ∷ b ∷ bs) longer other u begins split token in
    ⊎_elim (λ (h : length longer ≤ 1). h)
    (λ (h : 1 < length longer).
    let whole : length longer ≡ 2 = omega arith in
    let same : longer ≡ a ∷ b ∷ [] = front_is_take (a ∷ b ∷ bs) longer other split ∙ ap (λ (n : ℕ). take n (a ∷ b ∷ bs)) whole in
    absurd (none-some u (sym (no_token_at_other (a ∷ b ∷ []) begins unlisted) ∙ sym (ap token_of same) ∙ token)))
    (cases_le (length longer) 1)

pub single_starts : (text : List ℕ) (t : Token) → IsOther (get_or text 0 0) → 1 ≤ length text →
    listed_pair text ≡ None → listed_token (get_or text 0 0 ∷ []) ≡ Some t → StartsWith text t 1
single_starts [] t begins some unlisted is = absurd (omega arith)
single_starts (b ∷ bs) t begins some unlisted is =
    starts (b ∷ bs) 1 t (omega arith) some (token_of-listed (b ∷ []) t is)
    (λ longer other u split token. single_front (b ∷ bs) longer other u begins unlisted split token)

no_front : (text longer other : List ℕ) (u : Token) → IsOther (get_or text 0 0) → listed_pair text ≡ None →
    listed_token (take 1 text) ≡ None → text ≡ longer ++ other → token_of longer ≡ Some u → ⊥
no_front text longer other u begins unlisted single split token =
    let some = token_is_long longer u token in
    let short = single_front text longer other u begins unlisted split token in
    let one : length longer ≡ 1 = omega arith in
    let same : longer ≡ take 1 text = front_is_take text longer other split ∙ ap (λ (n : ℕ). take n text) one in
    none-some u (sym (no_token_at_other (take 1 text) (other_taken text 1 begins (omega arith)) single) ∙ sym (ap token_of same) ∙ token)

none_unless : (o : Option Token) → ((u : Token) → o ≡ Some u → ⊥) → o ≡ None
none_unless None h = refl
none_unless (Some u) h = absurd (h u refl)

pub stray_starts : (text : List ℕ) → IsOther (get_or text 0 0) → is_blank (get_or text 0 0) ≡ false → 1 ≤ length text →
    listed_pair text ≡ None → listed_token (get_or text 0 0 ∷ []) ≡ None → StartsWith text (stray (get_or text 0 0)) 1
stray_starts [] begins seen some unlisted single = absurd (omega arith)
stray_starts (b ∷ bs) begins seen some unlisted single =
    record {
      some = omega arith;
      within = some;
      first = λ column tokens rest.
          at_stray column b bs tokens (not_from_false (is_blank b) seen)
          (λ front behind split. none_unless (token_of front) (λ u token. no_front (b ∷ bs) front behind u begins unlisted single split token))
          (subst (λ (n : ℕ). AreTokens n bs tokens) (let e : column + 1 ≡ suc column = omega arith in e) rest);
    }
