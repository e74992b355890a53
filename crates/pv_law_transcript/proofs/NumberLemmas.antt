-- Numbers and names written out are words, and read back.
use Rattle.std.proofs.Common.{◌≡◌, ◌∙◌, ℕ, suc, ◌^◌, ◌<◌, ◌≤◌, Bool, true, false, not, ◌&&◌, ◌||◌, nat_le, List, [], ◌∷◌, length, cond, eqb, refl, sym, ap, arith, eqb-true, le-leb, leb-true, ltb-true}
use Rattle.std.specs.Prelude.{ℤ, pos}
use lib.IntN.{neg_ℤ, negsuc}
use Rattle.std.specs.Cmp.Derive.{both_true}
use Rattle.std.specs.Fmt.{decimal, signed_decimal}
use Rattle.std.specs.List.{list_all}
use Rattle.std.proofs.lemmas.Bool.{false_from_ne_true, false≢true}
use Rattle.std.proofs.lemmas.Fmt.{digits_decimal, digits_value-decimal, decimal_nonempty, length-decimal-le}
use Rattle.pv_base.specs.declared.limits.TheConstants.{MAX_NAME}
use Rattle.pv_base.specs.Name.{is_lower, is_digit, continues_name, is_spelled_as_name, is_keyword, is_name}
use Rattle.pv_base.proofs.Basics.{and-left, and-right}
use Rattle.pv_model.specs.Meaning.{fits_i64}
use Rattle.pv_model.specs.Text.{IsDecimal, IsSignedDecimal, digits_of, number_of_digits, number_of_signed}
use Rattle.pv_law_programs.proofs.NumberLemmas.{numerals}
use Rattle.pv_law_transcript.proofs.WordLemmas.{is_word_byte, is_word, some-bytes, all-weaken}

between : (low high b : ℕ) → 33 ≤ low → high ≤ 126 → (nat_le low b && nat_le b high) ≡ true → is_word_byte b ≡ true
between low high b least most is =
    let above = leb-true low b (and-left (nat_le low b) (nat_le b high) is) in
    let below = leb-true b high (and-right (nat_le low b) (nat_le b high) is) in
    both_true (le-leb 33 b (omega (arith, above, least))) (le-leb b 126 (omega (arith, below, most)))

digit-byte : (b : ℕ) → is_digit b ≡ true → is_word_byte b ≡ true
digit-byte b is = between 48 57 b (omega arith) (omega arith) is

pub decimal-digits : (n : ℕ) → n < 2 ^ 64 → list_all is_digit (decimal n) ≡ true
decimal-digits n small = digits_decimal numerals n small

pub decimal-word : (n : ℕ) → n < 2 ^ 64 → is_word (decimal n) ≡ true
decimal-word n small = both_true (some-bytes (decimal n) (decimal_nonempty n small)) (all-weaken is_digit is_word_byte digit-byte (decimal n) (decimal-digits n small))

pub decimal-reads : (n : ℕ) → n < 2 ^ 64 → IsDecimal (decimal n) n
decimal-reads n small = record { some = decimal_nonempty n small; digits = decimal-digits n small; value = sym (digits_value-decimal numerals n small) }

pub decimal-short : (n : ℕ) → n < 2 ^ 64 → length (decimal n) ≤ 20
decimal-short n small = length-decimal-le 20 n (omega arith) (omega (arith, small)) small

-- signed numbers

no_minus : (c : ℕ) → is_digit c ≡ true → eqb c 45 ≡ false
no_minus c is = false_from_ne_true (eqb c 45) (λ yes. false≢true (sym (ap is_digit (eqb-true c 45 yes)) ∙ is))

digits_of-digits : (ds : List ℕ) → list_all is_digit ds ≡ true → digits_of ds ≡ ds
digits_of-digits [] all = refl
digits_of-digits (c ∷ cs) all = ap (λ (yes : Bool). cond yes cs (c ∷ cs)) (no_minus c (and-left (is_digit c) (list_all is_digit cs) all))

signed-digits : (ds : List ℕ) → list_all is_digit ds ≡ true → number_of_signed ds ≡ pos (number_of_digits ds)
signed-digits [] all = refl
signed-digits (c ∷ cs) all =
    ap (λ (yes : Bool). cond yes (neg_ℤ (pos (number_of_digits cs))) (pos (number_of_digits (c ∷ cs)))) (no_minus c (and-left (is_digit c) (list_all is_digit cs) all))

reads-positive : (text : List ℕ) (n : ℕ) → IsDecimal text n → IsSignedDecimal text (pos n)
reads-positive text n is = record {
  some = rw (digits_of-digits text is.digits) is.some;
  digits = rw (digits_of-digits text is.digits) is.digits;
  value = ap pos is.value ∙ sym (signed-digits text is.digits);
}

pub signed-reads : (z : ℤ) → fits_i64 z ≡ true → IsSignedDecimal (signed_decimal z) z
signed-reads (pos n) fits = let small = ltb-true n (2 ^ 63) fits in reads-positive (decimal n) n (decimal-reads n (omega (arith, small)))
signed-reads (negsuc n) fits =
    let small = ltb-true n (2 ^ 63) fits in
    let is = decimal-reads (suc n) (omega (arith, small)) in
    record { some = is.some; digits = is.digits; value = ap (λ (m : ℕ). neg_ℤ (pos m)) is.value }

pub signed-word : (z : ℤ) → fits_i64 z ≡ true → is_word (signed_decimal z) ≡ true
signed-word (pos n) fits = let small = ltb-true n (2 ^ 63) fits in decimal-word n (omega (arith, small))
signed-word (negsuc n) fits =
    let small = ltb-true n (2 ^ 63) fits in
    let below : suc n < 2 ^ 64 = omega (arith, small) in
    both_true (some-bytes (45 ∷ decimal (suc n)) (omega arith)) (all-weaken is_digit is_word_byte digit-byte (decimal (suc n)) (decimal-digits (suc n) below))

pub signed-short : (z : ℤ) → fits_i64 z ≡ true → length (signed_decimal z) ≤ 21
signed-short (pos n) fits = let small = ltb-true n (2 ^ 63) fits in let few = decimal-short n (omega (arith, small)) in omega (arith, few)
signed-short (negsuc n) fits = let small = ltb-true n (2 ^ 63) fits in let few = decimal-short (suc n) (omega (arith, small)) in omega (arith, few)

-- names

lower-byte : (b : ℕ) → is_lower b ≡ true → is_word_byte b ≡ true
lower-byte b is = between 97 122 b (omega arith) (omega arith) is

name-byte : (b : ℕ) → continues_name b ≡ true → is_word_byte b ≡ true
name-byte b is = go (is_lower b) refl (is_digit b) refl is
  where
    go : (lower : Bool) → is_lower b ≡ lower → (digit : Bool) → is_digit b ≡ digit → (lower || digit || eqb b 95) ≡ true → is_word_byte b ≡ true
    go true lower digit other is = lower-byte b lower
    go false other true digit is = digit-byte b digit
    go false other false none is = ap is_word_byte (eqb-true b 95 is)

spelled-word : (text : List ℕ) → is_spelled_as_name text ≡ true → is_word text ≡ true
unfolding is_spelled_as_name
spelled-word [] is = absurd (false≢true is)
spelled-word (b ∷ bs) is =
    both_true (some-bytes (b ∷ bs) (omega arith)) (both_true (lower-byte b (and-left (is_lower b) (list_all continues_name bs) is)) (all-weaken continues_name is_word_byte name-byte bs (and-right (is_lower b) (list_all continues_name bs) is)))

module _ (text : List ℕ) (is : is_name text ≡ true) where
  front : (nat_le (length text) MAX_NAME && is_spelled_as_name text) ≡ true
  unfolding is_name
  front = and-left (nat_le (length text) MAX_NAME && is_spelled_as_name text) (not (is_keyword text)) is

  pub name-word : is_word text ≡ true
  name-word = spelled-word text (and-right (nat_le (length text) MAX_NAME) (is_spelled_as_name text) front)

  pub name-short : length text ≤ 16
  name-short = leb-true (length text) 16 (and-left (nat_le (length text) MAX_NAME) (is_spelled_as_name text) front)
