-- Numbers as they are printed, read again.
use Rattle.std.proofs.Common.{◌≡◌, ℕ, zero, suc, ◌<◌, ◌^◌, ◌/◌, ◌%◌, ◌==◌, Bool, true, false, cond, nat_lt, List, [], ◌∷◌, Some, Result, refl, sym, ap, ap₂, subst, ◌∙◌, ⊎_elim, arith, ltb-true, lt_trans, of_z, to_z}
use Rattle.std.specs.Prelude.{ℤ, pos, negsuc, ◌&&◌, IsTrue}
use Rattle.std.specs.Fmt.{decimal, digits, digits_onto, digit_glyph, signed_decimal}
use Rattle.std.specs.Int.RustNames.{FitsSigned}
use Rattle.std.specs.List.{list_all, Contains}
use Rattle.std.specs.Result.{result_ok}
use Rattle.std.specs.Str.{IsUtf8}
use Rattle.std.specs.Str.Parse.{AllDigits, digits_value, ParsesUnsigned, ParsesSigned}
use Rattle.std.proofs.lemmas.Bool.{and_parts, both_ways}
use Rattle.std.proofs.lemmas.Bool.Decides.{nat_tests}
use Rattle.std.proofs.lemmas.Fmt.{IsAscii-decimal, IsAscii-signed, decimal_is_IsNumeral_wide, parse-decimal, parse-signed_decimal}
use Rattle.std.proofs.lemmas.Int.{to_z-of_z}
use Rattle.std.proofs.lemmas.Str.{IsUtf8-from_ascii}
use Rattle.pv_base.specs.Name.{is_digit}
use Rattle.pv_base.proofs.ContainsLemmas.{Contains-nil, Contains-cases}
use Rattle.pv_model.specs.Meaning.{fits_i64}
use lib.Dec.{lit<}
use lib.Signed.{mag}
use mir.Syntax.{w64}

-- ---- what is printed is text

pub utf8-decimal : (word : List ℕ) (n : ℕ) → n < 2 ^ 64 → word ≡ decimal n → IsUtf8 word
utf8-decimal word n small is = subst IsUtf8 (sym is) (IsUtf8-from_ascii (decimal n) (IsAscii-decimal n small))

pub mag-fits : (z : ℤ) → IsTrue (fits_i64 z) → mag z < 2 ^ 63
mag-fits (pos n) fits = ltb-true n (2 ^ 63) fits
mag-fits (negsuc n) fits = ltb-true n (2 ^ 63) fits

pub utf8-signed : (word : List ℕ) (z : ℤ) → IsTrue (fits_i64 z) → word ≡ signed_decimal z → IsUtf8 word
utf8-signed word z fits is = subst IsUtf8 (sym is) (IsUtf8-from_ascii (signed_decimal z) (IsAscii-signed z (mag-fits z fits)))

-- ---- what `parse` gives is what was printed

pub parsed-decimal : {E : Type 0} (word : List ℕ) (n : ℕ) (r : Result ℕ E) → n < 2 ^ 64 → word ≡ decimal n → ParsesUnsigned 64 10 word r → result_ok r ≡ Some n
parsed-decimal word n r small is parsed = ap result_ok (parse-decimal 64 n word r small small is parsed)

fits-signed : (z : ℤ) → IsTrue (fits_i64 z) → FitsSigned w64 z
fits-signed z fits = record { sfits = mag-fits z fits }

pub parsed-signed : {E : Type 0} (word : List ℕ) (z : ℤ) (r : Result ℤ E) → IsTrue (fits_i64 z) → word ≡ signed_decimal z → ParsesSigned w64 10 word r → result_ok r ≡ Some z
parsed-signed word z r fits is parsed = ap result_ok (parse-signed_decimal w64 z word r (fits-signed z fits) (mag-fits z fits) is parsed)

-- and is printed so again.
pub round-signed : (z read : ℤ) → IsTrue (fits_i64 z) → read ≡ z → to_z w64 (of_z w64 read) ≡ z
round-signed z read fits same = ap (λ (k : ℤ). to_z w64 (of_z w64 k)) same ∙ to_z-of_z w64 z (fits-signed z fits)

-- ---- the bytes of numbers are digits

pub passes : {X : Type 0} (p : X → Bool) (xs : List X) (x : X) → list_all p xs ≡ true → Contains xs x → p x ≡ true
passes p [] x all has = absurd (Contains-nil x has)
passes {X} p (y ∷ xs) x all has =
    let parts = and_parts (p y) (list_all p xs) all in
    ⊎_elim (λ (same : y ≡ x). ap p (sym same) ∙ parts.0) (λ (behind : Contains xs x). passes p xs x parts.1 behind) (Contains-cases y xs x has)

glyph-digit : (n : ℕ) → is_digit (digit_glyph false (n % 10)) ≡ true
glyph-digit n =
    let small : n % 10 < 10 = omega arith in
    let digit : nat_lt (n % 10) 10 ≡ true = grind (arith, nat_tests, small) in
    rw digit (grind (arith, nat_tests, small))

digits_onto-digits : (k n : ℕ) (text : List ℕ) → list_all is_digit text ≡ true → list_all is_digit (digits_onto k 10 false n text) ≡ true
digits_onto-digits zero n text digits = digits
digits_onto-digits (suc k) n text digits =
    let more : list_all is_digit (digit_glyph false (n % 10) ∷ text) ≡ true = ap₂ (λ (x y : Bool). x && y) (glyph-digit n) digits in
    by_last (n / 10 == 0) _ _ more (digits_onto-digits k (n / 10) (digit_glyph false (n % 10) ∷ text) more)
  where
    by_last : (last : Bool) (xs ys : List ℕ) → list_all is_digit xs ≡ true → list_all is_digit ys ≡ true → list_all is_digit (cond last xs ys) ≡ true
    by_last true xs ys first second = first
    by_last false xs ys first second = second

pub decimal-digits : (n : ℕ) → list_all is_digit (decimal n) ≡ true
unfolding digits
decimal-digits n = digits_onto-digits 64 n [] refl

-- A byte that is no digit isn't among them.
pub decimal-without : (n b : ℕ) → is_digit b ≡ false → Contains (decimal n) b → ⊥
decimal-without n b other has = both_ways (is_digit b) other (passes is_digit (decimal n) b (decimal-digits n) has)

-- ---- numbers of more than 64 bits

wide : (n : ℕ) → n < 2 ^ 128 → n < 10 ^ 64
wide n small = lt_trans small (lit< tt)

pub digits-wide : (word : List ℕ) (n : ℕ) → n < 2 ^ 128 → word ≡ decimal n → AllDigits 10 word × (digits_value 10 word ≡ n)
digits-wide word n small is =
    let numeral = decimal_is_IsNumeral_wide n (wide n small) in
    (subst (λ (w : List ℕ). AllDigits 10 w) (sym is) numeral.0.1, ap (digits_value 10) is ∙ numeral.1)

pub one-wide : (m n : ℕ) → m < 2 ^ 128 → n < 2 ^ 128 → decimal m ≡ decimal n → m ≡ n
one-wide m n fits also same = sym (digits-wide (decimal n) m fits (sym same)).1 ∙ (digits-wide (decimal n) n also refl).1

long : (n : ℕ) → n < 2 ^ 64 → n < 2 ^ 128
long n small = lt_trans small (lit< tt)

pub one-long : (m n : ℕ) → m < 2 ^ 64 → n < 2 ^ 64 → decimal m ≡ decimal n → m ≡ n
one-long m n fits also same = one-wide m n (long m fits) (long n also) same
