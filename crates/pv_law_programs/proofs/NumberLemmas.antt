-- What `parse` reads of digits is the number that they spell.
use Rattle.std.proofs.Common.{◌≡◌, ℕ, suc, zero, ◌^◌, ◌<◌, ◌≤◌, Bool, true, false, List, [], ◌∷◌, length, cond, eqb, Some, None, Result, Ok, Err, MatchResult, ◌∙◌, IfSome, IfNone, IsTrue, refl, ap, arith, rules, eqb-true, ltb-true, lt-ltb}
use Rattle.std.specs.Prelude.{ℤ, pos}
use lib.IntN.{neg_ℤ}
use mir.Syntax.{w64}
use Rattle.std.specs.List.{list_all}
use Rattle.std.specs.Result.{OkIff, result_ok}
use Rattle.std.specs.Str.{IsUtf8}
use Rattle.std.specs.Str.Parse.{ParsesUnsigned, ParsesSigned}
use Rattle.std.proofs.lemmas.Str.{IsUtf8-from_ascii}
use Rattle.std.proofs.lemmas.Str.Ascii.{IsAscii-cons}
use Rattle.std.proofs.lemmas.Fmt.{IsAscii-from_digits}
use Rattle.std.proofs.lemmas.Str.Parse.{IsNumeralModel, numerals_by_weight, parse_digits, parse_signed_digits, parse_signed_minus}
use Rattle.pv_model.specs.Meaning.{fits_i64}
use Rattle.pv_base.specs.Name.{is_digit}
use Rattle.pv_model.specs.Text.{number_of_digits, digits_of, number_of_signed, IsDecimal, IsSignedDecimal}

pub numerals : IsNumeralModel (λ ds. list_all is_digit ds ≡ true) number_of_digits
numerals = numerals_by_weight _ (search rules) number_of_digits (search rules)

OkIff-same : {E X : Type 0} {P Q : Type 0} (r : Result X E) (x : X) → (P → Q) → (Q → P) → OkIff r P x → OkIff r Q x
OkIff-same (Ok y) x to from is = (to is.0, is.1)
OkIff-same (Err e) x to from is = λ q. is (from q)

-- the number that digits spell, or no number where it doesn't fit
pub number-parsed : {E : Type 0} → (word : List ℕ) (r : Result ℕ E) → IsTrue (list_all is_digit word) → ParsesUnsigned 64 10 word r → IfSome (result_ok r) (λ n. IsDecimal word n) × IfNone (result_ok r) ((n : ℕ) → n < 2 ^ 64 → IsDecimal word n → ⊥)
number-parsed {E} word (Ok n) digits parsed =
    let is = parse_digits numerals {E = E} 64 word (Ok n) parsed digits in
    (record { some = is.0.0; digits = digits; value = is.1 }, tt)
number-parsed {E} word (Err e) digits parsed =
    let no = parse_digits numerals {E = E} 64 word (Err e) parsed digits in
    (tt, λ n fits is. no (is.some, (let small : number_of_digits word < 2 ^ 64 = omega (arith, is.value) in small)))

fits_i64-minus : (n : ℕ) → IsTrue (fits_i64 (neg_ℤ (pos n))) → n ≤ 2 ^ 63
fits_i64-minus zero fits = omega arith
fits_i64-minus (suc n) fits = let below = ltb-true n (2 ^ 63) fits in omega arith

minus-fits_i64 : (n : ℕ) → n ≤ 2 ^ 63 → IsTrue (fits_i64 (neg_ℤ (pos n)))
minus-fits_i64 zero fits = refl
minus-fits_i64 (suc n) fits = lt-ltb n (2 ^ 63) (omega arith)

abbrev IsRead : {E : Type 0} → Result ℤ E → List ℕ → ℤ → Type 0
IsRead r digits z = OkIff r ((0 < length digits) × IsTrue (fits_i64 z)) z

signed-cases : {E : Type 0} (c : ℕ) (cs : List ℕ) (r : Result ℤ E) (minus : Bool) → eqb c 45 ≡ minus → IsTrue (list_all is_digit (cond minus cs (c ∷ cs))) → ParsesSigned w64 10 (c ∷ cs) r → IsRead r (cond minus cs (c ∷ cs)) (cond minus (neg_ℤ (pos (number_of_digits cs))) (pos (number_of_digits (c ∷ cs))))
signed-cases c cs r true is_minus digits parsed =
    OkIff-same r _ (λ is. (is.1, minus-fits_i64 (number_of_digits cs) is.2)) (λ is. (digits, is.0, fits_i64-minus (number_of_digits cs) is.1)) (parse_signed_minus numerals w64 (c ∷ cs) r parsed (eqb-true c 45 is_minus))
signed-cases c cs r false no_minus digits parsed =
    OkIff-same r _ (λ is. (is.0, lt-ltb (number_of_digits (c ∷ cs)) (2 ^ 63) is.1)) (λ is. (is.0, ltb-true (number_of_digits (c ∷ cs)) (2 ^ 63) is.1)) (parse_signed_digits numerals w64 (c ∷ cs) r parsed digits)

signed-read : {E : Type 0} (word : List ℕ) (r : Result ℤ E) → IsTrue (list_all is_digit (digits_of word)) → ParsesSigned w64 10 word r → IsRead r (digits_of word) (number_of_signed word)
signed-read [] r digits parsed =
    OkIff-same r (pos 0) (λ is. (is.0, refl)) (λ is. absurd (omega (arith, is.0))) (parse_signed_digits numerals w64 [] r parsed digits)
signed-read (c ∷ cs) r digits parsed = signed-cases c cs r (eqb c 45) refl digits parsed

-- the number that a `-` and digits spell, or no number where it doesn't fit
pub signed-parsed : {E : Type 0} (word : List ℕ) (r : Result ℤ E) → IsTrue (list_all is_digit (digits_of word)) → ParsesSigned w64 10 word r → IfSome (result_ok r) (λ z. IsSignedDecimal word z) × IfNone (result_ok r) ((z : ℤ) → IsTrue (fits_i64 z) → IsSignedDecimal word z → ⊥)
signed-parsed {E} word (Ok z) digits parsed =
    let is = signed-read {E = E} word (Ok z) digits parsed in
    (record { some = is.0.0; digits = digits; value = is.1 }, tt)
signed-parsed {E} word (Err e) digits parsed =
    let no = signed-read {E = E} word (Err e) digits parsed in
    (tt, λ z fits is. no (is.some, rw (← is.value) fits))

-- digits are text, and so is a `-` before them
pub IsUtf8-digits : (word : List ℕ) → IsTrue (list_all is_digit word) → IsUtf8 word
IsUtf8-digits word digits = IsUtf8-from_ascii word (IsAscii-from_digits word (numerals.to word digits))

IsUtf8-cases : (c : ℕ) (cs : List ℕ) (minus : Bool) → eqb c 45 ≡ minus → IsTrue (list_all is_digit (cond minus cs (c ∷ cs))) → IsUtf8 (c ∷ cs)
IsUtf8-cases c cs true is_minus digits =
    let e = eqb-true c 45 is_minus in
    IsUtf8-from_ascii (c ∷ cs) (IsAscii-cons c cs (omega arith) (IsAscii-from_digits cs (numerals.to cs digits)))
IsUtf8-cases c cs false no_minus digits = IsUtf8-digits (c ∷ cs) digits

pub IsUtf8-signed : (word : List ℕ) → IsTrue (list_all is_digit (digits_of word)) → IsUtf8 word
IsUtf8-signed [] digits = IsUtf8-digits [] digits
IsUtf8-signed (c ∷ cs) digits = IsUtf8-cases c cs (eqb c 45) refl digits

-- what `from_utf8` answers where the bytes are text
pub utf8-read : {S E : Type 0} (P : S → Type 0) (Q : E → Type 0) (bytes : List ℕ) (r : Result S E) → IsUtf8 bytes → MatchResult r P (λ e. ¬ (IsUtf8 bytes) × Q e) → None ≡ result_ok r → ⊥
utf8-read P Q bytes (Ok s) utf8 is none = cc
utf8-read P Q bytes (Err e) utf8 is none = is.0 utf8

pub utf8-text : {S E : Type 0} (Q : Type 0) (R : E → Type 0) (bytes : List ℕ) (now : S → List ℕ) (r : Result S E) (text : S) → Some text ≡ result_ok r → MatchResult r (λ s. (now s ≡ bytes) × Q) R → now text ≡ bytes
utf8-text Q R bytes now (Ok s) text some is = ap now (let e : text ≡ s = cc in e) ∙ is.0
utf8-text Q R bytes now (Err e) text some is = absurd (let no : ⊥ = cc in no)
