-- What `parse` reads of digits is the number that they stand for.
use Rattle.std.proofs.Common.{◌≡◌, ℕ, ◌^◌, ◌<◌, ◌≤◌, true, false, List, [], ◌∷◌, length, Result, Ok, Err, ⊎_elim, IfSome, IfNone, IsTrue, refl, arith}
use Rattle.std.specs.Prelude.{ℤ, pos}
use mir.Syntax.{w64}
use Rattle.std.specs.Result.{result_ok}
use Rattle.std.specs.Str.{IsUtf8}
use Rattle.std.specs.Str.Parse.{ParsesSigned}
use Rattle.std.proofs.lemmas.Bool.{both_ways, cases_lt}
use Rattle.std.proofs.lemmas.Str.Parse.{parse_signed_digits}
use Rattle.pv_model.specs.Text.{number_of_digits}
use Rattle.pv_model.specs.Tokens.{is_digits}
use Rattle.pv_law_programs.proofs.NumberLemmas.{numerals, IsUtf8-digits}
use Rattle.pv_parse.proofs.TokenKinds.{digits_all}

some_digits : (digits : List ℕ) → is_digits digits ≡ true → 0 < length digits
unfolding is_digits
some_digits [] h = absurd (both_ways false refl h)
some_digits (b ∷ bs) h = omega arith

-- the number that digits stand for, or that it doesn't fit
pub digits-parsed : {E : Type 0} (digits : List ℕ) (r : Result ℤ E) → IsTrue (is_digits digits) → ParsesSigned w64 10 digits r →
    IfSome (result_ok r) (λ n. (n ≡ pos (number_of_digits digits)) × (number_of_digits digits < 2 ^ 63)) × IfNone (result_ok r) (2 ^ 63 ≤ number_of_digits digits)
digits-parsed {E} digits (Ok n) are parsed =
    let is = parse_signed_digits numerals {E = E} w64 digits (Ok n) parsed (digits_all digits are) in
    ((is.1, is.0.1), tt)
digits-parsed {E} digits (Err e) are parsed =
    let not_read = parse_signed_digits numerals {E = E} w64 digits (Err e) parsed (digits_all digits are) in
    (tt, ⊎_elim (λ (fits : number_of_digits digits < 2 ^ 63). absurd (not_read (some_digits digits are, fits))) (λ (large : 2 ^ 63 ≤ number_of_digits digits). large) (cases_lt (number_of_digits digits) (2 ^ 63)))

-- digits are text
pub digits-text : (digits : List ℕ) → IsTrue (is_digits digits) → IsUtf8 digits
digits-text digits are = IsUtf8-digits digits (digits_all digits are)
