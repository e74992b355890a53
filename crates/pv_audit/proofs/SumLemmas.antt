-- Digits that are read one by one.
use Rattle.std.proofs.Common.{◌≡◌, ℕ, zero, suc, ◌+◌, ◌*◌, ◌<◌, ◌^◌, List, [], ◌∷◌, length, take, get_or, sym, ap, ◌∙◌, arith, lt_trans}
use Rattle.std.specs.Char.{digit_value}
use Rattle.std.specs.Fmt.{decimal}
use Rattle.std.specs.Str.Parse.{AllDigits, digits_value}
use Rattle.std.proofs.lemmas.Int.Digits.{digits_value_more}
use Rattle.std.proofs.lemmas.Str.Parse.{digits_value-take-le}
use Rattle.pv_audit.proofs.NumberLemmas.{digits-wide, one-wide}
use lib.Dec.{lit<}

pub digit-at : (ds : List ℕ) (i : ℕ) → AllDigits 10 ds → i < length ds → digit_value (get_or ds i 0) < 10
digit-at [] i all below = absurd (omega (arith, below))
digit-at (d ∷ ds) zero all below = all.0
digit-at (d ∷ ds) (suc i) all below = digit-at ds i all.1 (omega (arith, below))

-- What some of the digits write, and one more, is no more than what all do.
pub prefix-below : (most : ℕ) (ds : List ℕ) (i : ℕ) → i < length ds → digits_value 10 ds < most → digits_value 10 (take i ds) * 10 + digit_value (get_or ds i 0) < most
prefix-below most ds i inside small =
    let more = digits_value_more 10 ds i inside in
    let within = digits_value-take-le 10 ds (i + 1) (omega arith) in
    omega (arith, more, within, small)

-- The digits of a number write it.
pub wide-read : (word : List ℕ) (n read : ℕ) → n < 2 ^ 128 → word ≡ decimal n → read ≡ digits_value 10 word → word ≡ decimal read
wide-read word n read small is value = is ∙ ap decimal (sym (value ∙ (digits-wide word n small is).1))

-- A number that is read is the one that was printed, also behind a sign,
pub read-one : (word : List ℕ) (n read : ℕ) → read < 2 ^ 128 → word ≡ decimal read → n < 2 ^ 128 → word ≡ decimal n → read ≡ n
read-one word n read fits is small also = one-wide read n fits small (sym is ∙ also)

pub next-small : (n : ℕ) → n < 2 ^ 127 → suc n < 2 ^ 128
next-small n small = let more : 2 ^ 127 < 2 ^ 128 = lit< tt in omega (arith, small, more)

pub read-next : (word : List ℕ) (n read : ℕ) → read < 2 ^ 128 → word ≡ decimal read → n < 2 ^ 127 → word ≡ decimal (suc n) → read ≡ suc n
read-next word n read fits is small also = one-wide read (suc n) fits (next-small n small) (sym is ∙ also)

-- and so within the same bound.
pub read-small : (word : List ℕ) (n read : ℕ) → read < 2 ^ 128 → word ≡ decimal read → n < 2 ^ 127 → word ≡ decimal n → read < 2 ^ 127
read-small word n read fits is small also = let same = one-wide read n fits (lt_trans small (lit< tt)) (sym is ∙ also) in omega (arith, same, small)
