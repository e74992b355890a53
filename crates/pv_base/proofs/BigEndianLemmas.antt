-- Numbers and their big-endian bytes determine each other.
use Rattle.std.proofs.Common.{◌≡◌, ℕ, zero, suc, ◌+◌, ◌*◌, ◌/◌, ◌%◌, ◌^◌, ◌<◌, ℤ, pos, negsuc, List, [], ◌∷◌, ◌++◌, length, refl, sym, ap, subst, ◌∙◌, arith}
use Rattle.std.specs.Int.{w64, cast_signed, cast_unsigned}
use Rattle.std.specs.Int.RustNames.{FitsSigned}
use Rattle.std.proofs.Math.Arith.{mod-mul}
use Rattle.std.proofs.Math.Nat.{div-one, mod-eq_of_lt, mod-lt, one-le-pow, pow-suc, pow-succ'}
use Rattle.std.proofs.lemmas.Nat.{mul-add-lt, same_from_place}
use Rattle.std.proofs.lemmas.List.Elements.{All-nil, All-cons, All-head, All-tail}
use Rattle.std.proofs.lemmas.Int.{to_z-of_z, of_z-to_z}
use Rattle.std.specs.Int.{byte_at, bytes_high_first}
use Rattle.pv_base.specs.BigEndian.{big_endian, number_of, twos_complement, AreBytes, IsNumber, IsSigned}

-- A power of 256 isn't 0.
pub pow_256_pos : (size : ℕ) → 0 < 256 ^ size
pow_256_pos size = one-le-pow size 256 (omega arith)

-- There are so many bytes.
pub length-big_endian : (size number : ℕ) → length (big_endian size number) ≡ size
unfolding big_endian
length-big_endian zero number = refl
length-big_endian (suc size) number = let rest = length-big_endian size number in omega arith

-- They are bytes.
pub AreBytes-big_endian : (size number : ℕ) → AreBytes (big_endian size number)
unfolding big_endian
AreBytes-big_endian zero number = All-nil (λ byte. byte < 256)
AreBytes-big_endian (suc size) number =
    All-cons (λ byte. byte < 256) (number / 256 ^ size % 256) (big_endian size number) (mod-lt (number / 256 ^ size) (omega arith)) (AreBytes-big_endian size number)

-- Some bytes spell a number below the power of 256 for their count.
pub number_of-lt : (bytes : List ℕ) → AreBytes bytes → number_of bytes < 256 ^ length bytes
unfolding number_of
number_of-lt [] all = omega arith
number_of-lt (byte ∷ bytes) all =
    let rest = number_of-lt bytes (All-tail (λ b. b < 256) byte bytes all) in
    let first = All-head (λ b. b < 256) byte bytes all in
    let below : byte * 256 ^ length bytes + number_of bytes < 256 ^ length bytes * 256 = mul-add-lt byte (256 ^ length bytes) (number_of bytes) 256 first rest in
    subst (λ power. byte * 256 ^ length bytes + number_of bytes < power) (sym (pow-suc 256 (length bytes))) below

number_of-big_endian-mod : (size number : ℕ) → number_of (big_endian size number) ≡ number % 256 ^ size
unfolding number_of big_endian
number_of-big_endian-mod zero number = omega arith
number_of-big_endian-mod (suc size) number =
    let rest = number_of-big_endian-mod size number in
    let count = length-big_endian size number in
    let split = mod-mul number {m = 256} {c = 256 ^ size} (omega arith) (pow_256_pos size) in
    rw (count, rest, pow-succ' 256 size, split) refl

-- The bytes of a number that fits them spell it.
pub number_of-big_endian : (size number : ℕ) → number < 256 ^ size → number_of (big_endian size number) ≡ number
number_of-big_endian size number fits = number_of-big_endian-mod size number ∙ mod-eq_of_lt fits

-- Equally many bytes that spell one number are the same.
pub number_of-injective : (bytes others : List ℕ) → AreBytes bytes → AreBytes others
    → length bytes ≡ length others → number_of bytes ≡ number_of others → bytes ≡ others
unfolding number_of
number_of-injective [] [] all each count same = refl
number_of-injective [] (other ∷ others) all each count same = absurd (omega arith)
number_of-injective (byte ∷ bytes) [] all each count same = absurd (omega arith)
number_of-injective (byte ∷ bytes) (other ∷ others) all each count same =
    let all_rest = All-tail (λ b. b < 256) byte bytes all in
    let each_rest = All-tail (λ b. b < 256) other others each in
    let counts : length others ≡ length bytes = omega arith in
    let same_width : byte * 256 ^ length bytes + number_of bytes ≡ other * 256 ^ length bytes + number_of others
    = subst (λ n. byte * 256 ^ length bytes + number_of bytes ≡ other * 256 ^ n + number_of others) counts same in
    let below = number_of-lt bytes all_rest in
    let below_too : number_of others < 256 ^ length bytes = subst (λ n. number_of others < 256 ^ n) counts (number_of-lt others each_rest) in
    let parts = same_from_place byte (number_of bytes) other (number_of others) (256 ^ length bytes) below below_too same_width in
    let rest = number_of-injective bytes others all_rest each_rest (sym counts) parts.1 in
    (λ i. parts.0 i ∷ rest i)

-- Bytes are those of the number that they spell.
pub big_endian-number_of : (bytes : List ℕ) → AreBytes bytes → big_endian (length bytes) (number_of bytes) ≡ bytes
big_endian-number_of bytes all =
    number_of-injective (big_endian (length bytes) (number_of bytes)) bytes (AreBytes-big_endian (length bytes) (number_of bytes)) all
    (length-big_endian (length bytes) (number_of bytes))
    (number_of-big_endian (length bytes) (number_of bytes) (number_of-lt bytes all))

-- Numbers with the same bytes are the same.
pub big_endian-injective : (size number other : ℕ) → number < 256 ^ size → other < 256 ^ size
    → big_endian size number ≡ big_endian size other → number ≡ other
big_endian-injective size number other fits fits_too same =
    sym (number_of-big_endian size number fits) ∙ ap number_of same ∙ number_of-big_endian size other fits_too

-- Equally long fronts of one list are the same, and so is what follows them.
pub append-same_length : {X : Type 0} (front other rest others : List X) → length front ≡ length other
    → front ++ rest ≡ other ++ others → (front ≡ other) × (rest ≡ others)
append-same_length [] [] rest others count same = (refl, same)
append-same_length [] (y ∷ other) rest others count same = absurd (omega arith)
append-same_length (x ∷ front) [] rest others count same = absurd (omega arith)
append-same_length (x ∷ front) (y ∷ other) rest others count same =
    let first : x ≡ y = cc in
    let tails : front ++ rest ≡ other ++ others = cc in
    let parts = append-same_length front other rest others (omega arith) tails in
    ((λ i. first i ∷ parts.0 i), parts.1)

-- Bytes that begin with a number begin with no other one of that size.
pub big_endian-begins : (size number other : ℕ) (rest others : List ℕ) → number < 256 ^ size → other < 256 ^ size
    → big_endian size number ++ rest ≡ big_endian size other ++ others → (number ≡ other) × (rest ≡ others)
big_endian-begins size number other rest others fits fits_too same =
    let count = length-big_endian size number ∙ sym (length-big_endian size other) in
    let parts = append-same_length (big_endian size number) (big_endian size other) rest others count same in
    (big_endian-injective size number other fits fits_too parts.0, parts.1)

byte_at-digit : (place number : ℕ) → byte_at place number ≡ number / 256 ^ place % 256
byte_at-digit zero number = ap (λ n. n % 256) (sym (div-one number))
byte_at-digit (suc place) number = refl

-- The kit's name for the same bytes.
pub bytes_high_first-big_endian : (size number : ℕ) → bytes_high_first size number ≡ big_endian size number
unfolding big_endian
bytes_high_first-big_endian zero number = refl
bytes_high_first-big_endian (suc size) number = λ i. byte_at-digit size number i ∷ bytes_high_first-big_endian size number i

one_digit : (number : ℕ) → number < 256 → number / 256 ^ 0 % 256 ≡ number
one_digit number fits = omega arith

-- One byte is its own number.
pub big_endian-one : (number : ℕ) → number < 256 → big_endian 1 number ≡ number ∷ []
unfolding big_endian
big_endian-one number fits = λ i. one_digit number fits i ∷ []

-- The kit's name for the same number.
pub cast_unsigned-twos_complement : (number : ℤ) → cast_unsigned w64 number ≡ twos_complement number
unfolding twos_complement
cast_unsigned-twos_complement (pos number) = refl
cast_unsigned-twos_complement (negsuc number) = refl

-- A signed number stands for a number of 64 bits.
pub twos_complement-lt : (number : ℤ) → FitsSigned w64 number → twos_complement number < 256 ^ 8
unfolding twos_complement
twos_complement-lt (pos number) fits = let below : number < 2 ^ 63 = fits.sfits in omega arith
twos_complement-lt (negsuc number) fits = omega arith

-- A number of 64 bits stands for the signed one that it is cast to.
pub twos_complement-cast_signed : (number : ℕ) → number < 256 ^ 8 → twos_complement (cast_signed w64 number) ≡ number
twos_complement-cast_signed number fits =
    sym (cast_unsigned-twos_complement (cast_signed w64 number)) ∙ of_z-to_z w64 number (omega arith)

-- Signed numbers with the same two's complement are the same.
pub twos_complement-injective : (number other : ℤ) → FitsSigned w64 number → FitsSigned w64 other
    → twos_complement number ≡ twos_complement other → number ≡ other
twos_complement-injective number other fits fits_too same =
    sym (to_z-of_z w64 number fits) ∙ ap (cast_signed w64) (cast_unsigned-twos_complement number ∙ same ∙ sym (cast_unsigned-twos_complement other)) ∙ to_z-of_z w64 other fits_too

-- A number is spelled by one list of bytes, which has its size.
pub IsNumber-length : (size number : ℕ) (bytes : List ℕ) → IsNumber size number bytes → length bytes ≡ size
IsNumber-length size number bytes is = ap length is.spelled ∙ length-big_endian size number

-- A signed number is spelled by 8 bytes.
pub IsSigned-length : (number : ℤ) (bytes : List ℕ) → IsSigned number bytes → length bytes ≡ 8
IsSigned-length number bytes is = ap length is.spelled ∙ length-big_endian 8 (twos_complement number)

-- Bytes that begin with a number begin with no other one of that size.
pub IsNumber-begins : (size number other : ℕ) (bytes spelling rest others : List ℕ) → IsNumber size number bytes → IsNumber size other spelling
    → bytes ++ rest ≡ spelling ++ others → (number ≡ other) × (rest ≡ others)
IsNumber-begins size number other bytes spelling rest others is is_too same =
    big_endian-begins size number other rest others is.fits is_too.fits
    (ap (λ front. front ++ rest) (sym is.spelled) ∙ same ∙ ap (λ front. front ++ others) is_too.spelled)

-- Bytes that begin with a signed number begin with no other one.
pub IsSigned-begins : (number other : ℤ) (bytes spelling rest others : List ℕ) → IsSigned number bytes → IsSigned other spelling
    → bytes ++ rest ≡ spelling ++ others → (number ≡ other) × (rest ≡ others)
IsSigned-begins number other bytes spelling rest others is is_too same =
    let parts = big_endian-begins 8 (twos_complement number) (twos_complement other) rest others
    (twos_complement-lt number is.fits) (twos_complement-lt other is_too.fits)
    (ap (λ front. front ++ rest) (sym is.spelled) ∙ same ∙ ap (λ front. front ++ others) is_too.spelled) in
    (twos_complement-injective number other is.fits is_too.fits parts.0, parts.1)
