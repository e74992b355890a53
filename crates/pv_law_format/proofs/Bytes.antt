-- Lists of bytes and their parts.
use Rattle.std.proofs.Common.{◌≡◌, ℕ, ◌/◌, ◌%◌, ◌^◌, ◌<◌, List, [], ◌∷◌, ◌++◌, ◌≤◌, take, drop, length, sym, ap, ◌∙◌, arith}
use Rattle.std.specs.Prelude.{◌&&◌, nat_le, IsTrue}
use Rattle.std.proofs.lemmas.Bool.{and_parts, leb-true}
use Rattle.std.proofs.lemmas.List.{take-append-drop, length-take-le}
use Rattle.std.proofs.lemmas.List.Elements.{All-tail}
use Rattle.pv_base.specs.BigEndian.{AreBytes, IsNumber, big_endian}

-- What comes after a front is bytes too.
pub later-bytes : (front rest : List ℕ) → AreBytes (front ++ rest) → AreBytes rest
later-bytes [] rest all = all
later-bytes (byte ∷ front) rest all = later-bytes front rest (All-tail (λ b. b < 256) byte (front ++ rest) all)

-- A list, cut where there are enough elements before.
pub parted-at : (size : ℕ) (bytes : List ℕ) → size ≤ length bytes → (bytes ≡ take size bytes ++ drop size bytes) × (length (take size bytes) ≡ size)
parted-at size bytes enough = (sym (take-append-drop size bytes), length-take-le size bytes enough)

-- what a test of a range says
pub within : (least most n : ℕ) → IsTrue (nat_le least n && nat_le n most) → (least ≤ n) × (n ≤ most)
within least most n is =
    let parts = and_parts (nat_le least n) (nat_le n most) is in
    (leb-true least n parts.0, leb-true n most parts.1)

one-digit : (number : ℕ) → number < 256 → number / 256 ^ 0 % 256 ≡ number
one-digit number fits = omega arith

-- A number in one byte is that byte.
pub byte-number : (number : ℕ) → number < 256 → IsNumber 1 number (number ∷ [])
unfolding big_endian
byte-number number fits = record { fits = omega (arith, fits); spelled = ap (λ (n : ℕ). n ∷ []) (sym (one-digit number fits)) }

-- What begins with it begins with that byte.
pub one-byte : (number : ℕ) (front rest bytes : List ℕ) → bytes ≡ front ++ rest → IsNumber 1 number front → bytes ≡ number ∷ rest
unfolding big_endian
one-byte number front rest bytes whole is =
    whole ∙ ap (λ (f : List ℕ). f ++ rest) is.spelled ∙ ap (λ (n : ℕ). n ∷ rest) (one-digit number (omega (arith, is.fits)))
