-- Numbers as bytes, the most significant byte first.
use Rattle.std.specs.Prelude.{◌≡◌, ℕ, zero, suc, ◌+◌, ◌-◌, ◌*◌, ◌/◌, ◌%◌, ◌^◌, ◌<◌, ℤ, pos, negsuc, List, [], ◌∷◌, length, All}
use Rattle.std.specs.Int.{w64}
use Rattle.std.specs.Int.RustNames.{FitsSigned}

-- The lowest bytes of the number, so many, the most significant first.
unfoldable pub big_endian : ℕ → ℕ → List ℕ
big_endian zero number = []
big_endian (suc size) number = number / 256 ^ size % 256 ∷ big_endian size number

-- The number whose digits to the base 256 are these bytes, the most significant first.
unfoldable pub number_of : List ℕ → ℕ
number_of [] = 0
number_of (byte ∷ bytes) = byte * 256 ^ length bytes + number_of bytes

-- The number of 64 bits that stands for a signed one in two's complement.
unfoldable pub twos_complement : ℤ → ℕ
twos_complement (pos number) = number
twos_complement (negsuc number) = 2 ^ 64 - suc number

-- Every byte is below 256.
abbrev pub AreBytes : List ℕ → Type 0
AreBytes bytes = All (λ byte. byte < 256) bytes

-- The bytes are the number, in so many bytes.
pub record IsNumber (size number : ℕ) (bytes : List ℕ) : Type 0 where
  pub fits : number < 256 ^ size
  pub spelled : bytes ≡ big_endian size number

-- The bytes are the signed number, in 8 bytes.
pub record IsSigned (number : ℤ) (bytes : List ℕ) : Type 0 where
  pub fits : FitsSigned w64 number
  pub spelled : bytes ≡ big_endian 8 (twos_complement number)
