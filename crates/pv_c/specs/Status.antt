-- The numbers that C gets for answers, as embed/polydb.h has them. They stand here as numbers, so that the constants of the code can be no others.
use Rattle.std.specs.Prelude.{ℕ, Option, Some, None, Result, Ok, Err}
use Rattle.pv_handle.specs.declared.given.Given.{Given}
use Rattle.pv_handle.specs.declared.given.Given.TheVariants.{Nothing, Bytes, TooSmall}
use Rattle.pv_handle.specs.declared.refused.Refused.{Refused}
use Rattle.pv_handle.specs.declared.refused.Refused.TheVariants.{Closed, InUse, Engine}
use Rattle.pv_c.specs.declared.given_numbers.Numbers.{Numbers}

-- the number of a refusal, by the numbers of the engine's causes
abbrev pub number_of : {E : Type 0} → (E → ℕ) → Refused E → ℕ
number_of number Closed = 16
number_of number InUse = 17
number_of number (Engine fault) = number fault

-- the number of an answer
abbrev pub status_of : {X E : Type 0} → (E → ℕ) → Result X (Refused E) → ℕ
status_of number (Ok _) = 0
status_of number (Err refusal) = number_of number refusal

-- the number of a call that only a closed slot refuses
abbrev pub status_of_asked : {X : Type 0} → Option X → ℕ
status_of_asked (Some _) = 0
status_of_asked None = 16

-- the count is the answer's, and 0 without one
abbrev pub count_of : Option ℕ → ℕ
count_of (Some count) = count
count_of None = 0

-- the numbers of bytes that were asked for: the status, how many they are or would be, and where they go
abbrev pub numbers_of_given : Given → Numbers
numbers_of_given Nothing = record { status = 19; count = 0; to = 0 }
numbers_of_given (Bytes count to) = record { status = 0; count = count; to = to }
numbers_of_given (TooSmall needed) = record { status = 18; count = needed; to = 0 }

abbrev pub numbers_of_asked : Option Given → Numbers
numbers_of_asked (Some given) = numbers_of_given given
numbers_of_asked None = record { status = 16; count = 0; to = 0 }

abbrev pub numbers_of_read : {E : Type 0} → (E → ℕ) → Result Given (Refused E) → Numbers
numbers_of_read number (Ok given) = numbers_of_given given
numbers_of_read number (Err refusal) = record { status = number_of number refusal; count = 0; to = 0 }
