-- What C gets for an answer.
use Rattle.std.specs.Prelude.{◌≡◌, ℕ, Bool, Option, Result}
use Rattle.pv_growth.specs.declared.fault.ConfigFault.{ConfigFault}
use Rattle.pv_handle.specs.declared.given.Given.{Given}
use Rattle.pv_handle.specs.declared.refused.Refused.{Refused}
use Rattle.pv_c.specs.Causes.{growth_number}
use Rattle.pv_c.specs.Status.{status_of, status_of_asked, count_of, numbers_of_asked, numbers_of_read}
use Rattle.pv_c.specs.declared.given_numbers.Numbers.{Numbers}

-- The number is that of an answer of which this is true. Causes that differ have numbers that differ, but for what a cause tells beside itself.
abbrev pub Answers : {E : Type 0} → (E → ℕ) → ℕ → (Result (Unit {0}) (Refused E) → Type 0) → Type 0
Answers {E = E} number status IsSo = (answer : Result (Unit {0}) (Refused E)) × (status ≡ status_of number answer) × IsSo answer

-- The same of a call that gives a count, which only a closed slot refuses.
abbrev pub Counted : ℕ → ℕ → (Option ℕ → Type 0) → Type 0
Counted status count IsSo = (answer : Option ℕ) × (status ≡ status_of_asked answer) × (count ≡ count_of answer) × IsSo answer

-- The same of bytes that only a closed slot refuses.
abbrev pub GivenAs : Numbers → (Option Given → Type 0) → Type 0
GivenAs numbers IsSo = (answer : Option Given) × (numbers ≡ numbers_of_asked answer) × IsSo answer

-- The same of bytes that the engine may refuse.
abbrev pub ReadAs : {E : Type 0} → (E → ℕ) → Numbers → (Result Given (Refused E) → Type 0) → Type 0
ReadAs {E = E} number numbers IsSo = (answer : Result Given (Refused E)) × (numbers ≡ numbers_of_read number answer) × IsSo answer

-- The same of whether a configuration grows.
abbrev pub GrownAs : ℕ → (Result Bool ConfigFault → Type 0) → Type 0
GrownAs status IsSo = (answer : Result Bool ConfigFault) × (status ≡ growth_number answer) × IsSo answer
