-- Why a program is refused.
use Rattle.std.specs.Prelude.{ℕ, zero, suc, nat_lt, Bool, Option, Some, None, if◌then◌else◌}
use Rattle.pv_check.specs.declared.plan.CheckError.{CheckError}
use Rattle.pv_check.specs.declared.plan.CheckError.TheVariants.{NoItem, TooManyItems, Assigns, NoReturn}
use Rattle.pv_model.specs.Syntax.{Program}
use Rattle.pv_model.specs.Check.{has_assignment, has_return}

-- why a program is refused for how many items it names, at this limit
abbrev pub refusal_of_count : ℕ → ℕ → Option CheckError
refusal_of_count limit zero = Some NoItem
refusal_of_count limit (suc n) = if nat_lt limit (suc n) then Some (TooManyItems (suc n)) else None

-- why a query is refused
abbrev pub refusal_of_query : Program → Option CheckError
refusal_of_query program =
    if has_assignment program then Some Assigns else
    (if has_return program then None else Some NoReturn)

-- the first of two causes
abbrev pub first_cause : Option CheckError → Option CheckError → Option CheckError
first_cause (Some cause) other = Some cause
first_cause None other = other

-- Why a program is refused that names this many items, the first cause that there is. Out of memory comes after these.
abbrev pub check_refusal : ℕ → ℕ → Program → Bool → Option CheckError
check_refusal limit count program query =
    first_cause (refusal_of_count limit count) (if query then refusal_of_query program else None)
