-- The texts of numbers as they are printed.
use Rattle.std.specs.Prelude.{ℕ, Bool, false, not, ◌&&◌, ◌==◌, List, [], ◌∷◌, length, if◌then◌else◌}
use Rattle.std.specs.List.{list_all}
use Rattle.pv_base.specs.Name.{is_digit}

-- Digits without a leading zero, but for `0` itself.
abbrev pub is_decimal : List ℕ → Bool
is_decimal [] = false
is_decimal (b ∷ bs) = if b == 48 then length bs == 0 else list_all is_digit (b ∷ bs)

-- A `-` may stand before such digits, but not before 0.
abbrev pub begins_with_zero : List ℕ → Bool
begins_with_zero [] = false
begins_with_zero (b ∷ bs) = b == 48

abbrev pub is_signed_decimal : List ℕ → Bool
is_signed_decimal [] = false
is_signed_decimal (b ∷ bs) = if b == 45 then not (begins_with_zero bs) && is_decimal bs else is_decimal (b ∷ bs)
