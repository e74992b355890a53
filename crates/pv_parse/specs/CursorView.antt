-- The tokens that are left, as plain data.
use Rattle.std.specs.Prelude.{map, All}
use Rattle.pv_parse.specs.declared.cursor.Cursor.TheInside.{Inside}
use Rattle.pv_parse.specs.TokenView.{located_of, HasDigits}
use Rattle.pv_parse.specs.ReadingSteps.{Columned}

abbrev pub left_of : Inside → Columned
left_of inside = map located_of inside.rest.now

-- each number has its digits
abbrev pub have_digits : Inside → Type 0
have_digits inside = All (λ located. HasDigits located.token) inside.rest.now
