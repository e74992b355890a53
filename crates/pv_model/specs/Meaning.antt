-- What a program means on ordinary values: rows in, rows and a reply out.
use Rattle.std.specs.Prelude.{ℕ, ◌^◌, ℤ, pos, nat_lt, ◌+ℤ◌, ◌-ℤ◌, ◌*ℤ◌, neg_ℤ, int_lt, int_le, int_div, int_rem, Bool, not, ◌&&◌, ◌||◌, ◌==◌, List, [], ◌∷◌, map, Result, Ok, Err, if◌then◌else◌}
use Rattle.std.specs.Ordering.{int_eq}
use lib.IntN.{negsuc}
use Rattle.pv_base.specs.declared.reply.Decline.{Decline}
use Rattle.pv_base.specs.declared.reply.Decline.TheVariants.{Require, Overflow, ZeroDivisor}
use Rattle.pv_base.specs.declared.reply.Reply.{Reply}
use Rattle.pv_base.specs.declared.reply.Reply.TheVariants.{Value, Nothing, Declined}
use Rattle.pv_model.specs.Syntax.{Op, or, and, equal, unequal, less, at_most, greater, at_least, plus, sub, times, over, rest, lesser, larger, Expr, number, item, minus, negation, two, Program, end, assign, require, certain, return, when, when_else}

-- an item and its value
pub record Row : Type 0 where
  pub item : ℕ
  pub value : ℤ

-- the items of rows, in their order
abbrev pub items_of_rows : List Row → List ℕ
items_of_rows rows = map (λ row. row.item) rows

-- the rows afterwards, and the reply
pub record Effect : Type 0 where
  pub rows : List Row
  pub reply : Reply

-- An item's value is that of its row. With no row it is 0, but a program runs only on rows that have its items.
abbrev pub value_in : List Row → ℕ → ℤ
value_in [] n = pos 0
value_in (row ∷ rows) n = if row.item == n then row.value else value_in rows n

-- the rows with a new value of an item
abbrev pub with_row : List Row → ℕ → ℤ → List Row
with_row [] n v = []
with_row (row ∷ rows) n v = if row.item == n then record { item = row.item; value = v } ∷ rows else row ∷ with_row rows n v

-- the numbers of 64 bits with a sign
abbrev pub fits_i64 : ℤ → Bool
fits_i64 (pos n) = nat_lt n (2 ^ 63)
fits_i64 (negsuc n) = nat_lt n (2 ^ 63)

-- a result, which declines the program where it is outside 64 bits
abbrev pub within : ℤ → Result ℤ Decline
within z = if fits_i64 z then Ok z else Err Overflow

-- Any value but 0 counts as true.
abbrev pub holds : ℤ → Bool
holds z = not (int_eq z (pos 0))

-- A test gives 1 or 0.
abbrev pub truth : Bool → ℤ
truth b = if b then pos 1 else pos 0

-- cut towards zero
abbrev pub quotient : ℤ → ℤ → Result ℤ Decline
quotient x y = if int_eq y (pos 0) then Err ZeroDivisor else within (int_div x y)

-- with the sign of the dividend; declines where the quotient does
abbrev pub remainder : ℤ → ℤ → Result ℤ Decline
remainder x y =
    if int_eq y (pos 0) then Err ZeroDivisor else (if fits_i64 (int_div x y) then Ok (int_rem x y) else Err Overflow)

-- an operator on the values of both sides
abbrev pub computed : Op → ℤ → ℤ → Result ℤ Decline
computed or x y = Ok (truth (holds x || holds y))
computed and x y = Ok (truth (holds x && holds y))
computed equal x y = Ok (truth (int_eq x y))
computed unequal x y = Ok (truth (not (int_eq x y)))
computed less x y = Ok (truth (int_lt x y))
computed at_most x y = Ok (truth (int_le x y))
computed greater x y = Ok (truth (int_lt y x))
computed at_least x y = Ok (truth (int_le y x))
computed plus x y = within (x +ℤ y)
computed sub x y = within (x -ℤ y)
computed times x y = within (x *ℤ y)
computed over x y = quotient x y
computed rest x y = remainder x y
computed lesser x y = Ok (if int_lt y x then y else x)
computed larger x y = Ok (if int_lt x y then y else x)

-- goes on with a value, unless there is a decline
abbrev pub with_value : Result ℤ Decline → (ℤ → Result ℤ Decline) → Result ℤ Decline
with_value (Ok v) go = go v
with_value (Err d) go = Err d

-- an operator after the value of its left side: `or` doesn't look right where it is true, `and` where it is 0
abbrev pub with_left : Op → ℤ → Result ℤ Decline → Result ℤ Decline
with_left or x right = if holds x then Ok (pos 1) else with_value right (computed or x)
with_left and x right = if holds x then with_value right (computed and x) else Ok (pos 0)
with_left op x right = with_value right (computed op x)

-- the value of an expression over these rows, left sides first
abbrev pub value_of : Expr → List Row → Result ℤ Decline
value_of (number z) rows = Ok z
value_of (item n) rows = Ok (value_in rows n)
value_of (minus e) rows = with_value (value_of e rows) (λ v. within (neg_ℤ v))
value_of (negation e) rows = with_value (value_of e rows) (λ v. Ok (truth (not (holds v))))
value_of (two op left right) rows = with_value (value_of left rows) (λ v. with_left op v (value_of right rows))

-- how far a program came, and the rows then
pub data Course : Type 0 where
  ended : List Row → Course
  returned : ℤ → List Row → Course
  refused : Decline → Course

-- goes on with the value of an expression, unless it declines
abbrev pub then_with : Result ℤ Decline → (ℤ → Course) → Course
then_with (Ok v) go = go v
then_with (Err d) go = refused d

-- goes on after what has ended
abbrev pub then_run : Course → (List Row → Course) → Course
then_run (ended rows) go = go rows
then_run (returned v rows) go = returned v rows
then_run (refused d) go = refused d

-- Statements run in order, and each sees what was assigned before it. To require that an item be certain does nothing here, where each is.
abbrev pub course_of : Program → List Row → Course
course_of end rows = ended rows
course_of (assign n e next) rows = then_with (value_of e rows) (λ v. course_of next (with_row rows n v))
course_of (require e next) rows = then_with (value_of e rows) (λ v. if holds v then course_of next rows else refused Require)
course_of (certain n next) rows = course_of next rows
course_of (return e next) rows = then_with (value_of e rows) (λ v. returned v rows)
course_of (when e body next) rows =
    then_with (value_of e rows) (λ v. then_run (if holds v then course_of body rows else ended rows) (course_of next))
course_of (when_else e body other next) rows =
    then_with (value_of e rows) (λ v. then_run (if holds v then course_of body rows else course_of other rows) (course_of next))

-- what is left of a course; the first decline leaves the rows as they were
abbrev pub effect_of : List Row → Course → Effect
effect_of before (ended rows) = record { rows = rows; reply = Nothing }
effect_of before (returned v rows) = record { rows = rows; reply = Value v }
effect_of before (refused d) = record { rows = before; reply = Declined d }

-- The program on rows that have each of its items once.
unfoldable pub exec : Program → List Row → Effect
exec program rows = effect_of rows (course_of program rows)
