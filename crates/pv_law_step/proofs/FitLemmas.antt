-- A program on values of 64 bits leaves values of 64 bits.
use Rattle.std.proofs.Common.{◌≡◌, ⊎_elim, ℕ, zero, suc, ◌<◌, ◌≤◌, ◌^◌, ℤ, pos, Bool, true, false, List, [], ◌∷◌, Ok, Err, Result, refl, sym, subst, ◌∙◌, arith}
use lib.IntN.{negsuc}
use Rattle.std.specs.Prelude.{IsTrue, ◌&&◌, ◌==◌, int_div, int_rem, int_lt, ◌+ℤ◌, ◌-ℤ◌, ◌*ℤ◌, neg_ℤ, unsigned_abs, if◌then◌else◌, ⊤}
use Rattle.std.specs.Int.{w64}
use Rattle.std.specs.Int.RustNames.{FitsSigned}
use Rattle.std.specs.List.{Contains}
use Rattle.std.specs.Ordering.{int_eq}
use Rattle.std.proofs.lemmas.Bool.{lt-ltb, ltb-true, and_parts, false≢true}
use Rattle.std.proofs.lemmas.Bool.Decides.{Decides-int_eq}
use Rattle.std.proofs.lemmas.Int.{ints, rem_below, fits_signed_from_abs}
use Rattle.pv_law_step.proofs.StepCases.{if_case}
use Rattle.pv_base.proofs.ContainsLemmas.{Contains-first, Contains-behind, Contains-nil, Contains-cases}
use Rattle.pv_base.specs.declared.reply.Decline.{Decline}
use Rattle.pv_base.specs.declared.reply.Reply.{Reply}
use Rattle.pv_base.specs.declared.reply.Reply.TheVariants.{Value}
use Rattle.pv_model.specs.Meaning.{Row, Course, ended, returned, refused, fits_i64, within, truth, holds, computed, with_value, with_left, value_in, with_row, value_of, then_with, then_run, course_of, effect_of, exec}
use Rattle.pv_model.specs.Syntax.{Op, or, and, equal, unequal, less, at_most, greater, at_least, plus, sub, times, over, rest, lesser, larger, Expr, number, item, minus, negation, two, Program, end, assign, require, certain, return, when, when_else}
use Rattle.pv_protocol.specs.WellFormed.{is_of_small_numbers, has_small_numbers}

abbrev pub Fits : ℤ → Type 0
Fits z = FitsSigned w64 z

pub fits-from : (z : ℤ) → fits_i64 z ≡ true → Fits z
fits-from (pos n) h = omega (arith, ints, ltb-true n (2 ^ 63) h)
fits-from (negsuc n) h = omega (arith, ints, ltb-true n (2 ^ 63) h)

-- A number of 64 bits is small.
pub small : (z : ℤ) → FitsSigned w64 z → true ≡ fits_i64 z
small (pos n) fits = sym (lt-ltb n (2 ^ 63) (omega (arith, ints, fits)))
small (negsuc n) fits = sym (lt-ltb n (2 ^ 63) (omega (arith, ints, fits)))

pub zero-fits : Fits (pos 0)
zero-fits = omega (arith, ints)

truth-fits : (b : Bool) → Fits (truth b)
truth-fits true = omega (arith, ints)
truth-fits false = zero-fits

-- The value, if there is one, fits.
abbrev FitsResult : Result ℤ Decline → Type 0
FitsResult (Ok v) = Fits v
FitsResult (Err d) = ⊤

within-fits : (z : ℤ) → FitsResult (within z)
within-fits z = if_case FitsResult (fits_i64 z) (λ fits. fits-from z fits) (λ too-large. tt)

-- A value that fits is at most 2 ^ 63 from 0.
abs-small : (z : ℤ) → Fits z → unsigned_abs z ≤ 2 ^ 63
abs-small (pos n) h = omega (arith, ints, h)
abs-small (negsuc n) h = omega (arith, ints, h)

abs-some : (z : ℤ) → (z ≡ pos 0 → ⊥) → 0 < unsigned_abs z
abs-some (pos zero) other = absurd (other refl)
abs-some (pos (suc n)) other = omega arith
abs-some (negsuc n) other = omega (arith, ints)

remainder-fits : (x y : ℤ) → Fits y → int_eq y (pos 0) ≡ false → Fits (int_rem x y)
remainder-fits x y fits some =
    let below : unsigned_abs (int_rem x y) < unsigned_abs y =
    rem_below x y (abs-some y (λ none. false≢true (sym some ∙ (Decides-int_eq y (pos 0)).1 none))) in
    fits_signed_from_abs w64 (int_rem x y) (omega (arith, below, abs-small y fits))

computed-fits : (op : Op) (x y : ℤ) → Fits x → Fits y → FitsResult (computed op x y)
computed-fits or x y f g = truth-fits _
computed-fits and x y f g = truth-fits _
computed-fits equal x y f g = truth-fits _
computed-fits unequal x y f g = truth-fits _
computed-fits less x y f g = truth-fits _
computed-fits at_most x y f g = truth-fits _
computed-fits greater x y f g = truth-fits _
computed-fits at_least x y f g = truth-fits _
computed-fits plus x y f g = within-fits (x +ℤ y)
computed-fits sub x y f g = within-fits (x -ℤ y)
computed-fits times x y f g = within-fits (x *ℤ y)
computed-fits over x y f g = if_case FitsResult (int_eq y (pos 0)) (λ none. tt) (λ some. within-fits (int_div x y))
computed-fits rest x y f g =
    if_case FitsResult (int_eq y (pos 0)) (λ none. tt)
    (λ some. if_case FitsResult (fits_i64 (int_div x y)) (λ fits. remainder-fits x y g some) (λ too-large. tt))
computed-fits lesser x y f g = if_case Fits (int_lt y x) (λ smaller. g) (λ other. f)
computed-fits larger x y f g = if_case Fits (int_lt x y) (λ greater. g) (λ other. f)

bind-fits : (r : Result ℤ Decline) (go : ℤ → Result ℤ Decline) → FitsResult r → ((v : ℤ) → Fits v → FitsResult (go v)) → FitsResult (with_value r go)
bind-fits (Ok v) go fits next = next v fits
bind-fits (Err d) go fits next = tt

other-fits : (op : Op) (x : ℤ) (right : Result ℤ Decline) → Fits x → FitsResult right → FitsResult (with_value right (computed op x))
other-fits op x right f g = bind-fits right (computed op x) g (λ v h. computed-fits op x v f h)

left-fits : (op : Op) (x : ℤ) (right : Result ℤ Decline) → Fits x → FitsResult right → FitsResult (with_left op x right)
left-fits or x right f g = if_case FitsResult (holds x) (λ true_already. truth-fits true) (λ not_yet. other-fits or x right f g)
left-fits and x right f g = if_case FitsResult (holds x) (λ still. other-fits and x right f g) (λ false_already. zero-fits)
left-fits equal x right f g = other-fits equal x right f g
left-fits unequal x right f g = other-fits unequal x right f g
left-fits less x right f g = other-fits less x right f g
left-fits at_most x right f g = other-fits at_most x right f g
left-fits greater x right f g = other-fits greater x right f g
left-fits at_least x right f g = other-fits at_least x right f g
left-fits plus x right f g = other-fits plus x right f g
left-fits sub x right f g = other-fits sub x right f g
left-fits times x right f g = other-fits times x right f g
left-fits over x right f g = other-fits over x right f g
left-fits rest x right f g = other-fits rest x right f g
left-fits lesser x right f g = other-fits lesser x right f g
left-fits larger x right f g = other-fits larger x right f g

-- Rows.

abbrev pub AllFit : List Row → Type 0
AllFit [] = ⊤
AllFit (row ∷ rows) = Fits row.value × AllFit rows

pub value-in-fits : (rows : List Row) (n : ℕ) → AllFit rows → Fits (value_in rows n)
value-in-fits [] n fit = zero-fits
value-in-fits (row ∷ rows) n fit = if_case Fits (row.item == n) (λ here. fit.0) (λ behind. value-in-fits rows n fit.1)

with-row-fits : (rows : List Row) (n : ℕ) (v : ℤ) → AllFit rows → Fits v → AllFit (with_row rows n v)
with-row-fits [] n v fit new = tt
with-row-fits (row ∷ rows) n v fit new =
    if_case AllFit (row.item == n) (λ here. (new, fit.1)) (λ behind. (fit.0, with-row-fits rows n v fit.1 new))

expression-fits : (e : Expr) (rows : List Row) → IsTrue (is_of_small_numbers e) → AllFit rows → FitsResult (value_of e rows)
expression-fits (number z) rows small fit = fits-from z small
expression-fits (item n) rows small fit = value-in-fits rows n fit
expression-fits (minus e) rows small fit = bind-fits (value_of e rows) _ (expression-fits e rows small fit) (λ v h. within-fits (neg_ℤ v))
expression-fits (negation e) rows small fit = bind-fits (value_of e rows) _ (expression-fits e rows small fit) (λ v h. truth-fits _)
expression-fits (two op left right) rows small fit =
    let parts = and_parts (is_of_small_numbers left) (is_of_small_numbers right) small in
    bind-fits (value_of left rows) _ (expression-fits left rows parts.0 fit)
    (λ v h. left-fits op v (value_of right rows) h (expression-fits right rows parts.1 fit))

-- The rows that are left, if any are, fit, and so does what is returned.
abbrev CourseFits : Course → Type 0
CourseFits (ended rows) = AllFit rows
CourseFits (returned v rows) = Fits v × AllFit rows
CourseFits (refused d) = ⊤

then-with-fits : (r : Result ℤ Decline) (go : ℤ → Course) → FitsResult r → ((v : ℤ) → Fits v → CourseFits (go v)) → CourseFits (then_with r go)
then-with-fits (Ok v) go fits next = next v fits
then-with-fits (Err d) go fits next = tt

then-run-fits : (o : Course) (go : List Row → Course) → CourseFits o → ((rows : List Row) → AllFit rows → CourseFits (go rows)) → CourseFits (then_run o go)
then-run-fits (ended rows) go fits next = next rows fits
then-run-fits (returned v rows) go fits next = fits
then-run-fits (refused d) go fits next = tt

course-fits : (program : Program) (rows : List Row) → IsTrue (has_small_numbers program) → AllFit rows → CourseFits (course_of program rows)
course-fits end rows small fit = fit
course-fits (assign n e next) rows small fit =
    let parts = and_parts (is_of_small_numbers e) (has_small_numbers next) small in
    then-with-fits (value_of e rows) _ (expression-fits e rows parts.0 fit)
    (λ v h. course-fits next (with_row rows n v) parts.1 (with-row-fits rows n v fit h))
course-fits (require e next) rows small fit =
    let parts = and_parts (is_of_small_numbers e) (has_small_numbers next) small in
    then-with-fits (value_of e rows) _ (expression-fits e rows parts.0 fit)
    (λ v h. if_case CourseFits (holds v) (λ met. course-fits next rows parts.1 fit) (λ unmet_now. tt))
course-fits (certain n next) rows small fit = course-fits next rows small fit
course-fits (return e next) rows small fit =
    let parts = and_parts (is_of_small_numbers e) (has_small_numbers next) small in
    then-with-fits (value_of e rows) _ (expression-fits e rows parts.0 fit) (λ v h. (h, fit))
course-fits (when e body next) rows small fit =
    let parts = and_parts (is_of_small_numbers e) (has_small_numbers body && has_small_numbers next) small in
    let later = and_parts (has_small_numbers body) (has_small_numbers next) parts.1 in
    then-with-fits (value_of e rows) _ (expression-fits e rows parts.0 fit)
    (λ v h. then-run-fits (if holds v then course_of body rows else ended rows) (course_of next)
    (if_case CourseFits (holds v) (λ met. course-fits body rows later.0 fit) (λ passed. fit))
    (λ left fits. course-fits next left later.1 fits))
course-fits (when_else e body other next) rows small fit =
    let parts = and_parts (is_of_small_numbers e) (has_small_numbers body && (has_small_numbers other && has_small_numbers next)) small in
    let later = and_parts (has_small_numbers body) (has_small_numbers other && has_small_numbers next) parts.1 in
    let last = and_parts (has_small_numbers other) (has_small_numbers next) later.1 in
    then-with-fits (value_of e rows) _ (expression-fits e rows parts.0 fit)
    (λ v h. then-run-fits (if holds v then course_of body rows else course_of other rows) (course_of next)
    (if_case CourseFits (holds v) (λ met. course-fits body rows later.0 fit) (λ passed. course-fits other rows last.0 fit))
    (λ left fits. course-fits next left last.1 fits))

effect-fits : (before : List Row) (o : Course) → AllFit before → CourseFits o → AllFit (effect_of before o).rows
effect-fits before (ended rows) fit fits = fits
effect-fits before (returned v rows) fit fits = fits.1
effect-fits before (refused d) fit fits = fit

pub exec-fits : (program : Program) (rows : List Row) → IsTrue (has_small_numbers program) → AllFit rows → AllFit (exec program rows).rows
unfolding exec
exec-fits program rows small fit = effect-fits rows (course_of program rows) fit (course-fits program rows small fit)

-- A reply that is a number fits.
abbrev pub ReplyFits : Reply → Type 0
ReplyFits (Value v) = Fits v
ReplyFits other = ⊤

effect-reply : (before : List Row) (o : Course) → CourseFits o → ReplyFits (effect_of before o).reply
effect-reply before (ended rows) fits = tt
effect-reply before (returned v rows) fits = fits.0
effect-reply before (refused d) fits = tt

pub reply-fits : (program : Program) (rows : List Row) → IsTrue (has_small_numbers program) → AllFit rows → ReplyFits (exec program rows).reply
unfolding exec
reply-fits program rows small fit = effect-reply rows (course_of program rows) (course-fits program rows small fit)

-- Rows as lists of what they have.

pub all-fit : (rows : List Row) → ((row : Row) → Contains rows row → Fits row.value) → AllFit rows
all-fit [] each = tt
all-fit (row ∷ rows) each = (each row (Contains-first row rows), all-fit rows (λ other h. each other (Contains-behind row rows other h)))

pub fit-each : (rows : List Row) → AllFit rows → (row : Row) → Contains rows row → Fits row.value
fit-each [] fit row h = absurd (Contains-nil row h)
fit-each (first ∷ rows) fit row h =
    ⊎_elim (λ same. subst (λ z. Fits z.value) same fit.0) (λ behind. fit-each rows fit.1 row behind) (Contains-cases first rows row h)
