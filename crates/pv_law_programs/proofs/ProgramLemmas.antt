-- What a program leaves alone, what stands behind a `return`, and that the order of the rows doesn't matter.
use Rattle.std.proofs.Common.{◌≡◌, ℕ, ℤ, pos, Bool, true, false, ◌||◌, cond, List, [], ◌∷◌, Result, Ok, Err, refl, sym, ap, ◌∙◌, subst, inl, inr}
use Rattle.std.specs.Prelude.{◌==◌}
use Rattle.std.proofs.Math.Bool.{or-true}
use Rattle.std.proofs.lemmas.Bool.{eqb-true, eq-eqb, cases_Bool}
use Rattle.pv_model.specs.Syntax.{Program, end, assign, require, certain, return, when, when_else}
use Rattle.pv_model.specs.Items.{lacks}
use Rattle.pv_base.specs.declared.reply.Decline.{Decline}
use Rattle.pv_base.specs.declared.reply.Decline.TheVariants.{Require}
use Rattle.pv_base.specs.declared.reply.Reply.TheVariants.{Value, Declined}
use Rattle.pv_model.specs.Meaning.{Row, items_of_rows, value_in, with_row, holds, value_of, Course, ended, returned, refused, then_with, then_run, course_of, effect_of, exec}
use Rattle.pv_model.specs.ProgramLaws.{assigns, followed}

-- ---- a decline

effect_of-declined : (rows : List Row) (o : Course) (d : Decline) → (effect_of rows o).reply ≡ Declined d → (effect_of rows o).rows ≡ rows
effect_of-declined rows (ended now) d is = absurd cc
effect_of-declined rows (returned v now) d is = absurd cc
effect_of-declined rows (refused e) d is = refl

pub decline_leaves_rows : (program : Program) (rows : List Row) (d : Decline) → (exec program rows).reply ≡ Declined d → (exec program rows).rows ≡ rows
unfolding exec
decline_leaves_rows program rows d is = effect_of-declined rows (course_of program rows) d is

-- ---- what holds of the rows of an outcome

abbrev OnRows : (List Row → Type 0) → Course → Type 0
OnRows P (ended rows) = P rows
OnRows P (returned v rows) = P rows
OnRows P (refused d) = Unit {0}

on-then_with : (P : List Row → Type 0) (r : Result ℤ Decline) (go : ℤ → Course) → ((v : ℤ) → OnRows P (go v)) → OnRows P (then_with r go)
on-then_with P (Ok v) go h = h v
on-then_with P (Err d) go h = tt

on-then_run : (P : List Row → Type 0) (o : Course) (go : List Row → Course) → OnRows P o → ((rows : List Row) → P rows → OnRows P (go rows)) → OnRows P (then_run o go)
on-then_run P (ended rows) go o h = h rows o
on-then_run P (returned v rows) go o h = o
on-then_run P (refused d) go o h = tt

on-cond : (P : List Row → Type 0) (b : Bool) (x y : Course) → OnRows P x → OnRows P y → OnRows P (cond b x y)
on-cond P true x y p q = p
on-cond P false x y p q = q

-- What each assignment keeps, the program keeps.
run-keeps : (P : List Row → Type 0) (program : Program)
    → ((n : ℕ) → assigns program n ≡ true → (rows : List Row) (v : ℤ) → P rows → P (with_row rows n v))
    → (rows : List Row) → P rows → OnRows P (course_of program rows)
run-keeps P end each rows p = p
run-keeps P (assign n e next) each rows p =
    on-then_with P (value_of e rows) _ (λ v. run-keeps P next (λ m is. each m (ap (λ (b : Bool). (n == m) || b) is ∙ or-true (n == m)))
    (with_row rows n v) (each n (ap (λ (b : Bool). b || assigns next n) (eq-eqb n n refl)) rows v p))
run-keeps P (require e next) each rows p =
    on-then_with P (value_of e rows) _ (λ v. on-cond P (holds v) _ (refused Require) (run-keeps P next each rows p) tt)
run-keeps P (certain n next) each rows p = run-keeps P next each rows p
run-keeps P (return e next) each rows p = on-then_with P (value_of e rows) _ (λ v. p)
run-keeps P (when e body next) each rows p =
    let of_body = λ (m : ℕ) (is : assigns body m ≡ true). each m (ap (λ (b : Bool). b || assigns next m) is) in
    let behind = λ (m : ℕ) (is : assigns next m ≡ true). each m (ap (λ (b : Bool). assigns body m || b) is ∙ or-true (assigns body m)) in
    on-then_with P (value_of e rows) _ (λ v. on-then_run P _ (course_of next)
    (on-cond P (holds v) (course_of body rows) (ended rows) (run-keeps P body of_body rows p) p)
    (λ now. run-keeps P next behind now))
run-keeps P (when_else e body other next) each rows p =
    let of_body = λ (m : ℕ) (is : assigns body m ≡ true). each m (ap (λ (b : Bool). b || (assigns other m || assigns next m)) is) in
    let later = λ (m : ℕ) (is : assigns other m || assigns next m ≡ true). each m (ap (λ (b : Bool). assigns body m || b) is ∙ or-true (assigns body m)) in
    let of_other = λ (m : ℕ) (is : assigns other m ≡ true). later m (ap (λ (b : Bool). b || assigns next m) is) in
    let behind = λ (m : ℕ) (is : assigns next m ≡ true). later m (ap (λ (b : Bool). assigns other m || b) is ∙ or-true (assigns other m)) in
    on-then_with P (value_of e rows) _ (λ v. on-then_run P _ (course_of next)
    (on-cond P (holds v) (course_of body rows) (course_of other rows) (run-keeps P body of_body rows p) (run-keeps P other of_other rows p))
    (λ now. run-keeps P next behind now))

effect_of-keeps : (P : List Row → Type 0) (rows : List Row) (o : Course) → P rows → OnRows P o → P (effect_of rows o).rows
effect_of-keeps P rows (ended now) p on = on
effect_of-keeps P rows (returned v now) p on = on
effect_of-keeps P rows (refused d) p on = p

exec-keeps : (P : List Row → Type 0) (program : Program)
    → ((n : ℕ) → assigns program n ≡ true → (rows : List Row) (v : ℤ) → P rows → P (with_row rows n v))
    → (rows : List Row) → P rows → P (exec program rows).rows
unfolding exec
exec-keeps P program each rows p = effect_of-keeps P rows (course_of program rows) p (run-keeps P program each rows p)

-- ---- giving an item a value

with_row-tested : (row : Row) (rows : List Row) (n : ℕ) (v : ℤ) (b : Bool) → (row.item == n) ≡ b
    → with_row (row ∷ rows) n v ≡ cond b (record { item = row.item; value = v } ∷ rows) (row ∷ with_row rows n v)
with_row-tested row rows n v b is = ap (λ (c : Bool). cond c (record { item = row.item; value = v } ∷ rows) (row ∷ with_row rows n v)) is

items-with_row : (rows : List Row) (n : ℕ) (v : ℤ) → items_of_rows (with_row rows n v) ≡ items_of_rows rows
items-with_row [] n v = refl
items-with_row (row ∷ rows) n v = elim (cases_Bool (row.item == n)) [
  | inl same ↦ ap items_of_rows (with_row-tested row rows n v true same)
  | inr other ↦ ap items_of_rows (with_row-tested row rows n v false other) ∙ ap (λ (l : List ℕ). row.item ∷ l) (items-with_row rows n v)
]

pub items_stay : (program : Program) (rows : List Row) → items_of_rows (exec program rows).rows ≡ items_of_rows rows
items_stay program rows =
    exec-keeps (λ (now : List Row). items_of_rows now ≡ items_of_rows rows) program (λ n is now v kept. items-with_row now n v ∙ kept) rows refl

-- a row's value, or that of the rows behind it
value_in-tested : (row : Row) (rows : List Row) (n : ℕ) (b : Bool) → (row.item == n) ≡ b → value_in (row ∷ rows) n ≡ cond b row.value (value_in rows n)
value_in-tested row rows n b is = ap (λ (c : Bool). cond c row.value (value_in rows n)) is

pub value_in-with_row-other : (rows : List Row) (n m : ℕ) (v : ℤ) → (n == m) ≡ false → value_in (with_row rows n v) m ≡ value_in rows m
value_in-with_row-other [] n m v other = refl
value_in-with_row-other (row ∷ rows) n m v other = elim (cases_Bool (row.item == n)) [
  | inl same ↦
      let elsewhere = subst (λ (k : ℕ). (k == m) ≡ false) (sym (eqb-true row.item n same)) other in
      ap (λ (l : List Row). value_in l m) (with_row-tested row rows n v true same)
      ∙ value_in-tested (record { item = row.item; value = v }) rows m false elsewhere
      ∙ sym (value_in-tested row rows m false elsewhere)
  | inr not_it ↦
      ap (λ (l : List Row). value_in l m) (with_row-tested row rows n v false not_it)
      ∙ ap (λ (z : ℤ). cond (row.item == m) row.value z) (value_in-with_row-other rows n m v other)
]

-- An item that is assigned isn't one that isn't.
assigned-other : (program : Program) (m n : ℕ) → assigns program m ≡ true → assigns program n ≡ false → (m == n) ≡ false
assigned-other program m n is isnt = elim (cases_Bool (m == n)) [
  | inl same ↦
      let clash = sym is ∙ ap (assigns program) (eqb-true m n same) ∙ isnt in
      absurd cc
  | inr other ↦ other
]

pub unassigned_keeps_value : (program : Program) (rows : List Row) (n : ℕ) → assigns program n ≡ false
    → value_in (exec program rows).rows n ≡ value_in rows n
unassigned_keeps_value program rows n spared =
    exec-keeps (λ (now : List Row). value_in now n ≡ value_in rows n) program
    (λ m is now v kept. value_in-with_row-other now m n v (assigned-other program m n is spared) ∙ kept) rows refl

-- ---- behind a `return`

then_with-then_run : (r : Result ℤ Decline) (go : ℤ → Course) (on : List Row → Course)
    → then_with r (λ v. then_run (go v) on) ≡ then_run (then_with r go) on
then_with-then_run (Ok v) go on = refl
then_with-then_run (Err d) go on = refl

then_run-then_run : (o : Course) (go on : List Row → Course) → then_run o (λ rows. then_run (go rows) on) ≡ then_run (then_run o go) on
then_run-then_run (ended rows) go on = refl
then_run-then_run (returned v rows) go on = refl
then_run-then_run (refused d) go on = refl

cond-then_run : (b : Bool) (x y : Course) (on : List Row → Course) → cond b (then_run x on) (then_run y on) ≡ then_run (cond b x y) on
cond-then_run true x y on = refl
cond-then_run false x y on = refl

-- one of two outcomes, and then what stands behind
chosen-followed : (r : Result ℤ Decline) (x y : Course) (go on both : List Row → Course) → ((rows : List Row) → both rows ≡ then_run (go rows) on)
    → then_with r (λ v. then_run (cond (holds v) x y) both) ≡ then_run (then_with r (λ v. then_run (cond (holds v) x y) go)) on
chosen-followed r x y go on both is =
    (λ i. then_with r (λ (v : ℤ). then_run (cond (holds v) x y) (λ (rows : List Row). is rows i)))
    ∙ (λ i. then_with r (λ (v : ℤ). then_run-then_run (cond (holds v) x y) go on i))
    ∙ then_with-then_run r (λ (v : ℤ). then_run (cond (holds v) x y) go) on

-- Programs run one behind the other.
pub run-followed : (program behind : Program) (rows : List Row) → course_of (followed program behind) rows ≡ then_run (course_of program rows) (course_of behind)
run-followed end behind rows = refl
run-followed (assign n e next) behind rows =
    (λ i. then_with (value_of e rows) (λ (v : ℤ). run-followed next behind (with_row rows n v) i))
    ∙ then_with-then_run (value_of e rows) (λ (v : ℤ). course_of next (with_row rows n v)) (course_of behind)
run-followed (require e next) behind rows =
    (λ i. then_with (value_of e rows) (λ (v : ℤ). (ap (λ (o : Course). cond (holds v) o (refused Require)) (run-followed next behind rows)
    ∙ cond-then_run (holds v) (course_of next rows) (refused Require) (course_of behind)) i))
    ∙ then_with-then_run (value_of e rows) (λ (v : ℤ). cond (holds v) (course_of next rows) (refused Require)) (course_of behind)
run-followed (certain n next) behind rows = run-followed next behind rows
run-followed (return e next) behind rows = then_with-then_run (value_of e rows) (λ (v : ℤ). returned v rows) (course_of behind)
run-followed (when e body next) behind rows =
    chosen-followed (value_of e rows) (course_of body rows) (ended rows) (course_of next) (course_of behind) (course_of (followed next behind)) (λ now. run-followed next behind now)
run-followed (when_else e body other next) behind rows =
    chosen-followed (value_of e rows) (course_of body rows) (course_of other rows) (course_of next) (course_of behind) (course_of (followed next behind)) (λ now. run-followed next behind now)

effect_of-returned : (rows : List Row) (o : Course) (on : List Row → Course) (v : ℤ) → (effect_of rows o).reply ≡ Value v
    → effect_of rows (then_run o on) ≡ effect_of rows o
effect_of-returned rows (ended now) on v is = absurd cc
effect_of-returned rows (returned w now) on v is = refl
effect_of-returned rows (refused d) on v is = absurd cc

pub return_is_last : (program behind : Program) (rows : List Row) (v : ℤ) → (exec program rows).reply ≡ Value v
    → exec (followed program behind) rows ≡ exec program rows
unfolding exec
return_is_last program behind rows v is =
    ap (effect_of rows) (run-followed program behind rows) ∙ effect_of-returned rows (course_of program rows) (course_of behind) v is

-- ---- what a new value of an item changes

lacks-tested : (row : Row) (rows : List Row) (n : ℕ) (b : Bool) → (row.item == n) ≡ b → lacks (row ∷ rows) n ≡ cond b false (lacks rows n)
lacks-tested row rows n b is = ap (λ (c : Bool). cond c false (lacks rows n)) is

pub lacks-with_row : (rows : List Row) (n m : ℕ) (v : ℤ) → lacks (with_row rows n v) m ≡ lacks rows m
lacks-with_row [] n m v = refl
lacks-with_row (row ∷ rows) n m v = elim (cases_Bool (row.item == n)) [
  | inl same ↦
      ap (λ (l : List Row). lacks l m) (with_row-tested row rows n v true same)
  | inr other ↦
      ap (λ (l : List Row). lacks l m) (with_row-tested row rows n v false other)
      ∙ ap (λ (b : Bool). cond (row.item == m) false b) (lacks-with_row rows n m v)
]

pub value_in-with_row-same : (rows : List Row) (n m : ℕ) (v : ℤ) → (n == m) ≡ true → value_in (with_row rows n v) m ≡ cond (lacks rows n) (pos 0) v
value_in-with_row-same [] n m v is = refl
value_in-with_row-same (row ∷ rows) n m v is = elim (cases_Bool (row.item == n)) [
  | inl same ↦
      ap (λ (l : List Row). value_in l m) (with_row-tested row rows n v true same)
      ∙ value_in-tested (record { item = row.item; value = v }) rows m true (subst (λ (k : ℕ). (k == m) ≡ true) (sym (eqb-true row.item n same)) is)
      ∙ ap (λ (b : Bool). cond b (pos 0) v) (sym (lacks-tested row rows n true same))
  | inr other ↦
      ap (λ (l : List Row). value_in l m) (with_row-tested row rows n v false other)
      ∙ value_in-tested row (with_row rows n v) m false (subst (λ (k : ℕ). (row.item == k) ≡ false) (eqb-true n m is) other)
      ∙ value_in-with_row-same rows n m v is
      ∙ ap (λ (b : Bool). cond b (pos 0) v) (sym (lacks-tested row rows n false other))
]
