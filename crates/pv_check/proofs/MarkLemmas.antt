-- The marks that a program leaves say what it names and what it assigns.
use Rattle.std.proofs.Common.{◌≡◌, ⊎_elim, ℕ, ◌<◌, ◌≤◌, Bool, true, false, List, length, take, slice_set, replicate, refl, sym, ap, ◌∙◌, arith}
use Rattle.std.specs.Prelude.{◌||◌, ◌==◌, IsTrue}
use Rattle.std.proofs.lemmas.Bool.{cases_eq, cases_lt, eq-eqb, ne_eqb, false_from_ne_true}
use Rattle.std.proofs.Math.Bool.{or_assoc, or_comm}
use Rattle.std.proofs.lemmas.List.{length-set, length-replicate, length-take, get_or-set_same, get_or-set_other, get_or-replicate, get_or-take, get_or_past}
use Rattle.pv_model.specs.Syntax.{Expr, number, item, minus, negation, two, Program, end, assign, require, certain, return, when, when_else}
use Rattle.pv_model.specs.ProgramLaws.{assigns}
use Rattle.pv_model.specs.Check.{reads, names_item}
use Rattle.pv_check.specs.declared.marks.Mark.{Mark}
use Rattle.pv_check.specs.declared.marks.Mark.TheVariants.{Unnamed, Shared, Exclusive}
use Rattle.pv_check.specs.Marks.{is_named, is_exclusive, mark_at, read_of, with_read, with_assigned, marks_after_expr, marks_after, AreMarks}

or-false : (b : Bool) → b ≡ (b || false)
or-false true = refl
or-false false = refl

or-true : (b : Bool) → true ≡ (b || true)
or-true true = refl
or-true false = refl

-- One test and then another.
or-then : (x a b : Bool) {y z : Bool} → y ≡ (x || a) → z ≡ (y || b) → z ≡ (x || (a || b))
or-then x a b h k = k ∙ ap (λ (t : Bool). t || b) h ∙ or_assoc x a b

-- As above, where the second test is decided first.
or-before : (x a b : Bool) {y z : Bool} → y ≡ (x || a) → z ≡ (y || b) → z ≡ (x || (b || a))
or-before x a b h k = or-then x a b h k ∙ ap (λ (t : Bool). x || t) (or_comm a b)

-- Three tests, grouped to the right.
or-right : (x a b c : Bool) {z : Bool} → z ≡ (x || ((a || b) || c)) → z ≡ (x || (a || (b || c)))
or-right x a b c h = h ∙ ap (λ (t : Bool). x || t) (or_assoc a b c)

-- The marks are as many as before.

length-expr : (e : Expr) (marks : List Mark) → length (marks_after_expr e marks) ≡ length marks
length-expr (number z) marks = refl
length-expr (item m) marks = length-set marks m _
length-expr (minus e) marks = length-expr e marks
length-expr (negation e) marks = length-expr e marks
length-expr (two op left right) marks = length-expr right (marks_after_expr left marks) ∙ length-expr left marks

length-assigned : (e : Expr) (m : ℕ) (marks : List Mark) → length (with_assigned (marks_after_expr e marks) m) ≡ length marks
length-assigned e m marks = length-set (marks_after_expr e marks) m Exclusive ∙ length-expr e marks

pub length-program : (program : Program) (marks : List Mark) → length (marks_after program marks) ≡ length marks
length-program end marks = refl
length-program (assign m e next) marks = length-program next _ ∙ length-assigned e m marks
length-program (require e next) marks = length-program next _ ∙ length-expr e marks
length-program (certain m next) marks = length-program next _ ∙ length-expr (item m) marks
length-program (return e next) marks = length-program next _ ∙ length-expr e marks
length-program (when e body next) marks = length-program next _ ∙ length-program body _ ∙ length-expr e marks
length-program (when_else e body other next) marks =
    length-program next _ ∙ length-program other _ ∙ length-program body _ ∙ length-expr e marks

-- One item is read or assigned.

named-read_of : (mark : Mark) → is_named (read_of mark) ≡ true
named-read_of Unnamed = refl
named-read_of Shared = refl
named-read_of Exclusive = refl

exclusive-read_of : (mark : Mark) → is_exclusive (read_of mark) ≡ is_exclusive mark
exclusive-read_of Unnamed = refl
exclusive-read_of Shared = refl
exclusive-read_of Exclusive = refl

-- the item's mark after another item's
at_other : (marks : List Mark) (m n : ℕ) (mark : Mark) → (m ≡ n → ⊥) → mark_at (slice_set marks m mark) n ≡ mark_at marks n
at_other marks m n mark other = get_or-set_other marks m n mark Unnamed (λ e. other (sym e))

-- the item's mark after its own
at_same : (marks : List Mark) (m n : ℕ) (mark : Mark) → m ≡ n → n < length marks → mark_at (slice_set marks m mark) n ≡ mark
at_same marks m n mark same within =
    ap (λ (k : ℕ). mark_at (slice_set marks m mark) k) (sym same) ∙ get_or-set_same marks m mark Unnamed (omega arith)

-- A test that is true of the new mark, at the item, and is at each other item as before.
set-tested : (test : Mark → Bool) (marks : List Mark) (m n : ℕ) (mark : Mark) → n < length marks → test mark ≡ true
    → test (mark_at (slice_set marks m mark) n) ≡ (test (mark_at marks n) || (m == n))
set-tested test marks m n mark within is =
    ⊎_elim
    (λ same. ap test (at_same marks m n mark same within) ∙ is ∙ or-true (test (mark_at marks n))
    ∙ ap (λ (b : Bool). test (mark_at marks n) || b) (sym (eq-eqb m n same)))
    (λ other. ap test (at_other marks m n mark other) ∙ or-false (test (mark_at marks n))
    ∙ ap (λ (b : Bool). test (mark_at marks n) || b) (sym (ne_eqb m n other)))
    (cases_eq m n)

exclusive-read : (marks : List Mark) (m n : ℕ) → n < length marks
    → is_exclusive (mark_at (with_read marks m) n) ≡ is_exclusive (mark_at marks n)
exclusive-read marks m n within =
    ⊎_elim
    (λ same. ap is_exclusive (at_same marks m n (read_of (mark_at marks m)) same within) ∙ exclusive-read_of (mark_at marks m)
    ∙ ap (λ (k : ℕ). is_exclusive (mark_at marks k)) same)
    (λ other. ap is_exclusive (at_other marks m n (read_of (mark_at marks m)) other))
    (cases_eq m n)

-- An expression is read.

named-expr : (e : Expr) (marks : List Mark) (n : ℕ) → n < length marks
    → is_named (mark_at (marks_after_expr e marks) n) ≡ (is_named (mark_at marks n) || reads e n)
named-expr (number z) marks n within = or-false (is_named (mark_at marks n))
named-expr (item m) marks n within =
    set-tested is_named marks m n (read_of (mark_at marks m)) within (named-read_of (mark_at marks m))
named-expr (minus e) marks n within = named-expr e marks n within
named-expr (negation e) marks n within = named-expr e marks n within
named-expr (two op left right) marks n within =
    or-then (is_named (mark_at marks n)) (reads left n) (reads right n) (named-expr left marks n within)
    (named-expr right (marks_after_expr left marks) n (omega (arith, within, length-expr left marks)))

exclusive-expr : (e : Expr) (marks : List Mark) (n : ℕ) → n < length marks
    → is_exclusive (mark_at (marks_after_expr e marks) n) ≡ is_exclusive (mark_at marks n)
exclusive-expr (number z) marks n within = refl
exclusive-expr (item m) marks n within = exclusive-read marks m n within
exclusive-expr (minus e) marks n within = exclusive-expr e marks n within
exclusive-expr (negation e) marks n within = exclusive-expr e marks n within
exclusive-expr (two op left right) marks n within =
    exclusive-expr right (marks_after_expr left marks) n (omega (arith, within, length-expr left marks))
    ∙ exclusive-expr left marks n within

-- A program is read.

named-program : (program : Program) (marks : List Mark) (n : ℕ) → n < length marks
    → is_named (mark_at (marks_after program marks) n) ≡ (is_named (mark_at marks n) || names_item program n)
named-program end marks n within = or-false (is_named (mark_at marks n))
named-program (assign m e next) marks n within =
    let was = is_named (mark_at marks n) in
    let read = marks_after_expr e marks in
    let here : n < length read = omega (arith, within, length-expr e marks) in
    or-right was (m == n) (reads e n) (names_item next n)
    (or-then was ((m == n) || reads e n) (names_item next n)
    (or-before was (reads e n) (m == n) (named-expr e marks n within) (set-tested is_named read m n Exclusive here refl))
    (named-program next (with_assigned read m) n (omega (arith, within, length-assigned e m marks))))
named-program (require e next) marks n within =
    or-then (is_named (mark_at marks n)) (reads e n) (names_item next n) (named-expr e marks n within)
    (named-program next (marks_after_expr e marks) n (omega (arith, within, length-expr e marks)))
named-program (certain m next) marks n within =
    or-then (is_named (mark_at marks n)) (m == n) (names_item next n) (named-expr (item m) marks n within)
    (named-program next (with_read marks m) n (omega (arith, within, length-expr (item m) marks)))
named-program (return e next) marks n within =
    or-then (is_named (mark_at marks n)) (reads e n) (names_item next n) (named-expr e marks n within)
    (named-program next (marks_after_expr e marks) n (omega (arith, within, length-expr e marks)))
named-program (when e body next) marks n within =
    let was = is_named (mark_at marks n) in
    let read = marks_after_expr e marks in
    let here : n < length read = omega (arith, within, length-expr e marks) in
    or-right was (reads e n) (names_item body n) (names_item next n)
    (or-then was (reads e n || names_item body n) (names_item next n)
    (or-then was (reads e n) (names_item body n) (named-expr e marks n within) (named-program body read n here))
    (named-program next (marks_after body read) n (omega (arith, here, length-program body read))))
named-program (when_else e body other next) marks n within =
    let was = is_named (mark_at marks n) in
    let read = marks_after_expr e marks in
    let here : n < length read = omega (arith, within, length-expr e marks) in
    let first = marks_after body read in
    let there : n < length first = omega (arith, here, length-program body read) in
    or-then was (reads e n) (names_item body n || (names_item other n || names_item next n))
    (named-expr e marks n within)
    (or-right (is_named (mark_at read n)) (names_item body n) (names_item other n) (names_item next n)
    (or-then (is_named (mark_at read n)) (names_item body n || names_item other n) (names_item next n)
    (or-then (is_named (mark_at read n)) (names_item body n) (names_item other n) (named-program body read n here) (named-program other first n there))
    (named-program next (marks_after other first) n (omega (arith, there, length-program other first)))))

-- The test of an assigned item, behind an expression that is read.
exclusive-behind : (e : Expr) (marks : List Mark) (n : ℕ) (b : Bool) {z : Bool} → n < length marks
    → z ≡ (is_exclusive (mark_at (marks_after_expr e marks) n) || b) → z ≡ (is_exclusive (mark_at marks n) || b)
exclusive-behind e marks n b within h = h ∙ ap (λ (t : Bool). t || b) (exclusive-expr e marks n within)

exclusive-program : (program : Program) (marks : List Mark) (n : ℕ) → n < length marks
    → is_exclusive (mark_at (marks_after program marks) n) ≡ (is_exclusive (mark_at marks n) || assigns program n)
exclusive-program end marks n within = or-false (is_exclusive (mark_at marks n))
exclusive-program (assign m e next) marks n within =
    let read = marks_after_expr e marks in
    let here : n < length read = omega (arith, within, length-expr e marks) in
    or-then (is_exclusive (mark_at marks n)) (m == n) (assigns next n)
    (exclusive-behind e marks n (m == n) within (set-tested is_exclusive read m n Exclusive here refl))
    (exclusive-program next (with_assigned read m) n (omega (arith, within, length-assigned e m marks)))
exclusive-program (require e next) marks n within =
    exclusive-behind e marks n (assigns next n) within
    (exclusive-program next (marks_after_expr e marks) n (omega (arith, within, length-expr e marks)))
exclusive-program (certain m next) marks n within =
    exclusive-behind (item m) marks n (assigns next n) within
    (exclusive-program next (with_read marks m) n (omega (arith, within, length-expr (item m) marks)))
exclusive-program (return e next) marks n within =
    exclusive-behind e marks n (assigns next n) within
    (exclusive-program next (marks_after_expr e marks) n (omega (arith, within, length-expr e marks)))
exclusive-program (when e body next) marks n within =
    let read = marks_after_expr e marks in
    let here : n < length read = omega (arith, within, length-expr e marks) in
    or-then (is_exclusive (mark_at marks n)) (assigns body n) (assigns next n)
    (exclusive-behind e marks n (assigns body n) within (exclusive-program body read n here))
    (exclusive-program next (marks_after body read) n (omega (arith, here, length-program body read)))
exclusive-program (when_else e body other next) marks n within =
    let was = is_exclusive (mark_at marks n) in
    let read = marks_after_expr e marks in
    let here : n < length read = omega (arith, within, length-expr e marks) in
    let first = marks_after body read in
    let there : n < length first = omega (arith, here, length-program body read) in
    or-right was (assigns body n) (assigns other n) (assigns next n)
    (or-then was (assigns body n || assigns other n) (assigns next n)
    (or-then was (assigns body n) (assigns other n)
    (exclusive-behind e marks n (assigns body n) within (exclusive-program body read n here))
    (exclusive-program other first n there))
    (exclusive-program next (marks_after other first) n (omega (arith, there, length-program other first))))

-- In a table without marks.

unmarked : (count n : ℕ) → mark_at (replicate count Unnamed) n ≡ Unnamed
unmarked count n =
    ⊎_elim
    (λ within. get_or-replicate count n Unnamed Unnamed within)
    (λ past. get_or_past (replicate count Unnamed) n Unnamed (omega (arith, past, length-replicate count Unnamed)))
    (cases_lt n count)

-- the length of the table afterwards
length-marked : (program : Program) (count : ℕ) → length (marks_after program (replicate count Unnamed)) ≡ count
length-marked program count = length-program program (replicate count Unnamed) ∙ length-replicate count Unnamed

named-fresh : (program : Program) (count n : ℕ) → n < count
    → is_named (mark_at (marks_after program (replicate count Unnamed)) n) ≡ names_item program n
named-fresh program count n within =
    named-program program (replicate count Unnamed) n (omega (arith, within, length-replicate count Unnamed))
    ∙ ap (λ (mark : Mark). is_named mark || names_item program n) (unmarked count n)

named-past : (program : Program) (count n : ℕ) → count ≤ n → (IsTrue (names_item program n) → n < count)
    → is_named (mark_at (marks_after program (replicate count Unnamed)) n) ≡ names_item program n
named-past program count n past known =
    ap is_named (get_or_past (marks_after program (replicate count Unnamed)) n Unnamed (omega (arith, past, length-marked program count)))
    ∙ sym (false_from_ne_true (names_item program n) (λ is. absurd (omega (arith, past, known is))))

exclusive-fresh : (program : Program) (count n : ℕ) → n < count
    → is_exclusive (mark_at (marks_after program (replicate count Unnamed)) n) ≡ assigns program n
exclusive-fresh program count n within =
    exclusive-program program (replicate count Unnamed) n (omega (arith, within, length-replicate count Unnamed))
    ∙ ap (λ (mark : Mark). is_exclusive mark || assigns program n) (unmarked count n)

-- The marks that a program leaves are its marks, where the table has room for each item that it names.
pub AreMarks-fresh : (program : Program) (count : ℕ) → ((n : ℕ) → IsTrue (names_item program n) → n < count)
    → AreMarks program (marks_after program (replicate count Unnamed))
AreMarks-fresh program count known = record {
  named = λ n.
      ⊎_elim
      (λ within. named-fresh program count n within)
      (λ past. named-past program count n past (known n))
      (cases_lt n count);
  exclusive = λ n named. exclusive-fresh program count n (known n named);
}

-- The first marks of a table, as many as there are items.

unnamed-past : (program : Program) (marks : List Mark) (count n : ℕ) → count ≤ n → (IsTrue (names_item program n) → n < count)
    → is_named (mark_at (take count marks) n) ≡ names_item program n
unnamed-past program marks count n past known =
    ap is_named (get_or_past (take count marks) n Unnamed (omega (arith, past, length-take count marks)))
    ∙ sym (false_from_ne_true (names_item program n) (λ is. absurd (omega (arith, past, known is))))

-- The marks of the items that a program may name are its marks.
pub AreMarks-take : (program : Program) (marks : List Mark) (count : ℕ) → ((n : ℕ) → IsTrue (names_item program n) → n < count)
    → AreMarks program marks → AreMarks program (take count marks)
AreMarks-take program marks count known are = record {
  named = λ n.
      ⊎_elim
      (λ within. ap is_named (get_or-take count marks n Unnamed within) ∙ are.named n)
      (λ past. unnamed-past program marks count n past (known n))
      (cases_lt n count);
  exclusive = λ n named. ap is_exclusive (get_or-take count marks n Unnamed (known n named)) ∙ are.exclusive n named;
}
