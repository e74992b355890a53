-- The marks that one reading of a program leaves on the items that it names.
use Rattle.std.specs.Prelude.{◌≡◌, ℕ, Bool, true, false, List, slice_index_or, slice_set, IsTrue}
use Rattle.pv_model.specs.Syntax.{Expr, number, item, minus, negation, two, Program, end, assign, require, certain, return, when, when_else}
use Rattle.pv_model.specs.ProgramLaws.{assigns}
use Rattle.pv_model.specs.Check.{names_item}
use Rattle.pv_check.specs.declared.marks.Mark.{Mark}
use Rattle.pv_check.specs.declared.marks.Mark.TheVariants.{Unnamed, Shared, Exclusive}

-- The mark says that the item is named.
abbrev pub is_named : Mark → Bool
is_named Unnamed = false
is_named Shared = true
is_named Exclusive = true

-- The mark says that the item is assigned.
abbrev pub is_exclusive : Mark → Bool
is_exclusive Unnamed = false
is_exclusive Shared = false
is_exclusive Exclusive = true

-- the item's mark
abbrev pub mark_at : List Mark → ℕ → Mark
mark_at marks n = slice_index_or marks n Unnamed

-- the mark of an item that is read once more
abbrev pub read_of : Mark → Mark
read_of Unnamed = Shared
read_of Shared = Shared
read_of Exclusive = Exclusive

-- the marks once the item is read
abbrev pub with_read : List Mark → ℕ → List Mark
with_read marks n = slice_set marks n (read_of (mark_at marks n))

-- the marks once the item is assigned
abbrev pub with_assigned : List Mark → ℕ → List Mark
with_assigned marks n = slice_set marks n Exclusive

-- the marks once the expression is read
abbrev pub marks_after_expr : Expr → List Mark → List Mark
marks_after_expr (number z) marks = marks
marks_after_expr (item m) marks = with_read marks m
marks_after_expr (minus e) marks = marks_after_expr e marks
marks_after_expr (negation e) marks = marks_after_expr e marks
marks_after_expr (two op left right) marks = marks_after_expr right (marks_after_expr left marks)

-- the marks once the program is read
abbrev pub marks_after : Program → List Mark → List Mark
marks_after end marks = marks
marks_after (assign m e next) marks = marks_after next (with_assigned (marks_after_expr e marks) m)
marks_after (require e next) marks = marks_after next (marks_after_expr e marks)
marks_after (certain m next) marks = marks_after next (with_read marks m)
marks_after (return e next) marks = marks_after next (marks_after_expr e marks)
marks_after (when e body next) marks = marks_after next (marks_after body (marks_after_expr e marks))
marks_after (when_else e body other next) marks =
    marks_after next (marks_after other (marks_after body (marks_after_expr e marks)))

-- The marks say of each item whether the program names it, and of one that it names whether it assigns it.
pub record AreMarks (program : Program) (marks : List Mark) : Type 0 where
  pub named : (n : ℕ) → is_named (mark_at marks n) ≡ names_item program n
  pub exclusive : (n : ℕ) → IsTrue (names_item program n) → is_exclusive (mark_at marks n) ≡ assigns program n
