-- Whether a plan is the one that a program has.
use Rattle.std.specs.Prelude.{◌≡◌, ℕ, zero, suc, ◌+◌, ◌<◌, Bool, true, false, not, ◌==◌, ◌&&◌, ◌||◌, nat_lt, List, [], ◌∷◌, map, slice_get, length, Option, Some, None, IsTrue, if◌then◌else◌}
use Rattle.std.specs.Bool.{beq}
use Rattle.std.specs.Cmp.Lexicographic.{pointwise}
use Rattle.std.specs.List.{cons_option, list_any}
use Rattle.pv_base.specs.Catalog.{Item}
use Rattle.pv_base.specs.Want.{Want}
use Rattle.pv_base.specs.declared.limits.TheConstants.{MAX_PROGRAM_ITEMS}
use Rattle.pv_check.specs.CheckRefusal.{check_refusal}
use Rattle.pv_check.specs.Marks.{is_named, mark_at}
use Rattle.pv_check.specs.Wants.{is_home_site, marked_want}
use Rattle.pv_check.specs.declared.marks.Mark.{Mark}
use Rattle.pv_model.specs.Check.{Part, names_item, AreItems}
use Rattle.pv_model.specs.Plan.{plan_of}
use Rattle.pv_model.specs.Syntax.{Expr, number, item, minus, negation, two, Program, end, assign, require, certain, return, when, when_else}

-- The program, which is no query, names items of the catalog alone, some and not too many, and these are the parts of its plan.
pub record HasPlan (program : Program) (items : List Item) (parts : List Part) : Type 0 where
  pub known : (n : ℕ) → IsTrue (names_item program n) → n < length items
  pub allowed : (named : List ℕ) → AreItems program named → check_refusal MAX_PROGRAM_ITEMS (length named) program false ≡ None
  pub plan : parts ≡ plan_of program items

-- The items that the expression names are below this one.
abbrev pub reads_below : ℕ → Expr → Bool
reads_below limit (number z) = true
reads_below limit (item n) = nat_lt n limit
reads_below limit (minus e) = reads_below limit e
reads_below limit (negation e) = reads_below limit e
reads_below limit (two op left right) = reads_below limit left && reads_below limit right

-- The items that the program names are.
abbrev pub names_below : ℕ → Program → Bool
names_below limit end = true
names_below limit (assign n e next) = nat_lt n limit && (reads_below limit e && names_below limit next)
names_below limit (require e next) = reads_below limit e && names_below limit next
names_below limit (certain n next) = nat_lt n limit && names_below limit next
names_below limit (return e next) = reads_below limit e && names_below limit next
names_below limit (when e body next) = reads_below limit e && (names_below limit body && names_below limit next)
names_below limit (when_else e body other next) =
    reads_below limit e && (names_below limit body && (names_below limit other && names_below limit next))

-- the site of the item, if there is one
abbrev pub home_of : List Item → ℕ → Option ℕ
home_of items n = slice_get (map (λ (declared : Item). declared.site) items) n

-- what is wanted of the item with this mark, if it is of the site
abbrev pub wanted_at : List Mark → ℕ → Option ℕ → ℕ → Option Want
wanted_at marks site home n = if is_home_site home site && is_named (mark_at marks n) then Some (marked_want marks n) else None

-- what is wanted of the site's items, among so many from this one on
abbrev pub wants_between : List Item → List Mark → ℕ → ℕ → ℕ → List Want
wants_between items marks site n zero = []
wants_between items marks site n (suc count) = cons_option (wanted_at marks site (home_of items n) n) (wants_between items marks site (n + 1) count)

-- Both are of one item, in one mode.
abbrev pub is_same_want : Want → Want → Bool
is_same_want want other = want.item == other.item && beq want.exclusive other.exclusive

-- The part is what is wanted of its site, which is something.
abbrev pub is_own_part : (ℕ → List Want) → Part → Bool
is_own_part wants part = nat_lt 0 (length part.wants) && pointwise is_same_want part.wants (wants part.site)

-- So is each part, and their sites ascend, from this one on.
abbrev pub are_own_parts : (ℕ → List Want) → ℕ → List Part → Bool
are_own_parts wants least [] = true
are_own_parts wants least (part ∷ parts) = not (nat_lt part.site least) && (is_own_part wants part && are_own_parts wants (part.site + 1) parts)

-- One of the parts is of this site, if it is one.
abbrev pub has_part : List Part → Option ℕ → Bool
has_part parts None = false
has_part parts (Some home) = list_any (λ (part : Part). part.site == home) parts

-- The site of each marked item has a part, among so many items from this one on.
abbrev pub are_covered : List Item → List Mark → List Part → ℕ → ℕ → Bool
are_covered items marks parts n zero = true
are_covered items marks parts n (suc count) =
    (not (is_named (mark_at marks n)) || has_part parts (home_of items n)) && are_covered items marks parts (n + 1) count
