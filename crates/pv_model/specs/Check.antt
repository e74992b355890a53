-- What a program is checked for before it runs, and the plan of what it wants of each site.
use Rattle.std.specs.Prelude.{◌≡◌, ℕ, ◌<◌, Bool, true, false, ◌||◌, ◌==◌, List, map, length, slice_get, Some, All, IsTrue}
use Rattle.std.specs.List.{AllPairs, Any, Contains}
use Rattle.pv_base.specs.Want.{Want}
use Rattle.pv_base.specs.Catalog.{Item}
use Rattle.pv_model.specs.Syntax.{Expr, number, item, minus, negation, two, Program, end, assign, require, certain, return, when, when_else}
use Rattle.pv_model.specs.ProgramLaws.{assigns}

-- The expression names the item.
abbrev pub reads : Expr → ℕ → Bool
reads (number z) n = false
reads (item m) n = m == n
reads (minus e) n = reads e n
reads (negation e) n = reads e n
reads (two op left right) n = reads left n || reads right n

-- The program names the item: by an assignment, in an expression, or where it requires that the item be certain.
abbrev pub names_item : Program → ℕ → Bool
names_item end n = false
names_item (assign m e next) n = (m == n) || (reads e n || names_item next n)
names_item (require e next) n = reads e n || names_item next n
names_item (certain m next) n = (m == n) || names_item next n
names_item (return e next) n = reads e n || names_item next n
names_item (when e body next) n = reads e n || (names_item body n || names_item next n)
names_item (when_else e body other next) n = reads e n || (names_item body n || (names_item other n || names_item next n))

-- Some statement of the program, wherever it stands, requires that the item be certain.
abbrev pub requires_certain : Program → ℕ → Bool
requires_certain end n = false
requires_certain (assign m e next) n = requires_certain next n
requires_certain (require e next) n = requires_certain next n
requires_certain (certain m next) n = (m == n) || requires_certain next n
requires_certain (return e next) n = requires_certain next n
requires_certain (when e body next) n = requires_certain body n || requires_certain next n
requires_certain (when_else e body other next) n = requires_certain body n || (requires_certain other n || requires_certain next n)

-- The list is of the items that the program names, in their order, each once.
pub record AreItems (program : Program) (items : List ℕ) : Type 0 where
  pub ascending : AllPairs (λ n later. n < later) items
  pub each : All (λ n. IsTrue (names_item program n)) items
  pub whole : (n : ℕ) → IsTrue (names_item program n) → Contains items n

-- Some assignment stands in the program.
abbrev pub has_assignment : Program → Bool
has_assignment end = false
has_assignment (assign m e next) = true
has_assignment (require e next) = has_assignment next
has_assignment (certain m next) = has_assignment next
has_assignment (return e next) = has_assignment next
has_assignment (when e body next) = has_assignment body || has_assignment next
has_assignment (when_else e body other next) = has_assignment body || (has_assignment other || has_assignment next)

-- Some `return` stands in the program.
abbrev pub has_return : Program → Bool
has_return end = false
has_return (assign m e next) = has_return next
has_return (require e next) = has_return next
has_return (certain m next) = has_return next
has_return (return e next) = true
has_return (when e body next) = has_return body || has_return next
has_return (when_else e body other next) = has_return body || (has_return other || has_return next)

-- what a program wants of one site
pub record Part : Type 0 where
  pub site : ℕ
  pub wants : List Want

-- The item is at the site, as the catalog's items say.
abbrev pub IsAt : List Item → ℕ → ℕ → Type 0
IsAt items n site = slice_get (map (λ declared. declared.site) items) n ≡ Some site

-- The want is of an item of the site that the program names, and exclusive exactly where some assignment names it.
pub record IsWant (program : Program) (items : List Item) (site : ℕ) (want : Want) : Type 0 where
  pub named : IsTrue (names_item program want.item)
  pub home : IsAt items want.item site
  pub exclusive : want.exclusive ≡ assigns program want.item

-- The part has wants of its site, in the order of the items, each item once.
pub record IsPart (program : Program) (items : List Item) (part : Part) : Type 0 where
  pub some : 0 < length part.wants
  pub ascending : AllPairs (λ want later. want.item < later.item) part.wants
  pub each : All (IsWant program items part.site) part.wants

-- The parts are in the order of the sites, each site once, and they have a want of each item that the program names.
pub record IsPlan (program : Program) (items : List Item) (parts : List Part) : Type 0 where
  pub ascending : AllPairs (λ part later. part.site < later.site) parts
  pub each : All (IsPart program items) parts
  pub whole : (n : ℕ) → IsTrue (names_item program n) → Any (λ part. Contains part.wants (record { item = n; exclusive = assigns program n })) parts
