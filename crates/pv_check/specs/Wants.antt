-- What a program wants of the items that it names, and how these wants lie at the sites.
use Rattle.std.specs.Prelude.{◌≡◌, ℕ, zero, suc, ◌<◌, Bool, false, ◌==◌, List, [], ◌∷◌, ◌++◌, map, slice_get, Option, Some, None, All, IsTrue, if◌then◌else◌}
use Rattle.std.specs.List.{AllPairs, Contains, filter}
use Rattle.pv_base.specs.Want.{Want}
use Rattle.pv_base.specs.Catalog.{Item}
use Rattle.pv_model.specs.Syntax.{Program}
use Rattle.pv_model.specs.ProgramLaws.{assigns}
use Rattle.pv_model.specs.Check.{Part, names_item}
use Rattle.pv_check.specs.declared.marks.Mark.{Mark}
use Rattle.pv_check.specs.Marks.{is_named, is_exclusive, mark_at}

-- The wants are those of the program, in the order of the items, each item once.
pub record AreWants (program : Program) (wants : List Want) : Type 0 where
  pub ascending : AllPairs (λ want later. want.item < later.item) wants
  pub named : All (λ want. IsTrue (names_item program want.item)) wants
  pub exclusive : All (λ want. want.exclusive ≡ assigns program want.item) wants
  pub whole : (n : ℕ) → IsTrue (names_item program n) → Contains wants (record { item = n; exclusive = assigns program n })

-- the want that the item's mark stands for
abbrev pub marked_want : List Mark → ℕ → Want
marked_want marks n = record { item = n; exclusive = is_exclusive (mark_at marks n) }

-- the wants of the first items, so many
unfoldable pub wants_among : List Mark → ℕ → List Want
wants_among marks zero = []
wants_among marks (suc n) =
    if is_named (mark_at marks n) then wants_among marks n ++ marked_want marks n ∷ [] else wants_among marks n

-- The site is this home, if there is one.
abbrev pub is_home_site : Option ℕ → ℕ → Bool
is_home_site None site = false
is_home_site (Some home) site = home == site

-- The want is of an item of the site.
abbrev pub is_at : List Item → ℕ → Want → Bool
is_at items site want = is_home_site (slice_get (map (λ declared. declared.site) items) want.item) site

-- the wants of items of the site
abbrev pub wants_at : List Item → ℕ → List Want → List Want
wants_at items site wants = filter (is_at items site) wants

-- the parts with one more, unless it has no wants
abbrev pub with_part : List Part → ℕ → List Want → List Part
with_part parts site [] = parts
with_part parts site (want ∷ wants) = parts ++ record { site = site; wants = want ∷ wants } ∷ []

-- the parts of the first sites, so many
abbrev pub parts_among : List Item → List Want → ℕ → List Part
parts_among items wants zero = []
parts_among items wants (suc site) = with_part (parts_among items wants site) site (wants_at items site wants)
