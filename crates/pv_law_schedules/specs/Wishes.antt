-- What is so of all that a client of a live script wants.
use Rattle.std.specs.Prelude.{◌≡◌, ℕ, ◌<◌, Some, List, length, get_or, ⊤}
use Rattle.pv_base.specs.Catalog.{Item}
use Rattle.pv_model.specs.LineCauses.{home_of}
use Rattle.pv_model.specs.LiveScript.{Wish, number_of, to_ask, to_peek}

-- Each has the number of its place.
abbrev pub AreNumbered : List Wish → Type 0
AreNumbered wishes = (k : ℕ) (any : Wish) → k < length wishes → number_of (get_or wishes k any) ≡ k

-- An item that is looked at is at this site.
abbrev pub IsLookHome : List Item → (site : ℕ) → Wish → Type 0
IsLookHome items site (to_ask request) = ⊤
IsLookHome items site (to_peek number item) = home_of items item ≡ Some site
