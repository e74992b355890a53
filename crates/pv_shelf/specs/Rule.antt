-- What holds of a shelf between any two steps, whichever threads make them.
use Rattle.std.specs.Prelude.{◌≡◌, ℕ, ◌+◌, List}
use mathlib.Core.Option.{some}
use mathlib.Core.List.{IsPrefix}
use lib.ListN.{get_elem?}
use Rattle.pv_shelf.specs.Part.{Part}
use Rattle.pv_shelf.specs.Log.{IsLog}
use Rattle.pv_shelf.specs.declared.view.View.{View}

abbrev pub having_seen : List Part → View
having_seen seen = record { seen = seen; looks = 0 }

-- What is published is a log, which begins with what each view has seen.
pub record IsKept (published : List Part) (views : List View) : Type 0 where
  pub log : IsLog published
  pub seen : (place : ℕ) (v : View) → get_elem? views place ≡ some v → IsPrefix v.seen published

-- What is published then is a log that begins with what was seen before, and all of it is seen, by one look more.
pub record Finds (before : View) (published : List Part) (after : View) : Type 0 where
  pub log : IsLog published
  pub grows : IsPrefix before.seen published
  pub seen : after.seen ≡ published
  pub looks : after.looks ≡ before.looks + 1
