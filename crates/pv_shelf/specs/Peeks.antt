-- What a look at one item tells.
use Rattle.std.specs.Prelude.{◌≡◌, ℕ, ◌<◌, ◌≤◌, List, slice_get, Some, Result, MatchResult}
use Rattle.pv_shelf.specs.Part.{Part}
use Rattle.pv_shelf.specs.Log.{latest, steps_of}
use Rattle.pv_shelf.specs.declared.peek.Peek.{Peek}
use Rattle.pv_shelf.specs.declared.peek.PeekError.{PeekError}
use Rattle.pv_shelf.specs.declared.peek.PeekError.TheVariants.{Behind, NoMemory}

-- It is the steps of the last part that was found, and that part's face in this place.
pub record IsPeekAt (found : List Part) (place : ℕ) (peek : Peek) : Type 0 where
  pub part : Part
  pub last : latest found ≡ Some part
  pub steps : peek.steps ≡ part.steps
  pub face : slice_get part.faces place ≡ Some peek.face

-- A look tells nothing: too few steps were found, exactly so many; or there were enough of them, and no memory.
abbrev pub IsMissed : List Part → ℕ → PeekError → Type 0
IsMissed found least (Behind steps) = (steps ≡ steps_of found) × (steps < least)
IsMissed found least NoMemory = least ≤ steps_of found

-- what a look for at least so many steps answers, of the item in this place
abbrev pub IsAnswerAt : List Part → ℕ → ℕ → Result Peek PeekError → Type 0
IsAnswerAt found place least result = MatchResult result (λ peek. IsPeekAt found place peek × (least ≤ peek.steps)) (IsMissed found least)

-- The item is in this place among the items of the site, whose faces a part has.
pub record IsAnswer (items : List ℕ) (found : List Part) (item least : ℕ) (result : Result Peek PeekError) : Type 0 where
  pub place : ℕ
  pub here : slice_get items place ≡ Some item
  pub answer : IsAnswerAt found place least result
