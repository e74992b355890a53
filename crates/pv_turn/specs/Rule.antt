-- What holds of a turn between any two steps, whichever threads make them: a lock (mutual exclusion: Dijkstra, 1965) whose value has a log.
-- A turn has two words: whether it is held (1) or free (0), and how many entries its value had when it was last given back, which are
-- its log. It has one slot, with the value while nobody has it. Each seat has a view of the turn.
use Rattle.std.specs.Prelude.{◌≡◌, ◌≢◌, ◌⊎◌, ℕ, ◌+◌, List, [], ◌∷◌, length, Option, Some}
use mathlib.Core.Option.{Option as Slot, some, none}
use mathlib.Core.List.{IsPrefix}
use lib.ListN.{get_elem?}
use Rattle.atomic_table.specs.Table.{State}
use Rattle.pv_turn.specs.declared.view.View.{View}

-- Where a seat stands: it rests, it has the value, or it has set the value back and still holds the turn.
abbrev pub rests : ℕ
rests = 0

abbrev pub has_value : ℕ
has_value = 1

abbrev pub set_back : ℕ
set_back = 2

module _ {E : Type 0} where
  abbrev pub view : List E → List E → ℕ → ℕ → View E
  view seen told stage parts = record { seen = seen; told = told; stage = stage; parts = parts }

  -- How many seats these views stand for together.
  abbrev pub parts_of : List (View E) → ℕ
  parts_of [] = 0
  parts_of (v ∷ vs) = v.parts + parts_of vs

  -- The log begins with what a seat has seen and with what it was told. A view that stands for no seat rests.
  pub record Fits (log : List E) (v : View E) : Type 0 where
    pub seen : IsPrefix v.seen log
    pub told : IsPrefix v.told log
    pub unseated : v.parts ≡ 0 → v.stage ≡ rests

  abbrev pub AllFit : List E → List (View E) → Type 0
  AllFit log views = (place : ℕ) (v : View E) → get_elem? views place ≡ some v → Fits log v

  -- Every seat rests.
  abbrev pub AllRest : List (View E) → Type 0
  AllRest views = (place : ℕ) (v : View E) → get_elem? views place ≡ some v → v.stage ≡ rests

  -- Every seat but that at this place rests.
  abbrev pub OthersRest : ℕ → List (View E) → Type 0
  OthersRest holder views = (place : ℕ) (v : View E) → place ≢ holder → get_elem? views place ≡ some v → v.stage ≡ rests

  module _ {V : Type 0} (entries : V → List E) where
    -- The value is in the slot, and its entries are the log.
    pub record IsHome (log : List E) (homes : List (Slot (Option V))) : Type 0 where
      pub value : V
      pub home : homes ≡ some (Some value) ∷ []
      pub shows : entries value ≡ log

    -- The turn is free: no seat holds it, and the value is in the slot.
    pub record IsFree (held : ℕ) (log : List E) (homes : List (Slot (Option V))) (views : List (View E)) : Type 0 where
      pub free : held ≡ 0
      pub resting : AllRest views
      pub home : IsHome log homes

    -- One seat holds the turn. It has seen the whole log, and has the value, or has set it back.
    pub record IsHeld (held : ℕ) (log : List E) (homes : List (Slot (Option V))) (views : List (View E)) : Type 0 where
      pub taken : held ≡ 1
      pub holder : ℕ
      pub its_view : View E
      pub there : get_elem? views holder ≡ some its_view
      pub whole : its_view.seen ≡ log
      pub others : OthersRest holder views
      pub value : ((its_view.stage ≡ has_value) × (homes ≡ none ∷ [])) ⊎ ((its_view.stage ≡ set_back) × IsHome log homes)

    -- The rule: the turn is free, or one seat holds it; the second word counts the log; and the seats are so many.
    pub record IsKept (seats : ℕ) (table : State (Option V) (View E)) : Type 0 where
      pub held : ℕ
      pub log : List E
      pub words : table.words ≡ held ∷ length log ∷ []
      pub parts : parts_of table.views ≡ seats
      pub fit : AllFit log table.views
      pub state : IsFree held log table.homes table.views ⊎ IsHeld held log table.homes table.views
