-- What each kind of step on a turn tells the seat that makes it: of its view before, the number found, and itself after.
use Rattle.std.specs.Prelude.{◌≡◌, ◌≢◌, ℕ, List, [], ◌∷◌, Option, Some}
use mathlib.Core.List.{IsPrefix}
use Rattle.atomic_table.specs.Table.{Me}
use Rattle.pv_turn.specs.declared.view.View.{View}
use Rattle.pv_turn.specs.Rule.{view, rests, has_value, set_back}

module _ {E V : Type 0} where
  -- The turn is free, and the seat rests.
  abbrev pub Releases : View E → Me (Option V) (View E) → Type 0
  Releases v after = after ≡ (view v.seen v.told rests v.parts, [])

  -- The seat has seen the whole log, which begins with what it had seen and with what it was told.
  abbrev pub Looks : View E → Me (Option V) (View E) → Type 0
  Looks v after = (log : List E) × (after ≡ (view log v.told rests v.parts, [])) × IsPrefix v.seen log × IsPrefix v.told log

  module _ (entries : V → List E) where
    -- Where the turn was free, the seat has it with its value, whose entries begin with what it had seen. Else nothing has changed.
    abbrev pub Takes : View E → ℕ → Me (Option V) (View E) → Type 0
    Takes v found after =
        (found ≡ 0 → (value : V) × (after ≡ (view (entries value) v.told has_value v.parts, (0, Some value) ∷ [])) × IsPrefix v.seen (entries value))
        × (found ≢ 0 → after ≡ (v, []))

    -- The value that the seat had is in the slot, and the seat has seen its entries.
    abbrev pub SetsBack : Me (Option V) (View E) → Me (Option V) (View E) → Type 0
    SetsBack before after = (value : V) → before.1 ≡ (0, Some value) ∷ [] → after ≡ (view (entries value) before.0.told set_back before.0.parts, [])
