-- What a site took in of another one's messages, in order.
use Rattle.std.specs.Prelude.{◌≡◌, ℕ, ◌==◌, List, [], ◌∷◌, ◌++◌, flat_map, replicate, if◌then◌else◌}
use Rattle.std.specs.List.{AllZip}
use mathlib.Core.List.{Sublist}
use Rattle.pv_law_histories.specs.History.{Intake, parcel, Stamped}
use Rattle.pv_law_histories.specs.Posting.{Parcel}
use Rattle.pv_law_passing.specs.Rings.{Sealed, Seals}

-- what the site took in from this one, in order, before these
abbrev pub with_parcel : ℕ → Intake → List Parcel → List Parcel
with_parcel from (parcel sender stamp place message) later =
    if sender == from then record { stamp = stamp; place = place; message = message } ∷ later else later
with_parcel from other later = later

-- what the site took in from this one, in order
abbrev pub parcels_from : ℕ → List Stamped → List Parcel
parcels_from from [] = []
parcels_from from (entry ∷ entries) = with_parcel from entry.intake (parcels_from from entries)

-- messages, each as often as it counts
abbrev pub counted : {A : Type 0} → List (A × ℕ) → List A
counted all = flat_map (λ one. replicate one.1 one.0) all

-- The parcel in bytes, which counts as often.
abbrev pub SealsAlike : (from to : ℕ) → Sealed × ℕ → Parcel × ℕ → Type 0
SealsAlike from to sealed sent = Seals from to sealed.0 sent.0 × (sealed.1 ≡ sent.1)

-- What the site of the one number has of the other's in its history was taken from that one's ring, in order, each at most as often as it counts; and so was what of it
-- counts once more and isn't in the history yet. The rest was lost for want of memory, or passed over.
pub record ComesInOrder (from me : ℕ) (history : List Stamped) (left : List Sealed) (taken : List (Sealed × ℕ)) : Type 0 where
  pub held : List Sealed
  pub seals : AllZip (Seals from me) held (parcels_from from history)
  pub in_order : Sublist (held ++ left) (counted taken)
