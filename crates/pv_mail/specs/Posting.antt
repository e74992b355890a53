-- What is posted to sites.
use Rattle.std.specs.Prelude.{◌≡◌, ℕ, List, [], ◌∷◌, ⊤}
use Rattle.pv_format.specs.MessageSpelling.{SpellsEnvelope}
use Rattle.pv_law_histories.specs.Posting as law
use Rattle.pv_law_histories.specs.Posting.{parcels_to}
use Rattle.pv_post.specs.declared.outlet.Out.{Out}
use Rattle.pv_protocol.specs.State.{Outgoing}
use Rattle.pv_rings.specs.Rings.{HandsEach}
use Rattle.pv_mail.specs.declared.ends.Parcel.{Parcel}

-- The parcel is the one that the law speaks of, in bytes that spell its message from this site to that one.
abbrev pub IsParcel : (from to : ℕ) → Parcel → law.Parcel → Type 0
IsParcel from to parcel posted =
    (parcel.stamp ≡ posted.stamp) × (parcel.place ≡ posted.place)
    × SpellsEnvelope (record { from = from; to = to; message = posted.message }) parcel.bytes.items

-- One by one, these parcels are those.
abbrev pub AreParcels : (from to : ℕ) → List Parcel → List law.Parcel → Type 0
AreParcels from to [] [] = ⊤
AreParcels from to (parcel ∷ parcels) (posted ∷ more) = IsParcel from to parcel posted × AreParcels from to parcels more
AreParcels from to parcels other = ⊥

-- Each site's ring is handed what this one sends there at this stamp, whose places are counted from here on.
abbrev pub PostsAll : (from stamp place : ℕ) → List Outgoing → List (Out Parcel) → List (Out Parcel) → Type 0
PostsAll from stamp place sends old new = HandsEach (λ to parcels. AreParcels from to parcels (parcels_to to stamp place sends)) old new
