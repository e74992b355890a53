-- What goes through the rings of one site, and how what is so of each site is so of all.
use Rattle.std.specs.Prelude.{◌≡◌, ℕ, ◌+◌, ◌<◌, max, List, [], ◌++◌, length, get_or, All, Contains}
use Rattle.std.specs.List.{AllZip}
use mathlib.Core.List.{IsPrefix}
use Rattle.pv_law_histories.specs.Course.{AreSteps, IsStep, course}
use Rattle.pv_law_histories.specs.Fitting.{history_of}
use Rattle.pv_law_histories.specs.History.{Stamped}
use Rattle.pv_law_histories.specs.Posting.{AreStamped, Parcel, kept_by, last_stamp, parcels_to, posted_to, stamp_with}
use Rattle.pv_law_passing.specs.Rings.{Ring, Sealed, Seals, WasTaken}
use Rattle.pv_protocol.specs.State.{Setup}
use Rattle.pv_protocol.specs.World.{first_site}

-- what went through a site's own ends of rings: for each site what was offered to its ring, what that ring took of it, and what was taken from the ring of that
-- site; each in order, the last two with how often it counts
pub record Traffic : Type 0 where
  pub offered : List (List Sealed)
  pub posted : List (List (Sealed × ℕ))
  pub taken : List (List (Sealed × ℕ))

module _ (traffic : Traffic) where
  -- of the ring to this site
  abbrev pub offered_at : ℕ → List Sealed
  offered_at to = get_or traffic.offered to []

  abbrev pub posted_at : ℕ → List (Sealed × ℕ)
  posted_at to = get_or traffic.posted to []

  -- of the ring from this site
  abbrev pub taken_at : ℕ → List (Sealed × ℕ)
  taken_at from = get_or traffic.taken from []

-- One site's part in what goes by rings: its history is its own steps from the start on, each entry is stamped, to each ring was offered what the history posts
-- there, the ring took of that alone, and each message of the history was taken from its ring.
pub record GoesByItsRings (setup : Setup) (me : ℕ) (history : List Stamped) (traffic : Traffic) : Type 0 where
  pub stamps : AreStamped 0 history
  pub steps : AreSteps setup me first_site history
  pub offered : (to : ℕ) → to < setup.catalog.sites → AllZip (Seals me to) (offered_at traffic to) (posted_to setup me to first_site history)
  pub posted : (to : ℕ) → to < setup.catalog.sites → All (λ one. Contains (offered_at traffic to) one.0) (posted_at traffic to)
  pub taken : All (λ entry. WasTaken (taken_at traffic) setup.catalog.sites me entry.intake) history

-- To the ring to this site was offered more, which seals these parcels, and the ring took some of that.
pub record OffersMore (me to : ℕ) (parcels : List Parcel) (old new : Traffic) : Type 0 where
  pub more : List Sealed
  pub kept : List (Sealed × ℕ)
  pub offered : offered_at new to ≡ offered_at old to ++ more
  pub posted : posted_at new to ≡ posted_at old to ++ kept
  pub among : All (λ one. Contains more one.0) kept
  pub seals : AllZip (Seals me to) more parcels

-- Rings from these many sites may have given more.
abbrev pub GivesMore : (sites : ℕ) → Traffic → Traffic → Type 0
GivesMore sites old new = (from : ℕ) → from < sites → IsPrefix (taken_at old from) (taken_at new from)

-- The site takes in one more: its step, stamped, whose messages were offered to the rings; and if it is a message it was taken from its ring.
pub record TakesOneMore (setup : Setup) (me : ℕ) (history : List Stamped) (entry : Stamped) (old new : Traffic) : Type 0 where
  pub step : IsStep setup me (course setup me first_site history) entry
  pub stamp : entry.stamp ≡ max (last_stamp 0 history) (stamp_with entry.intake) + 1
  pub offers : (to : ℕ) → to < setup.catalog.sites
      → OffersMore me to (parcels_to to entry.stamp 0 (kept_by setup me (course setup me first_site history) entry)) old new
  pub gives : GivesMore setup.catalog.sites old new
  pub taken : WasTaken (taken_at new) setup.catalog.sites me entry.intake

-- ## All sites
-- what went through the rings of the site of this number
abbrev pub traffic_of : List Traffic → ℕ → Traffic
traffic_of all n = get_or all n (record { offered = []; posted = []; taken = [] })

-- the rings between the sites
abbrev pub rings_of : List Traffic → ℕ → ℕ → Ring
rings_of all from to = record { offered = offered_at (traffic_of all from) to; posted = posted_at (traffic_of all from) to; taken = taken_at (traffic_of all to) from }

-- Each site goes by its rings, and each ring gave a beginning of what it took.
pub record GoTogether (setup : Setup) (histories : List (List Stamped)) (all : List Traffic) : Type 0 where
  pub count : length histories ≡ setup.catalog.sites
  pub sites : (n : ℕ) → n < length histories → GoesByItsRings setup n (history_of histories n) (traffic_of all n)
  pub brings : (from to : ℕ) → from < length histories → to < length histories
      → IsPrefix (taken_at (traffic_of all to) from) (posted_at (traffic_of all from) to)
