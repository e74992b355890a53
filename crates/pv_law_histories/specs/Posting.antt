-- What sites that pass messages on put into the rings between them, and how they stamp what they take in.
use Rattle.std.specs.Prelude.{◌≡◌, ℕ, ◌+◌, ◌-◌, max, ◌<◌, ◌==◌, List, [], ◌∷◌, ◌++◌, length, take, All, Contains, ⊤, if◌then◌else◌}
use Rattle.pv_format.specs.Message.{Message}
use Rattle.pv_law_histories.specs.Course.{left_by, sent_by, AreSteps}
use Rattle.pv_law_histories.specs.Fitting.{history_of}
use Rattle.pv_law_histories.specs.History.{Intake, parcel, Stamped}
use Rattle.pv_protocol.specs.State.{Setup, Site, Outgoing}
use Rattle.pv_protocol.specs.World.{first_site}

-- a message on its way, with the stamp of the step that sent it and its place among that step's messages
pub record Parcel : Type 0 where
  pub stamp : ℕ
  pub place : ℕ
  pub message : Message

-- the parcels to a site among messages that were sent at this stamp and whose places are counted from here on
abbrev pub parcels_to : (to stamp place : ℕ) → List Outgoing → List Parcel
parcels_to to stamp place [] = []
parcels_to to stamp place (outgoing ∷ more) =
    if outgoing.to == to then record { stamp = stamp; place = place; message = outgoing.message } ∷ parcels_to to stamp (place + 1) more
    else parcels_to to stamp (place + 1) more

module _ (setup : Setup) (me : ℕ) where
  -- The messages of a step that found memory: all but the last few that it counts as lost.
  abbrev pub kept_by : Site → Stamped → List Outgoing
  kept_by site entry = let sends = sent_by setup me site entry in take (length sends - entry.short) sends

  -- what the site posts to another one along this history, entry by entry
  abbrev pub posted_to : (to : ℕ) → Site → List Stamped → List Parcel
  posted_to to site [] = []
  posted_to to site (entry ∷ entries) = parcels_to to entry.stamp 0 (kept_by site entry) ++ posted_to to (left_by setup me site entry) entries

-- ## Stamps
-- the stamp that comes with what is taken in: a message brings that of its sending, and nothing else brings one
abbrev pub stamp_with : Intake → ℕ
stamp_with (parcel from stamp place message) = stamp
stamp_with other = 0

-- Each entry's stamp is one more than the greater of the stamp before it and the one that came with what it took in (Lamport, 1978).
abbrev pub AreStamped : ℕ → List Stamped → Type 0
AreStamped last [] = ⊤
AreStamped last (entry ∷ entries) = (entry.stamp ≡ max last (stamp_with entry.intake) + 1) × AreStamped entry.stamp entries

-- the last of these stamps, or the one before them
abbrev pub last_stamp : ℕ → List Stamped → ℕ
last_stamp last [] = last
last_stamp last (entry ∷ entries) = last_stamp entry.stamp entries

-- ## All histories
-- A message that the site of this number took in was posted to it by the site that it came from.
abbrev pub WasPosted : Setup → List (List Stamped) → (to : ℕ) → Intake → Type 0
WasPosted setup histories to (parcel from stamp place message) =
    (from < length histories)
    × Contains (posted_to setup from to first_site (history_of histories from)) record { stamp = stamp; place = place; message = message }
WasPosted setup histories to other = ⊤

-- The histories, one of each site, are what sites have that pass messages on: each is its site's own steps, each entry is stamped, and each message that was
-- taken in was posted.
pub record PassMessages (setup : Setup) (histories : List (List Stamped)) : Type 0 where
  pub count : length histories ≡ setup.catalog.sites
  pub stamps : (n : ℕ) → n < length histories → AreStamped 0 (history_of histories n)
  pub steps : (n : ℕ) → n < length histories → AreSteps setup n first_site (history_of histories n)
  pub posted : (n : ℕ) → n < length histories → All (λ entry. WasPosted setup histories n entry.intake) (history_of histories n)
