-- What rings bring from site to site, in bytes.
use Rattle.std.specs.Prelude.{◌≡◌, ℕ, ◌<◌, List, length, All, Contains, ⊤}
use Rattle.std.specs.List.{AllZip}
use mathlib.Core.List.{IsPrefix}
use Rattle.pv_format.specs.MessageSpelling.{SpellsEnvelope}
use Rattle.pv_law_histories.specs.Course.{AreSteps}
use Rattle.pv_law_histories.specs.Fitting.{history_of}
use Rattle.pv_law_histories.specs.History.{Intake, parcel, Stamped}
use Rattle.pv_law_histories.specs.Posting.{Parcel, AreStamped, posted_to}
use Rattle.pv_protocol.specs.State.{Setup}
use Rattle.pv_protocol.specs.World.{first_site}

-- a message on its way, in bytes
pub record Sealed : Type 0 where
  pub stamp : ℕ
  pub place : ℕ
  pub bytes : List ℕ

-- It is this parcel, from the one site to the other.
abbrev pub Seals : (from to : ℕ) → Sealed → Parcel → Type 0
Seals from to sealed sent =
    (sealed.stamp ≡ sent.stamp) × (sealed.place ≡ sent.place)
    × SpellsEnvelope (record { from = from; to = to; message = sent.message }) sealed.bytes

-- a ring from one site to another: what was offered to it, what it took of that, and what was taken from it; each with how often it counts
pub record Ring : Type 0 where
  pub offered : List Sealed
  pub posted : List (Sealed × ℕ)
  pub taken : List (Sealed × ℕ)

-- What it took is of what it was offered, and what was taken from it is a beginning of what it took.
pub record Brings (ring : Ring) : Type 0 where
  pub posted : All (λ one. Contains ring.offered one.0) ring.posted
  pub taken : IsPrefix ring.taken ring.posted

-- A message that the site of this number took in is among what was taken from the ring of the site that it came from.
abbrev pub WasTaken : (ℕ → List (Sealed × ℕ)) → (sites to : ℕ) → Intake → Type 0
WasTaken taken sites to (parcel from stamp place message) =
    (from < sites)
    × ((one : Sealed × ℕ) × Contains (taken from) one × Seals from to one.0 (record { stamp = stamp; place = place; message = message }))
WasTaken taken sites to other = ⊤

-- The histories, one of each site, are what sites have between which these rings stand: each is its site's own steps, each entry is stamped, each ring was offered
-- what the one site sends to the other, and each message that was taken in came from its ring.
pub record GoByRings (setup : Setup) (histories : List (List Stamped)) (rings : ℕ → ℕ → Ring) : Type 0 where
  pub count : length histories ≡ setup.catalog.sites
  pub stamps : (n : ℕ) → n < length histories → AreStamped 0 (history_of histories n)
  pub steps : (n : ℕ) → n < length histories → AreSteps setup n first_site (history_of histories n)
  pub rings_bring : (from to : ℕ) → from < length histories → to < length histories → Brings (rings from to)
  pub offered : (from to : ℕ) → from < length histories → to < length histories
      → AllZip (Seals from to) (rings from to).offered (posted_to setup from to first_site (history_of histories from))
  pub taken : (n : ℕ) → n < length histories → All (λ entry. WasTaken (λ from. (rings from n).taken) (length histories) n entry.intake) (history_of histories n)
