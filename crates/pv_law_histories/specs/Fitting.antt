-- When the histories of all sites fit together.
use Rattle.std.specs.Prelude.{◌≡◌, ℕ, ◌<◌, List, [], ◌∷◌, length, get_or, All, ⊤}
use Rattle.pv_law_histories.specs.Course.{AreSteps, Sent}
use Rattle.pv_law_histories.specs.History.{Intake, request, parcel, Stamped}
use Rattle.pv_base.specs.Catalog.{Declared}
use Rattle.pv_protocol.specs.State.{Setup}
use Rattle.pv_protocol.specs.WellFormed.{CanRun}
use Rattle.pv_protocol.specs.World.{first_site}

-- the history of the site of this number
abbrev pub history_of : List (List Stamped) → ℕ → List Stamped
history_of histories n = get_or histories n []

-- The stamps rise.
abbrev pub HasRisingStamps : List Stamped → Type 0
HasRisingStamps [] = ⊤
HasRisingStamps (entry ∷ entries) = All (λ later. entry.stamp < later.stamp) entries × HasRisingStamps entries

-- A message that the site of this number took in at this stamp was sent to it by a site, as that site's history says, at a lesser stamp and at this place.
abbrev pub WasSentBefore : Setup → List (List Stamped) → (to stamp : ℕ) → Intake → Type 0
WasSentBefore setup histories to stamp (parcel from sent place message) =
    (from < length histories) × (sent < stamp) × Sent setup from first_site (history_of histories from) sent place record { to = to; message = message }
WasSentBefore setup histories to stamp other = ⊤

-- The histories, one of each site, fit together: each is its site's own steps, from a site that was just started, at rising stamps; and each
-- message that was taken in was sent before.
pub record FitTogether (setup : Setup) (histories : List (List Stamped)) : Type 0 where
  pub count : length histories ≡ setup.catalog.sites
  pub rising : (n : ℕ) → n < length histories → HasRisingStamps (history_of histories n)
  pub steps : (n : ℕ) → n < length histories → AreSteps setup n first_site (history_of histories n)
  pub sent : (n : ℕ) → n < length histories → All (λ entry. WasSentBefore setup histories n entry.stamp entry.intake) (history_of histories n)

-- What was asked for can run.
abbrev pub CanBeDone : Declared → Intake → Type 0
CanBeDone catalog (request client asked) = CanRun catalog asked.program
CanBeDone catalog other = ⊤

-- All that clients asked for can run.
abbrev pub CanAllBeDone : Declared → List (List Stamped) → Type 0
CanAllBeDone catalog histories = (n : ℕ) → n < length histories → All (λ entry. CanBeDone catalog entry.intake) (history_of histories n)
