-- What C gets where it asks something of a site.
use Rattle.std.specs.Prelude.{◌≡◌, ℕ, Option, Some, None, Result, Ok, Err}
use Rattle.pv_embed.specs.declared.asked.Outcome.{Outcome}
use Rattle.pv_embed.specs.declared.asked.Outcome.TheVariants.{Committed, NotCommitted, AtWork}
use Rattle.pv_embed.specs.declared.asked.OutcomeFault.{OutcomeFault}
use Rattle.pv_embed.specs.declared.asked.OutcomeFault.TheVariants.{NotHere, Unwritten, NotBegun, NoMemory}
use Rattle.pv_handle.specs.declared.info.SiteInfo.{SiteInfo}
use Rattle.pv_handle.specs.declared.refused.Refused.{Refused}
use Rattle.pv_c.specs.Status.{status_of, status_of_asked}

-- what is told of a site, and zeroes of none
abbrev pub info_of : Option SiteInfo → SiteInfo
info_of (Some info) = info
info_of None = record { stored = 0; asked = 0; limit = 0; epoch = 0; records = 0 }

-- The status and what is told are those of an answer of which this is true.
abbrev pub InformedAs : ℕ → SiteInfo → (Option SiteInfo → Type 0) → Type 0
InformedAs status info IsSo = (answer : Option SiteInfo) × (status ≡ status_of_asked answer) × (info ≡ info_of answer) × IsSo answer

-- the number of what became of a transaction
abbrev pub outcome_number : Outcome → ℕ
outcome_number Committed = 1
outcome_number NotCommitted = 2
outcome_number AtWork = 3

-- why it isn't told
abbrev pub untold_number : OutcomeFault → ℕ
untold_number NotHere = 30
untold_number Unwritten = 37
untold_number NotBegun = 19
untold_number NoMemory = 7

-- the number of what is told, and 0 where nothing is
abbrev pub told_number : Result Outcome (Refused OutcomeFault) → ℕ
told_number (Ok outcome) = outcome_number outcome
told_number (Err _) = 0

-- The status and the number of the outcome are those of an answer of which this is true.
abbrev pub ToldAs : ℕ → ℕ → (Result Outcome (Refused OutcomeFault) → Type 0) → Type 0
ToldAs status outcome IsSo =
    (answer : Result Outcome (Refused OutcomeFault)) × (status ≡ status_of untold_number answer) × (outcome ≡ told_number answer) × IsSo answer
