-- The moments of histories, as the laws on histories have them.
use Rattle.std.specs.Prelude.{◌≡◌, ◌⊎◌, ℕ, ◌<◌, ◌==◌, ◌&&◌, ◌||◌, nat_lt, Bool, Vec, List, [], ◌∷◌, All, map, length, ⊤}
use Rattle.std.specs.declared.alloc.Global.{Global}
use Rattle.pv_base.specs.Catalog.{Declared}
use Rattle.pv_history.specs.Entries.{stamped_of, stamps_of}
use Rattle.pv_history.specs.declared.entry.Entry.{Entry}
use Rattle.pv_history.specs.declared.entry.Taken.{Taken}
use Rattle.pv_history.specs.declared.entry.Taken.TheVariants as taken
use Rattle.pv_law_histories.specs.Fitting.{HasRisingStamps, history_of}
use Rattle.pv_law_histories.specs.History.{Intake, parcel, Stamped}
use Rattle.pv_law_histories.specs.Merge as model
use Rattle.pv_model.specs.Check.{IsPlan}
use Rattle.pv_script.specs.declared.live.Request.{Request}
use Rattle.pv_merge.specs.declared.moment.Moment.{Moment}

abbrev pub moment_of : Moment → model.Moment
moment_of moment = record { site = moment.site.0; entry = stamped_of moment.entry.now }

abbrev pub histories_of : List (Vec Entry Global) → List (List Stamped)
histories_of histories = map (λ history. stamps_of history.items) histories

-- The stamps of each history rise.
abbrev pub AllRise : List (List Stamped) → Type 0
AllRise histories = (n : ℕ) → n < length histories → HasRisingStamps (history_of histories n)

-- The moment comes before those of this stamp and site.
abbrev pub is_earlier : (site stamp : ℕ) → model.Moment → Bool
is_earlier site stamp moment = nat_lt moment.entry.stamp stamp || (moment.entry.stamp == stamp && nat_lt moment.site site)

-- One of the moments is of this site and stamp.
abbrev pub HasMoment : (site stamp : ℕ) → List model.Moment → Type 0
HasMoment site stamp [] = ⊥
HasMoment site stamp (moment ∷ moments) = ((moment.site ≡ site) × (moment.entry.stamp ≡ stamp)) ⊎ HasMoment site stamp moments

-- A message that was taken was sent at one of these moments.
abbrev pub IsSentAmong : List model.Moment → Intake → Type 0
IsSentAmong moments (parcel from stamp place message) = HasMoment from stamp moments
IsSentAmong moments other = ⊤

-- ## Plans
abbrev pub IsRequestPlanned : Declared → Request → Type 0
IsRequestPlanned catalog request = IsPlan request.program catalog.items request.plan.parts.items

-- A request that was taken has the plan of its program.
abbrev pub IsPlanned : Declared → Taken → Type 0
IsPlanned catalog (taken.Request client request) = IsRequestPlanned catalog request
IsPlanned catalog other = ⊤

abbrev pub ArePlanned : Declared → List Entry → Type 0
ArePlanned catalog entries = All (λ entry. IsPlanned catalog entry.input) entries

-- The same of moments.
abbrev pub AreMomentsPlanned : Declared → List Moment → Type 0
AreMomentsPlanned catalog moments = All (λ moment. IsPlanned catalog moment.entry.now.input) moments
