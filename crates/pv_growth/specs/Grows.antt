-- What it is that a configuration grows.
use Rattle.std.specs.Prelude.{◌≡◌, ◌≢◌, ◌⊎◌, ◌↔◌, ℕ, ◌<◌, ◌≤◌, Bool, true, List, [], Result, Ok, Err, length, ⊤}
use Rattle.pv_base.specs.Catalog.{Declared}
use Rattle.pv_base.specs.declared.limits.TheConstants.{MAX_INPUT}
use Rattle.pv_growth.specs.declared.fault.ConfigFault.{ConfigFault}
use Rattle.pv_growth.specs.declared.fault.ConfigFault.TheVariants as fault
use Rattle.pv_law_growth.specs.Growth.{HasGrown}
use Rattle.pv_model.specs.Events.{Schedule}
use Rattle.pv_model.specs.Schedule.{IsSchedule}
use Rattle.pv_script.specs.ScriptErrors.{IsMalformedAt, line_cause_of}

-- The text declares this catalog, nothing happens in it, and it isn't too long; or it is no configuration, for this cause.
abbrev pub ReadsConfig : List ℕ → Result Declared ConfigFault → Type 0
ReadsConfig config (Ok catalog) =
    (schedule : Schedule) × IsSchedule config schedule × (schedule.catalog ≡ catalog) × (schedule.events ≡ []) × (length config ≤ MAX_INPUT)
ReadsConfig config (Err fault.NoMemory) = ⊤
ReadsConfig config (Err fault.TooLong) = MAX_INPUT < length config
ReadsConfig config (Err (fault.Malformed line cause)) =
    IsMalformedAt config (record { number = line; cause = line_cause_of cause }) × (length config ≤ MAX_INPUT)
ReadsConfig config (Err fault.HasEvents) =
    (schedule : Schedule) × IsSchedule config schedule × (schedule.events ≢ []) × (length config ≤ MAX_INPUT)

-- The answer is whether the later configuration's catalog has grown from the one before; or one of the two is none, the one before looked at first.
abbrev pub AnswersGrowth : List ℕ → List ℕ → Result Bool ConfigFault → Type 0
AnswersGrowth before later (Ok grows) =
    (catalog : Declared) × (grown : Declared) × ReadsConfig before (Ok catalog) × ReadsConfig later (Ok grown) × ((grows ≡ true) ↔ HasGrown catalog grown)
AnswersGrowth before later (Err reason) =
    ReadsConfig before (Err reason) ⊎ ((catalog : Declared) × ReadsConfig before (Ok catalog) × ReadsConfig later (Err reason))
