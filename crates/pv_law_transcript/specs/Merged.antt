-- What of the merge of histories the lines of a schedule may say.
use Rattle.std.specs.Prelude.{◌^◌, ◌<◌, ⊤}
use Rattle.pv_base.specs.Catalog.{Declared}
use Rattle.pv_law_histories.specs.History.{Intake, request}
use Rattle.pv_model.specs.Events.{Event, deliver}
use Rattle.pv_law_transcript.specs.Written.{IsWrittenRequest}

-- A request that was taken in is one that a line may say.
abbrev pub IsWrittenIntake : Declared → Intake → Type 0
IsWrittenIntake catalog (request client asked) = IsWrittenRequest catalog asked.query asked.text asked.program
IsWrittenIntake catalog other = ⊤

-- The number of a message that is delivered has 64 bits.
abbrev pub HasWrittenNumber : Event → Type 0
HasWrittenNumber (deliver n) = n < 2 ^ 64
HasWrittenNumber other = ⊤
