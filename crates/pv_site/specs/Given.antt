-- What an input is that is lent.
use Rattle.std.specs.Prelude.{◌≡◌, ℕ, ◌<◌, List, ⊤}
use Rattle.pv_base.specs.Catalog.{Declared}
use Rattle.pv_format.specs.MessageSpelling.{SpellsEnvelope}
use Rattle.pv_model.specs.Plan.{plan_of}
use Rattle.pv_protocol.specs.State as model
use Rattle.pv_protocol.specs.State.{submit, receive, tick}
use Rattle.pv_protocol.specs.WellFormed.{CanRun}
use Rattle.pv_site.specs.declared.input.Given.{Given}
use Rattle.pv_site.specs.declared.input.Given.TheVariants.{Submit, Take, Tick}
use Rattle.pv_wire.specs.Values.{message_of}

-- the input as plain data
abbrev pub input_in : Given → model.Input
input_in (Submit program plan) = submit program.now
input_in (Take from message) = receive from.0 (message_of message.now)
input_in Tick = tick

-- The input is for the site, as `IsInputFor` says it.
abbrev pub IsGivenFor : ℕ → Declared → Given → Type 0
IsGivenFor me catalog (Submit program plan) = CanRun catalog program.now × (plan.now.parts.items ≡ plan_of program.now catalog.items)
IsGivenFor me catalog (Take from message) =
    (from.0 < catalog.sites) × ((bytes : List ℕ) × SpellsEnvelope (record { from = from.0; to = me; message = message_of message.now }) bytes)
IsGivenFor me catalog Tick = ⊤
