-- What a site is given, and what it sends.
use Rattle.std.specs.Prelude.{◌≡◌, ℕ, ◌<◌, List, ⊤}
use Rattle.pv_base.specs.Catalog.{Declared}
use Rattle.pv_format.specs.MessageSpelling.{SpellsEnvelope}
use Rattle.pv_model.specs.Plan.{plan_of}
use Rattle.pv_protocol.specs.WellFormed.{CanRun}
use Rattle.pv_site.specs.Values.{outgoing_of}
use Rattle.pv_site.specs.declared.input.Input.{Input}
use Rattle.pv_site.specs.declared.input.Input.TheVariants.{Submit, Take, Tick}
use Rattle.pv_site.specs.declared.input.Outgoing.{Outgoing}
use Rattle.pv_wire.specs.Values.{message_of}

-- The input is for the site: a program that can run, with its plan; or a message of one of the sites that some bytes spell.
abbrev pub IsInputFor : ℕ → Declared → Input → Type 0
IsInputFor me catalog (Submit program plan) = CanRun catalog program × (plan.parts.items ≡ plan_of program catalog.items)
IsInputFor me catalog (Take from message) =
    (from.0 < catalog.sites) × ((bytes : List ℕ) × SpellsEnvelope (record { from = from.0; to = me; message = message_of message }) bytes)
IsInputFor me catalog Tick = ⊤

-- Some bytes spell the message, as one from this site.
abbrev pub IsSpelledFrom : ℕ → Outgoing → Type 0
IsSpelledFrom me sent =
    let outgoing = outgoing_of sent in (bytes : List ℕ) × SpellsEnvelope (record { from = me; to = outgoing.to; message = outgoing.message }) bytes
