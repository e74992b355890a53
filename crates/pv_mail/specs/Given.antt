-- What a box gives its site.
use Rattle.std.specs.Prelude.{◌≡◌, ℕ, ◌<◌, List, ⊤}
use Rattle.pv_base.specs.Catalog.{Declared}
use Rattle.pv_format.specs.MessageSpelling.{SpellsEnvelope}
use Rattle.pv_model.specs.Plan.{plan_of}
use Rattle.pv_protocol.specs.WellFormed.{CanRun}
use Rattle.pv_wire.specs.Values.{message_of}
use Rattle.pv_history.specs.declared.entry.Taken.{Taken}
use Rattle.pv_history.specs.declared.entry.Taken.TheVariants as taken

-- The site can make a step of it: a request can run and has its plan, and a message comes from a site and is spelled.
abbrev pub IsTakenFor : ℕ → Declared → Taken → Type 0
IsTakenFor me catalog (taken.Request client asked) = CanRun catalog asked.program × (asked.plan.parts.items ≡ plan_of asked.program catalog.items)
IsTakenFor me catalog (taken.Parcel from stamp place message) =
    (from.0 < catalog.sites) × ((bytes : List ℕ) × SpellsEnvelope (record { from = from.0; to = me; message = message_of message }) bytes)
IsTakenFor me catalog taken.Tick = ⊤
