-- What waits in a site in bytes, before what the site itself holds.
use Rattle.std.specs.Prelude.{List, ◌∷◌, Option, Some, None}
use Rattle.pv_embed.specs.Held.{Held}
use Rattle.pv_embed.specs.Outputs.{out_of}
use Rattle.pv_handle.specs.declared.bytes.Waiting.{Waiting}
use Rattle.pv_handle.specs.declared.given.Given.{Given}
use Rattle.pv_handle.specs.declared.given.Given.TheVariants.{Nothing, Bytes, TooSmall}

-- what waits comes first
abbrev pub waits_before : Option Waiting → List Held → List Held
waits_before None held = held
waits_before (Some waiting) held = record { length = waiting.length; out = out_of waiting.output } ∷ held

-- what waits still: nothing where it was written
abbrev pub left_after : Given → Option Waiting → Option Waiting
left_after (Bytes count to) waiting = None
left_after Nothing waiting = waiting
left_after (TooSmall needed) waiting = waiting
