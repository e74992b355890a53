-- The number of each cause for which the engine refuses, as embed/polydb.h has it.
use Rattle.std.specs.Prelude.{ℕ, Bool, true, false, Result, Ok, Err}
use Rattle.pv_base.specs.declared.failure.NoMemory.{NoMemory}
use Rattle.pv_embed.specs.declared.fault.OpenFault.{OpenFault}
use Rattle.pv_embed.specs.declared.fault.OpenFault.TheVariants as opening
use Rattle.pv_embed.specs.declared.fault.ReceiveFault.{ReceiveFault}
use Rattle.pv_embed.specs.declared.fault.ReceiveFault.TheVariants as receiving
use Rattle.pv_embed.specs.declared.fault.SubmitFault.{SubmitFault}
use Rattle.pv_embed.specs.declared.fault.SubmitFault.TheVariants as submitting
use Rattle.pv_embed_world.specs.declared.fault.WorldFault.{WorldFault}
use Rattle.pv_embed_world.specs.declared.fault.WorldFault.TheVariants as world
use Rattle.pv_growth.specs.declared.fault.ConfigFault.{ConfigFault}
use Rattle.pv_growth.specs.declared.fault.ConfigFault.TheVariants as growing
use Rattle.pv_handle.specs.declared.faults.NotNext.{NotNext}
use Rattle.pv_handle.specs.declared.faults.ValueFault.{ValueFault}
use Rattle.pv_handle.specs.declared.faults.ValueFault.TheVariants as value

-- why a site isn't opened
abbrev pub opening_number : OpenFault → ℕ
opening_number opening.TooLong = 6
opening_number (opening.Malformed line cause) = 3
opening_number opening.HasEvents = 20
opening_number opening.NoSite = 21
opening_number (opening.NotOurs place) = 22
opening_number (opening.BadRecord index) = 23
opening_number (opening.TooManyOutcomes count) = 24
opening_number opening.EpochsSpent = 25
opening_number (opening.Full length) = 26
opening_number opening.NoMemory = 7

-- whether a configuration grows; or why one of the two is none
abbrev pub growth_number : Result Bool ConfigFault → ℕ
growth_number (Ok true) = 0
growth_number (Ok false) = 38
growth_number (Err growing.TooLong) = 6
growth_number (Err (growing.Malformed line cause)) = 3
growth_number (Err growing.HasEvents) = 20
growth_number (Err growing.NoMemory) = 7

-- why a request isn't taken
abbrev pub request_number : SubmitFault → ℕ
request_number (submitting.Text error) = 27
request_number (submitting.Program error) = 28
request_number submitting.NoMemory = 7

-- why a message isn't taken
abbrev pub message_number : ReceiveFault → ℕ
message_number (receiving.Malformed error) = 29
message_number receiving.NotForHere = 30
message_number receiving.NoSender = 31
message_number receiving.NoMemory = 7

-- why an item's value isn't given
abbrev pub value_number : ValueFault → ℕ
value_number value.UnknownName = 33
value_number value.NotHere = 30
value_number value.Unwritten = 37
value_number value.NoMemory = 7

-- why a world doesn't do what is asked
abbrev pub world_number : WorldFault → ℕ
world_number world.TooLong = 6
world_number (world.Malformed line cause) = 3
world_number world.HasEvents = 20
world_number world.NotOneEvent = 34
world_number (world.SentLimit total) = 8
world_number world.NoMemory = 7
world_number world.BrokenOff = 35
world_number world.Closed = 36

-- where only memory can be wanting
abbrev pub memory_number : NoMemory → ℕ
memory_number _ = 7

-- where a write isn't the next one
abbrev pub write_number : NotNext → ℕ
write_number _ = 32
