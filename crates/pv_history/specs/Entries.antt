-- A history, as the entries of which the laws on histories speak.
use Rattle.std.specs.Prelude.{List, map}
use Rattle.pv_law_histories.specs.History.{Intake, request, parcel, tick, Came, done, fault, down, Stamped}
use Rattle.pv_script.specs.LiveView.{request_of}
use Rattle.pv_site.specs.Values.{note_of}
use Rattle.pv_wire.specs.Values.{message_of}
use Rattle.pv_history.specs.declared.entry.Entry.{Entry}
use Rattle.pv_history.specs.declared.entry.Seen.{Seen}
use Rattle.pv_history.specs.declared.entry.Seen.TheVariants.{Done, Fault, Down}
use Rattle.pv_history.specs.declared.entry.Taken.{Taken}
use Rattle.pv_history.specs.declared.entry.Taken.TheVariants as taken

-- what was taken in
abbrev pub intake_of : Taken → Intake
intake_of (taken.Request client asked) = request client (request_of asked)
intake_of (taken.Parcel from stamp place message) = parcel from.0 stamp place (message_of message)
intake_of taken.Tick = tick

-- what came of it
abbrev pub came_of : Seen → Came
came_of (Done notes) = done (map note_of notes.items)
came_of Fault = fault
came_of Down = down

-- the entry
abbrev pub stamped_of : Entry → Stamped
stamped_of entry = record { stamp = entry.stamp; intake = intake_of entry.input; sends = entry.sends; short = entry.short; came = came_of entry.seen }

-- a whole history
abbrev pub stamps_of : List Entry → List Stamped
stamps_of entries = map stamped_of entries
