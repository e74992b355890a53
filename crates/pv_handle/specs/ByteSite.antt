-- What a site in bytes does, by its answers.
use Rattle.std.specs.Prelude.{◌≡◌, ◌≢◌, ℕ, ◌<◌, ◌≤◌, true, false, List, [], ◌∷◌, Option, Some, None, Result, Ok, Err, length, slice_get, ⊤}
use Rattle.pv_base.specs.Catalog.{Declared, Item, place_of}
use Rattle.pv_format.specs.MessageSpelling.{SpellsEnvelope}
use Rattle.pv_protocol.specs.LineText.{line_text}
use Rattle.pv_protocol.specs.Lines.{line_of}
use Rattle.pv_protocol.specs.Report.{item_line, reading_at}
use Rattle.pv_protocol.specs.Shown.{shown}
use Rattle.pv_report.specs.NamesOnlyItems.{NamesOnlyItems}
use Rattle.pv_host.specs.HostLog.{HostWrite, least_write, next_write}
use Rattle.pv_embed.specs.Held.{Held, Out, message, note}
use Rattle.pv_embed.specs.Hosted.{AsksForGroup, HostedState, Writes, log_length, stored_length}
use Rattle.pv_handle.specs.ByteState.{ByteState}
use Rattle.pv_handle.specs.Given.{GivesBytes}
use Rattle.pv_handle.specs.declared.faults.ValueFault.{ValueFault}
use Rattle.pv_handle.specs.declared.faults.ValueFault.TheVariants.{UnknownName, NotHere, Unwritten, NoMemory}
use Rattle.pv_handle.specs.declared.given.Given.{Given}
use Rattle.pv_handle.specs.declared.given.Given.TheVariants.{Nothing, Bytes, TooSmall}

-- What the site of this number lets out has bytes: a message has a spelling, and a report names only items of the catalog.
abbrev pub CanGive : ℕ → Declared → Out → Type 0
CanGive me catalog (message envelope) = (bytes : List ℕ) × SpellsEnvelope envelope bytes
CanGive me catalog (note reported) = NamesOnlyItems catalog (line_of me reported)

-- These are the bytes: they spell the message, or are the line of the report.
abbrev pub IsOutInBytes : ℕ → Declared → Out → List ℕ → Type 0
IsOutInBytes me catalog (message envelope) bytes = SpellsEnvelope envelope bytes
IsOutInBytes me catalog (note reported) bytes = bytes ≡ line_text catalog (line_of me reported)

-- a message goes to a site, and a report to the host, which is 255: no site has this number
abbrev pub goes_to : Out → ℕ
goes_to (message envelope) = envelope.to
goes_to (note reported) = 255

-- What is next of what the site is to let out, and may be let out: so much of the log as there was when it was made is in the host's file.
pub record IsNext (hosted : HostedState) (next : Held) (later : List Held) : Type 0 where
  pub held : hosted.held ≡ next ∷ later
  pub stored : next.length ≤ stored_length hosted

-- There is nothing, or what is next may not be let out yet.
abbrev pub NothingMayLeave : ℕ → List Held → Type 0
NothingMayLeave stored [] = ⊤
NothingMayLeave stored (first ∷ later) = stored < first.length

-- What the site lets out is written, or isn't for want of room.
pub record GivesOut (me : ℕ) (catalog : Declared) (let_out : Out) (room out : List ℕ) (given : Given) : Type 0 where
  pub bytes : List ℕ
  pub are : IsOutInBytes me catalog let_out bytes
  pub gives : GivesBytes bytes (goes_to let_out) room out given

-- A taking of what is let out. It is taken where it was written, and else the site is as it was.
abbrev pub TakesBytes : {E : Type 0} → List ℕ → List ℕ → HostedState → HostedState → Result Given E → Type 0
TakesBytes room out old new (Ok Nothing) = NothingMayLeave (stored_length old) old.held × (new ≡ old) × (out ≡ room)
TakesBytes room out old new (Ok (Bytes count to)) =
    (next : Held) × (later : List Held) × IsNext old next later × GivesOut old.site.me old.site.catalog next.out room out (Bytes count to) × (new ≡ record old { held = later })
TakesBytes room out old new (Ok (TooSmall needed)) =
    (next : Held) × (later : List Held) × IsNext old next later × GivesOut old.site.me old.site.catalog next.out room out (TooSmall needed) × (new ≡ old)
TakesBytes room out old new (Err _) = (new ≡ old) × (out ≡ room)

-- The host is asked to write what has room, and given it: the records of the group, or the gate before them.
pub record GivesWrite (room out : List ℕ) (old new : HostedState) (count to : ℕ) : Type 0 where
  pub asks : AsksForGroup (length room) old new
  pub write : HostWrite
  pub next : next_write new.site.log ≡ Some write
  pub gives : GivesBytes write.bytes write.place room out (Bytes count to)

-- What is to be written next is given, and the site is as it was, but that the host was asked to write that and has its bytes; or nothing waits; or there is no
-- room for the least that can be written next, and then the host isn't asked to write.
abbrev pub TakesWrite : List ℕ → List ℕ → ByteState → ByteState → Given → Type 0
TakesWrite room out old new Nothing = (least_write old.hosted.site.log ≡ None) × (new ≡ old) × (out ≡ room)
TakesWrite room out old new (Bytes count to) = GivesWrite room out old.hosted new.hosted count to × (new.taken ≡ true) × (new.tags ≡ old.tags)
TakesWrite room out old new (TooSmall needed) = (least_write old.hosted.site.log ≡ Some needed) × (length room < needed) × (new ≡ old) × (out ≡ room)

-- So many bytes at this place are what is to be written next.
abbrev pub IsNextWrite : ℕ → ℕ → Option HostWrite → Type 0
IsNextWrite place count None = ⊥
IsNextWrite place count (Some write) = (write.place ≡ place) × (length write.bytes ≡ count)

-- The host tells that it has written so many bytes at this place. That is taken exactly of what is to be written next, where the host was given its bytes; of
-- what comes after it the host was given nothing yet.
abbrev pub AcceptsWrite : {X E : Type 0} → ℕ → ℕ → ByteState → ByteState → Result X E → Type 0
AcceptsWrite place count old new (Ok _) =
    (old.taken ≡ true) × IsNextWrite place count (next_write old.hosted.site.log) × Writes old.hosted new.hosted × (new.taken ≡ false) × (new.tags ≡ old.tags)
AcceptsWrite place count old new (Err _) = (old.taken ≡ true → IsNextWrite place count (next_write old.hosted.site.log) → ⊥) × (new ≡ old)

-- the line that a report has for the item of this number, by what the site shows of it
abbrev pub item_text : HostedState → ℕ → List ℕ
item_text hosted n =
    line_text hosted.site.catalog (item_line n (reading_at hosted.site.me hosted.site.running n (shown hosted.site.catalog hosted.site.records n)))

-- The item of this number has this name, and is declared so.
pub record IsNamed (hosted : HostedState) (name : List ℕ) (n : ℕ) (item : Item) : Type 0 where
  pub place : place_of name hosted.site.catalog.items ≡ Some n
  pub declared : slice_get hosted.site.catalog.items n ≡ Some item

-- A reading of the item of this name. Something is shown only where all of the log is in the host's file.
abbrev pub ReadsBytes : HostedState → List ℕ → List ℕ → List ℕ → Result Given ValueFault → Type 0
ReadsBytes hosted name room out (Ok given) =
    (n : ℕ) × (item : Item) × IsNamed hosted name n item × (item.site ≡ hosted.site.me) × (log_length hosted ≤ stored_length hosted)
    × GivesBytes (item_text hosted n) 0 room out given
ReadsBytes hosted name room out (Err UnknownName) = (place_of name hosted.site.catalog.items ≡ None) × (out ≡ room)
ReadsBytes hosted name room out (Err NotHere) = ((n : ℕ) × (item : Item) × IsNamed hosted name n item × (item.site ≢ hosted.site.me)) × (out ≡ room)
ReadsBytes hosted name room out (Err Unwritten) =
    ((n : ℕ) × (item : Item) × IsNamed hosted name n item × (item.site ≡ hosted.site.me) × (stored_length hosted < log_length hosted)) × (out ≡ room)
ReadsBytes hosted name room out (Err NoMemory) = out ≡ room
