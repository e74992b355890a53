-- A schedule written out, line by line: the words of a line are parted by one space, and numbers have no leading zeros.
use Rattle.std.specs.Prelude.{ℕ, Bool, true, false, Some, None, List, [], ◌++◌, codes}
use Rattle.std.specs.List.{flat_map}
use Rattle.std.specs.Fmt.{signed_decimal}
use Rattle.pv_base.specs.Catalog.{Declared, Item}
use Rattle.pv_base.specs.declared.mode.Mode.{Mode}
use Rattle.pv_base.specs.declared.mode.Mode.TheVariants.{Lost, Kept, Torn}
use Rattle.pv_model.specs.Events.{Event, submit, deliver, pump, lose, drop, tick, stop, start, arm, mend, checkpoint, sent, report, total}
use Rattle.pv_model.specs.ReplyText.{line_feed}
use Rattle.pv_model.specs.Schedule.{request_word}
use Rattle.pv_protocol.specs.LineText.{numbered_text}

-- the word for what is left of what wasn't synced
abbrev pub mode_text : Mode → List ℕ
mode_text Lost = codes "lost"
mode_text Kept = codes "kept"
mode_text Torn = codes "torn"

-- the word of a call that stops its site, or fails
abbrev pub armed_word : Bool → List ℕ
armed_word true = codes "cut"
armed_word false = codes "fail"

-- a request, with the text of its program
abbrev pub request_text : (site : ℕ) (query : Bool) (text : List ℕ) → List ℕ
request_text site query text = numbered_text (request_word query) site ++ (codes " " ++ text)

-- a write or a sync that stops its site, or fails
abbrev pub armed_text : (site call : ℕ) (mode : Mode) (stops : Bool) → List ℕ
armed_text site call mode stops = numbered_text (armed_word stops) site ++ (numbered_text [] call ++ (codes " " ++ mode_text mode))

-- the words of an event; the program of a request stands as its text
unfoldable pub event_words : Event → List ℕ
event_words (submit site query text program) = request_text site query text
event_words (deliver n) = numbered_text (codes "deliver") n
event_words (pump None) = codes "pump"
event_words (pump (Some most)) = numbered_text (codes "pump") most
event_words (lose n) = numbered_text (codes "lose") n
event_words (drop site) = numbered_text (codes "drop") site
event_words (tick site) = numbered_text (codes "tick") site
event_words (stop site) = numbered_text (codes "stop") site
event_words (start site) = numbered_text (codes "start") site
event_words (arm site call mode stops) = armed_text site call mode stops
event_words (mend site) = numbered_text (codes "mend") site
event_words (checkpoint site) = numbered_text (codes "checkpoint") site
event_words sent = codes "sent"
event_words report = codes "report"
event_words total = codes "total"

-- the line of an event
abbrev pub event_line : Event → List ℕ
event_line event = event_words event ++ line_feed

-- the lines of events, one after another
abbrev pub events_text : List Event → List ℕ
events_text events = flat_map event_line events

-- the line of an item
unfoldable pub item_line : Item → List ℕ
item_line item = codes "item " ++ (item.name ++ (numbered_text [] item.site ++ (codes " " ++ (signed_decimal item.value ++ line_feed))))

-- the lines of a catalog: how many sites there are, the limit of each journal, and the items in order of declaration
unfoldable pub catalog_text : Declared → List ℕ
catalog_text catalog =
    numbered_text (codes "sites") catalog.sites ++ (line_feed ++ (numbered_text (codes "journal") catalog.journal ++ (line_feed ++ flat_map item_line catalog.items)))

-- a whole schedule
abbrev pub schedule_text : Declared → List Event → List ℕ
schedule_text catalog events = catalog_text catalog ++ events_text events
