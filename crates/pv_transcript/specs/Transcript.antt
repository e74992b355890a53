-- The text of a run on threads.
use Rattle.std.specs.Prelude.{ℕ, List, [], ◌∷◌, ◌++◌, codes}
use Rattle.pv_base.specs.Catalog.{Declared}
use Rattle.pv_model.specs.Events.{Event, report, total}
use Rattle.pv_protocol.specs.LineText.{text_of}
use Rattle.pv_protocol.specs.Run.{printed}
use Rattle.pv_protocol.specs.State.{Setup}
use Rattle.pv_transcript.specs.Heard.{Heard, clients_text}
use Rattle.pv_transcript.specs.ScheduleText.{schedule_text}

-- events, and then the reports of all items and of their sum
abbrev pub with_reports : List Event → List Event
with_reports events = events ++ report ∷ total ∷ []

-- the first parts: the schedule that the run came to
abbrev pub schedule_part : Declared → List Event → List ℕ
schedule_part catalog events = codes "schedule\n" ++ schedule_text catalog events

-- the next ones: what each client heard of each request
abbrev pub clients_part : Declared → List (List Heard) → List ℕ
clients_part catalog heard = codes "clients\n" ++ clients_text catalog 0 heard

-- the last ones: what the schedule prints
abbrev pub answers_part : Declared → Setup → List Event → List ℕ
answers_part catalog setup events = codes "answers\n" ++ text_of catalog (printed setup events)

-- the whole text of a run that came to these events
abbrev pub transcript : Declared → Setup → List Event → List (List Heard) → List ℕ
transcript catalog setup events heard =
    schedule_part catalog (with_reports events) ++ (clients_part catalog heard ++ answers_part catalog setup (with_reports events))
