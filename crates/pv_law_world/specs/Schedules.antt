-- Catalogs and schedules of which laws say what they print.
use Rattle.std.specs.Prelude.{ℕ, pos, false, true, Some, None, List, [], ◌∷◌, ◌++◌, codes}
use Rattle.pv_base.specs.declared.limits.TheConstants.{MAX_JOURNAL, READ_NAMES, HELD_NAMES}
use Rattle.pv_base.specs.Catalog.{Item}
use Rattle.pv_base.specs.declared.mode.Mode.{Mode}
use Rattle.pv_model.specs.Events.{Event, submit, deliver, pump, lose, drop, tick, stop, start, arm, report}
use Rattle.pv_model.specs.Syntax.{Op, Expr, Program}
use Rattle.pv_protocol.specs.State.{Setup}

-- these items at so many sites, with the greatest journals
abbrev pub setup_of : ℕ → List Item → Setup
setup_of sites items = record { catalog = record { sites = sites; journal = MAX_JOURNAL; items = items }; read_names = READ_NAMES; held_names = HELD_NAMES }

-- `item a 0 VALUE` at one site
abbrev pub alone : ℕ → Setup
alone value = setup_of 1 (record { name = codes "a"; site = 0; value = pos value } ∷ [])

-- an item gets its value and a number more or less, and then the rest of the program runs
abbrev pub changed : Op → ℕ → ℕ → Program → Program
changed op n amount rest = Program.assign n (Expr.two op (Expr.item n) (Expr.number (pos amount))) rest

-- `a := a + 1` and `a := a + 2`, at site 0
abbrev pub one_more : Event
one_more = submit 0 false (codes "a := a + 1") (changed Op.plus 0 1 Program.end)

abbrev pub two_more : Event
two_more = submit 0 false (codes "a := a + 2") (changed Op.plus 0 2 Program.end)

-- `a := a - 10 ; b := b + 10`, at site 0
abbrev pub transfer : Event
transfer = submit 0 false (codes "a := a - 10 ; b := b + 10") (changed Op.sub 0 10 (changed Op.plus 1 10 Program.end))

-- all messages are delivered
abbrev pub pump_all : Event
pump_all = pump None

-- so many messages are delivered
abbrev pub pumped : ℕ → Event
pumped most = pump (Some most)

-- the site ticks three times, which ends what waits there
abbrev pub three_ticks : ℕ → List Event
three_ticks site = tick site ∷ tick site ∷ tick site ∷ []

-- Site 1 doesn't hear of the outcome, and its question for it is lost.
abbrev pub outcome_unheard : List Event
outcome_unheard = transfer ∷ pumped 8 ∷ lose 8 ∷ three_ticks 1 ++ lose 9 ∷ report ∷ []

-- Site 1 restarts while it holds a grant, takes the request for locks again, and then the vote that was asked for under the old grant.
abbrev pub old_prepare : List Event
old_prepare =
    transfer ∷ pumped 4 ∷ stop 1 ∷ start 1 ∷ deliver 1 ∷ deliver 5 ∷ deliver 7 ∷ pump_all ∷ report ∷ []

-- Site 0 stops in this call of the append of its commit record, with what was written kept or not, and is started again.
abbrev pub stop_in_commit : ℕ → Mode → List Event
stop_in_commit call mode = transfer ∷ pumped 7 ∷ arm 0 call mode true ∷ deliver 7 ∷ start 0 ∷ report ∷ []

-- Then each site comes to ask for the outcome, and hears it.
abbrev pub outcome_asked : List Event
outcome_asked = tick 0 ∷ three_ticks 1 ++ pump_all ∷ report ∷ []

-- The third call of site 1 fails while it records its promise, with what was written kept or not, and it is started again.
abbrev pub fault_in_prepare : Mode → List Event
fault_in_prepare mode = transfer ∷ pumped 5 ∷ arm 1 3 mode false ∷ deliver 5 ∷ start 1 ∷ report ∷ []

-- The request for locks at site 1 is lost.
abbrev pub lock_lost : List Event
lock_lost = transfer ∷ drop 1 ∷ pump_all ∷ three_ticks 0 ++ report ∷ []

-- one item at one site, with journals of at most so many bytes
abbrev pub short_of_room : ℕ → Setup
short_of_room bytes = record (alone 100) { catalog = record { sites = 1; journal = bytes; items = (alone 100).catalog.items } }

-- A site stops and starts, twice.
abbrev pub two_restarts : List Event
two_restarts = stop 0 ∷ start 0 ∷ stop 0 ∷ start 0 ∷ []

-- Site 1's grant ends before the transaction is prepared there, and an old request for locks is granted anew, with a report
-- before and after each. The vote that is asked for comes last.
abbrev pub granted_anew : List Event
granted_anew = transfer ∷ pumped 4 ∷ report ∷ three_ticks 1 ++ report ∷ deliver 1 ∷ report ∷ deliver 5 ∷ report ∷ pump_all ∷ report ∷ []
