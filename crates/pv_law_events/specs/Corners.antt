-- Short runs that tell apart what the laws on runs don't look at: how many calls a start makes, how faults count them, how grants age, and
-- which locks hide an item.
use Rattle.std.specs.Prelude.{ℕ, true, false, codes, List, [], ◌∷◌}
use Rattle.pv_base.specs.declared.mode.Mode.TheVariants.{Kept, Lost}
use Rattle.pv_law_world.specs.Schedules.{transfer, pump_all, pumped}
use Rattle.pv_model.specs.Events.{Event, deliver, tick, stop, start, report, arm, mend, submit}
use Rattle.pv_model.specs.Syntax.{Program, Expr}

-- Site 0 restarts between two transfers.
abbrev pub numbered_anew : List Event
numbered_anew = transfer ∷ stop 0 ∷ start 0 ∷ transfer ∷ []

-- The first call stops site 0 in a start that its journal has no room for.
abbrev pub fault_in_refused_start : List Event
fault_in_refused_start = stop 0 ∷ start 0 ∷ stop 0 ∷ arm 0 1 Lost true ∷ start 0 ∷ []

-- This call fails in a start of site 1, with what was written kept, and it is started again.
abbrev pub fault_in_start : ℕ → List Event
fault_in_start call = stop 1 ∷ arm 1 call Kept false ∷ start 1 ∷ start 1 ∷ []

-- The fault comes in the append after the next one.
abbrev pub armed_beyond : List Event
armed_beyond = transfer ∷ arm 0 5 Lost true ∷ pump_all ∷ []

-- The fault is taken back before it comes.
abbrev pub armed_and_mended : List Event
armed_and_mended = transfer ∷ arm 0 1 Lost true ∷ mend 0 ∷ pump_all ∷ []

-- Site 1 ticks twice before it promises, and once after that.
abbrev pub promised_late : List Event
promised_late = transfer ∷ pumped 5 ∷ tick 1 ∷ tick 1 ∷ deliver 5 ∷ tick 1 ∷ report ∷ []

-- Site 1 grants a shared lock on `b`.
abbrev pub shared_grant : List Event
shared_grant = submit 0 true (codes "return b") (Program.return (Expr.item 1) Program.end) ∷ pumped 1 ∷ report ∷ []
