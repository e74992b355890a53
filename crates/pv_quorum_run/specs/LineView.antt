-- Lines as plain data.
use Rattle.std.specs.Prelude.{ℕ, Bool, true, false}
use Rattle.pv_law_decisions.specs.Lines as printed
use Rattle.pv_law_decisions.specs.Lines.{told, no_message, down, up, stopped, fault, started}
use Rattle.pv_law_decisions.specs.Scene.{broken_line}
use Rattle.pv_law_quorum.specs.Decider.{decided, spent, full}
use Rattle.pv_quorum_run.specs.declared.cell.Start.{Start}
use Rattle.pv_quorum_run.specs.declared.cell.Start.TheVariants as start
use Rattle.pv_quorum_run.specs.declared.printing.Line.{Line}
use Rattle.pv_quorum_run.specs.declared.printing.Line.TheVariants.{Decided, Spent, Full, NoMessage, Down, Up, Stopped, Fault, Started}

abbrev pub line_of : Line → printed.Line
line_of (Decided decider txn commits) = told (decided decider txn commits)
line_of (Spent decider) = told (spent decider)
line_of (Full decider length) = told (full decider length)
line_of (NoMessage number) = no_message number
line_of (Down decider) = down decider
line_of (Up decider) = up decider
line_of (Stopped decider) = stopped decider
line_of (Fault decider) = fault decider
line_of (Started decider) = started decider

-- the line of a stop, by whether the decider was up
abbrev pub stop_line : ℕ → Bool → printed.Line
stop_line n true = stopped n
stop_line n false = down n

-- the line of a start, by what came of it
abbrev pub start_line : ℕ → Start → printed.Line
start_line n start.Up = up n
start_line n start.Started = started n
start_line n (start.Broke stops) = broken_line n stops
