-- Short runs with small limits: a refusal of each kind.
use Rattle.std.specs.Prelude.{ℕ, false, true, List, [], ◌∷◌, ◌++◌, codes}
use Rattle.pv_base.specs.declared.reply.Reply.TheVariants.{Nothing}
use Rattle.pv_base.specs.declared.txn.TxnId.{TxnId}
use Rattle.pv_law_world.specs.ExampleLines.{t, u}
use Rattle.pv_law_step.specs.Examples.{bank}
use Rattle.pv_law_world.specs.Schedules.{one_more, two_more, changed, transfer, pump_all, pumped, three_ticks}
use Rattle.pv_model.specs.Events.{Event, submit, deliver, drop, stop, start}
use Rattle.pv_model.specs.Syntax.{Op, Expr, Program}
use Rattle.pv_protocol.specs.Lines.{Line}
use Rattle.pv_protocol.specs.State.{Setup}
use Rattle.pv_protocol.specs.State as state

-- `item a 0 100` and `item b 1 50`, where so many outcomes may be read and held, and journals have so many bytes
abbrev pub limited : (read_names held_names journal : ℕ) → Setup
limited read_names held_names journal =
    record bank { catalog = record { sites = 2; journal = journal; items = bank.catalog.items }; read_names = read_names; held_names = held_names }

-- site 1's first transaction
abbrev pub at_one : TxnId
at_one = record { site = record { 0 = 1 }; epoch = 1; number = 0 }

-- `b := b + 1` at site 0, and the query `return b` at site 1
abbrev pub raise_b : Event
raise_b = submit 0 false (codes "b := b + 1") (changed Op.plus 1 1 Program.end)

abbrev pub read_b : Event
read_b = submit 1 true (codes "return b") (Program.return (Expr.item 1) Program.end)

-- A transfer is in doubt at site 1, whose item can be read.
abbrev pub doubted : List Event
doubted = transfer ∷ pumped 6 ∷ three_ticks 1

-- Two transactions want `a`.
abbrev pub contested : List Event
contested = one_more ∷ two_more ∷ pump_all ∷ []

-- The doubtful item is locked for the query, and read.
abbrev pub read_only : List Event
read_only = doubted ++ read_b ∷ deliver 9 ∷ deliver 10 ∷ []

-- Site 1 is asked for `require certain b`.
abbrev pub read_certain : List Event
read_certain = doubted ++ submit 1 false (codes "require certain b") (Program.certain 1 Program.end) ∷ deliver 9 ∷ deliver 10 ∷ []

-- The request for locks at site 1 is lost.
abbrev pub unanswered : List Event
unanswered = transfer ∷ drop 1 ∷ pump_all ∷ three_ticks 0

-- Site 1 restarts before it is asked for its vote.
abbrev pub forgotten : List Event
forgotten = transfer ∷ pumped 4 ∷ stop 1 ∷ start 1 ∷ pump_all ∷ []

-- what is printed
abbrev pub contested_lines : List Line
contested_lines = Line.txn t ∷ Line.txn u ∷ Line.refuse u (state.conflict 0 0 t) ∷ Line.commit t (Nothing ∷ []) ∷ []
