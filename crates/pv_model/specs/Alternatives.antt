-- Programs over polyvalues: a program is computed once for each alternative of what it reads (Montgomery, 1979).
use Rattle.std.specs.Prelude.{◌≡◌, ℕ, ℤ, pos, List, map, Some}
use Rattle.std.specs.List.{filter, flat_map}
use Rattle.std.specs.Option.{unwrap_or}
use Rattle.pv_base.specs.declared.txn.TxnId.{TxnId}
use Rattle.pv_base.specs.Polyvalue.{Case, value_at}
use Rattle.pv_base.specs.declared.reply.Reply.{Reply}
use Rattle.pv_model.specs.Meaning.{Row, exec}
use Rattle.pv_model.specs.ProgramLaws.{assigns}
use Rattle.pv_model.specs.Syntax.{Program}

-- an item and its polyvalue
pub record Read : Type 0 where
  pub item : ℕ
  pub cases : List (Case ℤ)

-- the cases of all of them, one after another
abbrev pub all_cases : List Read → List (Case ℤ)
all_cases reads = flat_map (λ read. read.cases) reads

-- The value at the assignment. Sound cases have one; without one it is 0.
abbrev pub number_at : List (Case ℤ) → List TxnId → ℤ
number_at cases assignment = unwrap_or (value_at cases assignment) (pos 0)

-- the rows of ordinary values at the assignment
abbrev pub rows_at : List Read → List TxnId → List Row
rows_at reads assignment = map (λ read. record { item = read.item; value = number_at read.cases assignment }) reads

-- of these rows, those of the items that some assignment of the program names
abbrev pub assigned : Program → List Row → List Row
assigned program rows = filter (λ row. assigns program row.item) rows

-- At every assignment the program, on the values that are read there, leaves the items that it assigns as they are written,
-- and gives the reply.
pub record IsSplit (program : Program) (reads writes : List Read) (reply : List (Case Reply)) : Type 0 where
  pub written : (assignment : List TxnId) → rows_at writes assignment ≡ assigned program (exec program (rows_at reads assignment)).rows
  pub replied : (assignment : List TxnId) → value_at reply assignment ≡ Some (exec program (rows_at reads assignment)).reply
