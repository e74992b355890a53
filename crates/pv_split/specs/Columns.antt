-- What a program reads, does and writes at each assignment of some transactions, in the order of `assignments`.
use Rattle.std.specs.Prelude.{ℕ, ℤ, pos, List, map, get_or}
use Rattle.pv_base.specs.declared.txn.TxnId.{TxnId}
use Rattle.pv_base.specs.Assignment.{assignments}
use Rattle.pv_model.specs.Alternatives.{Read, number_at, rows_at}
use Rattle.pv_model.specs.Meaning.{Row, Effect, exec}
use Rattle.pv_model.specs.Syntax.{Program}

-- an item and its value at each assignment
pub record Column : Type 0 where
  pub item : ℕ
  pub values : List ℤ

abbrev pub column_of : List TxnId → Read → Column
column_of txns read = record { item = read.item; values = map (number_at read.cases) (assignments txns) }

-- the columns of what is read
abbrev pub columns_of : List Read → List TxnId → List Column
columns_of reads txns = map (column_of txns) reads

-- the row that a column has at the assignment at this place
abbrev pub row_at : ℕ → Column → Row
row_at place column = record { item = column.item; value = get_or column.values place (pos 0) }

-- what the program does at each assignment
abbrev pub effects_at : Program → List Read → List TxnId → List Effect
effects_at program reads txns = map (λ assignment. exec program (rows_at reads assignment)) (assignments txns)

-- the value of the row at this place
abbrev pub value_in_row : ℕ → Effect → ℤ
value_in_row index effect = (get_or effect.rows index (record { item = 0; value = pos 0 })).value

-- the value that each effect leaves in the row at this place
abbrev pub values_in_row : ℕ → List Effect → List ℤ
values_in_row index effects = map (value_in_row index) effects
