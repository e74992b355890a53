-- When values are those of the serial run.
use Rattle.std.specs.Prelude.{◌≡◌, ℕ, ℤ, true, List, [], ◌∷◌, ◌++◌, Some}
use Rattle.pv_base.specs.Assignment.{commits}
use Rattle.pv_base.specs.Catalog.{Declared}
use Rattle.pv_base.specs.Polyvalue.{Case}
use Rattle.pv_base.specs.declared.txn.TxnId.{TxnId}
use Rattle.pv_model.specs.Alternatives.{Read, number_at}
use Rattle.pv_model.specs.Meaning.{value_in}
use Rattle.pv_model.specs.Serial.{declared_rows, serial}
use Rattle.pv_protocol.specs.Committed.{Fits, programs_of}
use Rattle.pv_protocol.specs.Shown.{written}
use Rattle.pv_protocol.specs.State.{Placed}
use Rattle.pv_protocol.specs.World.{World}

-- At the assignment each of the values is the one that the serial run of the stretch leaves.
abbrev pub HaveSerialValues : Declared → List Placed → List TxnId → List Read → Type 0
HaveSerialValues catalog stretch assignment reads =
    (item : ℕ) (cases : List (Case ℤ)) → written item reads ≡ Some cases
    → number_at cases assignment ≡ value_in (serial (declared_rows catalog) (programs_of stretch) assignment) item

-- At each assignment that fits the world and in which the transaction commits, the values are those before its place.
abbrev pub AreBefore : Declared → World → TxnId → List Read → Type 0
AreBefore catalog world txn reads =
    (front rest : List Placed) (placed : Placed) → world.order ≡ front ++ placed ∷ rest → placed.txn ≡ txn
    → (assignment : List TxnId) → Fits world assignment → commits assignment txn ≡ true → HaveSerialValues catalog front assignment reads

-- And there the values are those after its place.
abbrev pub AreAfter : Declared → World → TxnId → List Read → Type 0
AreAfter catalog world txn writes =
    (front rest : List Placed) (placed : Placed) → world.order ≡ front ++ placed ∷ rest → placed.txn ≡ txn
    → (assignment : List TxnId) → Fits world assignment → commits assignment txn ≡ true
    → HaveSerialValues catalog (front ++ placed ∷ []) assignment writes
