-- Stretches of a serial run that leave an item alone.
use Rattle.std.specs.Prelude.{◌≡◌, ℕ, true, false, List, All}
use Rattle.pv_base.specs.Assignment.{commits}
use Rattle.pv_base.specs.declared.txn.TxnId.{TxnId}
use Rattle.pv_model.specs.ProgramLaws.{assigns}
use Rattle.pv_model.specs.Serial.{Ordered}

-- No transaction of the order that commits assigns the item.
abbrev pub AssignNothing : ℕ → List TxnId → List Ordered → Type 0
AssignNothing item assignment order = All (λ entry. commits assignment entry.txn ≡ true → assigns entry.program item ≡ false) order
