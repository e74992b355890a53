-- Ways to compact that look right and aren't, and small lists of records that show it.
use Rattle.std.specs.Prelude.{ℕ, pos, map, true, List, [], ◌∷◌, ◌++◌}
use Rattle.pv_base.specs.Catalog.{Declared}
use Rattle.pv_format.specs.Contents.{greatest_epoch}
use Rattle.pv_format.specs.Record.{Record, epoch_begun, prepared, outcome_known}
use Rattle.pv_law_compaction.specs.Compact.{own_commits, sure, changed_values, grouped, saved_from, saved_values, open_promises}
use Rattle.pv_law_step.specs.Examples.{txn_at, either, write}
use Rattle.pv_model.specs.Alternatives.{Read, number_at}

-- The site forgets what it committed.
abbrev pub without_commits : Declared → ℕ → List Record → List Record
without_commits catalog site records = epoch_begun (greatest_epoch records) ∷ (saved_values catalog site records ++ open_promises records)

-- It forgets who is prepared, since all that was promised is in the values.
abbrev pub without_promises : Declared → ℕ → List Record → List Record
without_promises catalog site records = epoch_begun (greatest_epoch records) ∷ (own_commits site records ++ saved_values catalog site records)

-- a value that depends on outcomes, as if none of these transactions committed
abbrev pub made_sure : Read → Read
made_sure read = record { item = read.item; cases = sure (number_at read.cases []) }

-- Values that depend on outcomes are kept as they would be if nothing more committed.
abbrev pub with_sure_values : Declared → ℕ → List Record → List Record
with_sure_values catalog site records =
    epoch_begun (greatest_epoch records)
    ∷ (own_commits site records ++ (saved_from site 0 (grouped (map made_sure (changed_values catalog site records))) ++ open_promises records))

-- It forgets its epoch, and would give the same numbers again.
abbrev pub without_epoch : Declared → ℕ → List Record → List Record
without_epoch catalog site records = own_commits site records ++ (saved_values catalog site records ++ open_promises records)

-- Site 0 has committed a transaction of its own.
abbrev pub settled : List Record
settled = epoch_begun 1 ∷ prepared (txn_at 0 0) (write 0 (sure (pos 90)) ∷ []) ∷ outcome_known (txn_at 0 0) true ∷ []

-- Site 1 is prepared for a transaction of site 0, and knows no more.
abbrev pub in_doubt : List Record
in_doubt = epoch_begun 1 ∷ prepared (txn_at 0 0) (write 1 (sure (pos 60)) ∷ []) ∷ []

-- A transaction of site 1 adds 10 to what there is, and then one of site 0 doubles it. Nothing is decided.
abbrev pub one_after_another : List Record
one_after_another =
    epoch_begun 1
    ∷ prepared (txn_at 1 0) (write 1 (sure (pos 60)) ∷ [])
    ∷ prepared (txn_at 0 0) (write 1 (either (txn_at 1 0) (pos 100) (pos 120)) ∷ [])
    ∷ []

-- the same promises in the order of their transactions' numbers
abbrev pub in_order_of_numbers : List Record
in_order_of_numbers =
    epoch_begun 1
    ∷ prepared (txn_at 0 0) (write 1 (either (txn_at 1 0) (pos 100) (pos 120)) ∷ [])
    ∷ prepared (txn_at 1 0) (write 1 (sure (pos 60)) ∷ [])
    ∷ []
