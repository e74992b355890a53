-- Lines that the examples' schedules print.
use Rattle.std.specs.Prelude.{ℕ, ℤ, pos, Bool, false, true, List, [], ◌∷◌, ◌++◌}
use Rattle.pv_base.specs.Polyvalue.{Case}
use Rattle.pv_base.specs.declared.txn.TxnId.{TxnId}
use Rattle.pv_protocol.specs.Lines.{Line}
use Rattle.pv_protocol.specs.State.{grant_lost}

-- a transaction of site 0, by its epoch and its number
abbrev pub txn_in : ℕ → ℕ → TxnId
txn_in epoch number = record { site = record { 0 = 0 }; epoch = epoch; number = number }

-- site 0's first transaction
abbrev pub t : TxnId
t = txn_in 1 0

-- site 0's second transaction
abbrev pub u : TxnId
u = txn_in 1 1

-- a value that depends on no outcome
abbrev pub sure : ℕ → List (Case ℤ)
sure value = record { when = []; value = pos value } ∷ []

-- the old value unless the first transaction commits, and else the new one
abbrev pub either : ℕ → ℕ → List (Case ℤ)
either old new =
    record { when = record { txn = t; commits = false } ∷ []; value = pos old }
    ∷ record { when = record { txn = t; commits = true } ∷ []; value = pos new } ∷ []

-- a report: the order, the committed, the open, and the items
abbrev pub report_lines : List TxnId → List TxnId → List TxnId → List Line → List Line
report_lines order committed open_ones items = Line.order order ∷ Line.committed committed ∷ Line.open_ones open_ones ∷ items ++ Line.end ∷ []

-- the values of both items
abbrev pub values : List (Case ℤ) → List (Case ℤ) → List Line
values a b = Line.item 0 a ∷ Line.item 1 b ∷ []

-- what a report says of the first transaction after a stop in its commit record: it has committed, or it hasn't
abbrev pub report_after_stop : Bool → List Line
report_after_stop true = report_lines (t ∷ []) (t ∷ []) [] (Line.item 0 (sure 90) ∷ Line.item_locked 1 t ∷ [])
report_after_stop false = report_lines (t ∷ []) [] [] (Line.item 0 (either 100 90) ∷ Line.item_locked 1 t ∷ [])

-- the same, when every site has heard the outcome
abbrev pub report_after_outcome : Bool → List Line
report_after_outcome true = report_lines (t ∷ []) (t ∷ []) [] (values (sure 90) (sure 60))
report_after_outcome false = report_lines (t ∷ []) [] [] (values (sure 100) (sure 50))

-- what is printed where site 0 stops in the commit record, starts again, and every site hears the outcome
abbrev pub stopped_in_commit : Bool → List Line
stopped_in_commit committed =
    Line.txn t ∷ (Line.stopped 0 ∷ (Line.started 0 2 ∷ (report_after_stop committed ++ report_after_outcome committed)))

-- both items, held by the first transaction
abbrev pub both_held : List Line
both_held = Line.item_locked 0 t ∷ Line.item_locked 1 t ∷ []

-- what is printed where the grant of site 1 ends and its locks are granted anew: the transaction isn't open any more
abbrev pub lost_for_good : List Line
lost_for_good =
    Line.txn t ∷ report_lines (t ∷ []) [] (t ∷ []) both_held
    ++ report_lines (t ∷ []) [] [] (Line.item_locked 0 t ∷ Line.item 1 (sure 50) ∷ [])
    ++ report_lines (t ∷ []) [] [] both_held ++ report_lines (t ∷ []) [] [] both_held
    ++ Line.refuse t (grant_lost 1) ∷ report_lines (t ∷ []) [] [] (values (sure 100) (sure 50))
