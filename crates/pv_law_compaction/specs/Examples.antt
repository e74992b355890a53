-- A worked example: the records of a site, and what they are compacted to.
use Rattle.std.specs.Prelude.{pos, true, List, [], ◌∷◌}
use Rattle.pv_format.specs.Record.{Record, epoch_begun, prepared, outcome_known}
use Rattle.pv_law_compaction.specs.Compact.{saving_txn, sure}
use Rattle.pv_law_step.specs.Examples.{txn_at, either, write}

-- Site 1, where an item of 50 is. One transaction of site 0 and one of its own have committed, one of site 0 is in doubt, and the site has started again.
abbrev pub written : List Record
written =
    epoch_begun 1
    ∷ prepared (txn_at 0 0) (write 1 (sure (pos 60)) ∷ [])
    ∷ outcome_known (txn_at 0 0) true
    ∷ prepared (txn_at 1 0) (write 1 (sure (pos 65)) ∷ [])
    ∷ outcome_known (txn_at 1 0) true
    ∷ prepared (txn_at 0 1) (write 1 (sure (pos 70)) ∷ [])
    ∷ epoch_begun 2
    ∷ []

-- Its epoch, its own commit, the value with its doubt, and who is in doubt.
abbrev pub kept : List Record
kept =
    epoch_begun 2
    ∷ outcome_known (txn_at 1 0) true
    ∷ prepared (saving_txn 1 0) (write 1 (either (txn_at 0 1) (pos 65) (pos 70)) ∷ [])
    ∷ outcome_known (saving_txn 1 0) true
    ∷ prepared (txn_at 0 1) []
    ∷ []
