-- Which of the cases that are left the assignments of the transactions that are left meet.
use Rattle.std.specs.Prelude.{ℕ, Bool, not, ◌||◌, List, [], map, slice_index_or}
use Rattle.std.specs.Bool.{beq}
use Rattle.std.specs.List.{filter, list_all, list_any}
use Rattle.pv_base.specs.declared.literal.Literal.{Literal}
use Rattle.pv_base.specs.declared.txn.TxnId.{TxnId}
use Rattle.pv_base.specs.Assignment.{is_same_txn, assignments}
use Rattle.pv_base.specs.Polyvalue.{Case, is_met}
use Rattle.pv_cases.specs.declared.meetings.Meeting.{Meeting}
use Rattle.pv_cases.specs.Meetings.{meeting_of}

-- No literal of the condition asks for the other outcome of the transaction.
abbrev pub allows : TxnId → Bool → List Literal → Bool
allows txn outcome when = list_all (λ literal. not (is_same_txn literal.txn txn) || beq literal.commits outcome) when

-- Those literals of the condition are met that are on one of the transactions.
abbrev pub meets_on : List TxnId → List Literal → List TxnId → Bool
meets_on txns when assignment = list_all (λ literal. not (list_any (is_same_txn literal.txn) txns) || is_met assignment literal) when

-- the condition of the case at this place
abbrev pub condition_at : {V : Type 0} → List (Case V) → ℕ → List Literal
condition_at cases place = slice_index_or (map (λ case. case.when) cases) place []

-- the places at which the case allows this outcome of the transaction
abbrev pub places_with : {V : Type 0} → List (Case V) → TxnId → Bool → List ℕ → List ℕ
places_with cases txn outcome places = filter (λ place. allows txn outcome (condition_at cases place)) places

-- for each assignment of these transactions, in order, the first two of those places whose case's literals on them are met
unfoldable pub meetings_among : {V : Type 0} → List (Case V) → List ℕ → List TxnId → List Meeting
meetings_among cases places txns =
    map (λ assignment. meeting_of (filter (λ place. meets_on txns (condition_at cases place) assignment) places)) (assignments txns)
