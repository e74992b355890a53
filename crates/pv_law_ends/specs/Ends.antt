-- Which lines tell how a transaction ends, and the claims that of each one does at most, at its own site.
use Rattle.std.specs.Prelude.{◌≡◌, Some, List, AllPairs, Contains}
use Rattle.pv_base.specs.declared.txn.TxnId.{TxnId}
use Rattle.pv_law_world.specs.Transitions.{site_of}
use Rattle.pv_protocol.specs.Committed.{home_of}
use Rattle.pv_protocol.specs.Lines.{Line}
use Rattle.pv_protocol.specs.Places.{Place, world_before}
use Rattle.pv_protocol.specs.Run.{lines_of_transitions}
use Rattle.pv_protocol.specs.World.{World}
use Rattle.pv_protocol.specs.WorldStep.{Transition}

-- The line tells how the transaction ends: it has committed, or is refused.
abbrev pub TellsEnd : TxnId → Line → Type 0
TellsEnd txn (Line.commit ended replies) = ended ≡ txn
TellsEnd txn (Line.refuse ended cause) = ended ≡ txn
TellsEnd txn line = ⊥

-- The two lines don't tell how one transaction ends.
abbrev pub TellOtherEnds : Line → Line → Type 0
TellOtherEnds line later = (txn : TxnId) → TellsEnd txn line → TellsEnd txn later → ⊥

-- No two lines of a run tell how one transaction ends.
abbrev pub TxnsEndOnce : List Transition → Type 0
TxnsEndOnce transitions = AllPairs TellOtherEnds (lines_of_transitions transitions)

-- A transition that prints how a transaction ends is of that transaction's site.
abbrev pub TxnsEndAtHome : World → List Transition → Type 0
TxnsEndAtHome first transitions =
    (place : Place transitions) (txn : TxnId) (line : Line) → Contains place.transition.lines line → TellsEnd txn line
    → site_of (world_before first place) place.transition.event ≡ Some (home_of txn)
