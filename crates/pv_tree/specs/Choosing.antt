-- Choices between nodes, and what is noted of them.
use Rattle.std.specs.Prelude.{◌≡◌, ◌<◌, ◌⊎◌, ℕ, List, length, get_or, Option, None, Some}
use Rattle.pv_base.specs.declared.txn.TxnId.{TxnId}
use Rattle.pv_base.specs.Polyvalue.{Case}
use Rattle.pv_tree.specs.Meanings.{cases_at, Keeps, Chooses}

-- Of one place this is noted, and of the others what was noted before.
abbrev pub IsNoted : {X : Type 0} → List (Option X) → List (Option X) → ℕ → X → Type 0
IsNoted old new place noted = (other : ℕ) (found : _) → get_or new other None ≡ Some found → ((other ≡ place) × (found ≡ noted)) ⊎ (get_or old other None ≡ Some found)

module _ {V : Type 0} (txn : TxnId) where
  -- The node with the last number is the second one where the transaction commits, and else the first.
  pub record IsChosenAt (meanings : List (List (Case V))) (aborted committed made : ℕ) : Type 0 where
    pub aborted_there : aborted < length meanings
    pub committed_there : committed < length meanings
    pub chooses : Chooses txn (cases_at meanings aborted) (cases_at meanings committed) meanings made

  -- What is noted of a node is another, and the choice between both.
  abbrev pub AreChosen : List (List (Case V)) → List (Option (ℕ × ℕ)) → Type 0
  AreChosen meanings noted = (aborted : ℕ) (found : ℕ × ℕ) → get_or noted aborted None ≡ Some found → IsChosenAt meanings aborted found.0 found.1

  -- The choice between two nodes stands among them with this number, and what is noted then holds.
  pub record ChoosesInto (old new : List (List (Case V))) (noted : List (Option (ℕ × ℕ))) (aborted committed made : ℕ) : Type 0 where
    pub kept : Keeps old new
    pub are_noted : AreChosen new noted
    pub chooses : Chooses txn (cases_at old aborted) (cases_at old committed) new made
