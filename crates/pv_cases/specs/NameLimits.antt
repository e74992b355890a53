-- Polyvalues that may name only so many transactions.
use Rattle.std.specs.Prelude.{◌≡◌, ℕ, ◌<◌, List, length, Option, Some, None}
use Rattle.pv_base.specs.declared.faults.NameError.{NameError}
use Rattle.pv_base.specs.declared.faults.NameError.TheVariants.{TooManyOutcomes, NoMemory}
use Rattle.pv_base.specs.declared.txn.TxnId.{TxnId}
use Rattle.pv_base.specs.Polyvalue.{Case, AreNames, IsPolyvalue, IsChoice, ChoiceNames}

-- the count of names that the error reports, unless it is out of memory
abbrev pub count_of : NameError → Option ℕ
count_of (TooManyOutcomes count) = Some count
count_of NoMemory = None

module _ {V : Type 0} (limit : ℕ) where
  -- The cases name so many transactions, which is more than the limit.
  pub record NameTooMany (cases : List (Case V)) (count : ℕ) : Type 0 where
    pub txns : List TxnId
    pub named : AreNames cases txns
    pub counted : length txns ≡ count
    pub over : limit < count

  module _ (txn : TxnId) (aborted committed : List (Case V)) where
    -- The polyvalue has the value of the second cases where the transaction commits, and else of the first ones.
    pub record IsChosen (poly : List (Case V)) : Type 0 where
      pub choice : IsChoice txn aborted committed poly
      pub polyvalue : IsPolyvalue limit poly

    -- The canonical cases of this choice name so many transactions, which is more than the limit.
    pub record ChoiceNamesTooMany (count : ℕ) : Type 0 where
      pub names : ChoiceNames txn aborted committed count
      pub over : limit < count
