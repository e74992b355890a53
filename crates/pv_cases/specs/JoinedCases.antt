-- What cases make up, where nothing is wrong with them.
use Rattle.std.specs.Prelude.{◌≡◌, ℕ, List}
use Rattle.pv_base.specs.declared.txn.TxnId.{TxnId}
use Rattle.pv_base.specs.Polyvalue.{Case, AreNames, AreValues, AreSameEverywhere, IsSound, IsPolyvalue, NamesAtMost}

module _ {V : Type 0} (limit : ℕ) (cases : List (Case V)) where
  -- The table has the transactions that the cases name, and their value at each assignment of these. Every assignment meets exactly one
  -- of the cases, and they name so many transactions at most.
  pub record IsTableOf (table : List TxnId × List V) : Type 0 where
    pub sound : IsSound cases
    pub few : NamesAtMost limit cases
    pub names : AreNames cases table.0
    pub values : AreValues cases table.0 table.1

  -- The polyvalue has the values of the cases everywhere. Every assignment meets exactly one of the cases, and they name so many
  -- transactions at most.
  pub record IsJoined (poly : List (Case V)) : Type 0 where
    pub sound : IsSound cases
    pub few : NamesAtMost limit cases
    pub values : AreSameEverywhere poly cases
    pub polyvalue : IsPolyvalue limit poly

  -- The polyvalue is these very cases.
  pub record IsKept (poly : List (Case V)) : Type 0 where
    pub kept : poly ≡ cases
    pub polyvalue : IsPolyvalue limit poly
