-- The sums of values that depend on outcomes, at every assignment of these.
use Rattle.std.specs.Prelude.{◌≡◌, ℕ, ℤ, ◌≤◌, List, length, Option, Some, None}
use Rattle.std.specs.List.{flat_map}
use Rattle.pv_base.specs.declared.txn.TxnId.{TxnId}
use Rattle.pv_base.specs.Polyvalue.{Case, AreNames}
use Rattle.pv_model.specs.PossibleAnswers.{sums}
use Rattle.pv_query.specs.declared.adding.SumError.{SumError}
use Rattle.pv_query.specs.declared.adding.SumError.TheVariants.{OutcomeLimit, NoMemory}

-- the count of outcomes that the error reports, unless it is out of memory
abbrev pub count_of : SumError → Option ℕ
count_of (OutcomeLimit count) = Some count
count_of NoMemory = None

-- the cases of all the values, one after another
abbrev pub together : {V : Type 0} → List (List (Case V)) → List (Case V)
together values = flat_map (λ cases. cases) values

-- The numbers are the sums at every assignment of the outcomes that the values name together, which are so many at most.
pub record AreAllSums (limit : ℕ) (values : List (List (Case ℤ))) (numbers : List ℤ) : Type 0 where
  pub txns : List TxnId
  pub named : AreNames (together values) txns
  pub few : length txns ≤ limit
  pub sums : numbers ≡ sums values txns
