-- How many cases a test has.
use Rattle.std.proofs.Common.{◌≡◌, ◌≤◌, ◌+◌, false, true, ◌++◌, List, length, arith, length-append}
use Rattle.std.proofs.lemmas.List.{length-map}
use Rattle.pv_base.specs.Polyvalue.{Case, under, IsCanonical, sure, tested}

pub length-under : {V : Type 0} (txn : _) (outcome : _) (cases : List (Case V)) → length (under txn outcome cases) ≡ length cases
length-under txn outcome cases = length-map cases _

-- how many cases a test has
pub length-tested : {V : Type 0} (txn : _) (aborted committed : List (Case V)) → length (under txn false aborted ++ under txn true committed) ≡ length aborted + length committed
length-tested txn aborted committed =
    omega (arith, length-append (under txn false aborted) (under txn true committed), length-under txn false aborted, length-under txn true committed)

-- canonical cases aren't none
pub some_case : {V : Type 0} {cases : List (Case V)} → IsCanonical cases → 1 ≤ length cases
some_case (sure value) = omega arith
some_case (tested txn aborted committed f b fb bb d) = omega (arith, some_case f, length-tested txn aborted committed)
