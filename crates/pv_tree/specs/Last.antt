-- The last of a list of nodes.
use Rattle.std.specs.Prelude.{◌≡◌, ◌≤◌, ◌-◌, List, length}
use Rattle.pv_base.specs.Polyvalue.{Case}
use Rattle.pv_tree.specs.Meanings.{cases_at}

module _ {V : Type 0} where
  -- The last node is that of these cases.
  pub record IsLast (meanings : List (List (Case V))) (cases : List (Case V)) : Type 0 where
    pub some : 1 ≤ length meanings
    pub is : cases_at meanings (length meanings - 1) ≡ cases
