-- Nodes once outcomes are known, and what is noted of nodes.
use Rattle.std.specs.Prelude.{◌≡◌, ◌<◌, ℕ, Bool, true, false, List, length, get_or, Option, None, Some, IsTrue}
use Rattle.std.specs.List.{Contains}
use Rattle.pv_base.specs.declared.literal.Literal.{Literal}
use Rattle.pv_base.specs.declared.txn.TxnId.{TxnId}
use Rattle.pv_base.specs.Polyvalue.{Case, names, IsCanonical, IsSettled}
use Rattle.pv_tree.specs.Meanings.{cases_at, Keeps}

module _ {V : Type 0} where
  -- The node with this number is the cases once these outcomes are known. It names nothing that they don't name.
  pub record Settles (literals : List Literal) (cases : List (Case V)) (meanings : List (List (Case V))) (number : ℕ) : Type 0 where
    pub there : number < length meanings
    pub settled : IsSettled literals cases (cases_at meanings number)
    pub named : (named : TxnId) → IsTrue (names (cases_at meanings number) named) → IsTrue (names cases named)
    pub canonical : IsCanonical (cases_at meanings number)

  -- Where a node of the first list is noted with a number, that node of the second list is the same once these outcomes are known.
  abbrev pub AreNoted : List Literal → List (List (Case V)) → List (List (Case V)) → List (Option ℕ) → Type 0
  AreNoted literals source target noted = (number found : ℕ) → get_or noted number None ≡ Some found → Settles literals (cases_at source number) target found

  -- The node of the first list is put among those of the second with this number, and what is noted then holds.
  pub record SettlesInto (literals : List Literal) (source old new : List (List (Case V))) (noted : List (Option ℕ)) (number made : ℕ) : Type 0 where
    pub kept : Keeps old new
    pub are_noted : AreNoted literals source new noted
    pub settles : Settles literals (cases_at source number) new made

  -- What a node that was seen names stands in the list.
  abbrev pub AreSeen : List (List (Case V)) → List Bool → List TxnId → Type 0
  AreSeen meanings seen txns = (number : ℕ) → get_or seen number false ≡ true → (txn : TxnId) → IsTrue (names (cases_at meanings number) txn) → Contains txns txn
