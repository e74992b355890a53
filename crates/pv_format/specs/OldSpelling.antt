-- Which bytes spelled a polyvalue of numbers before its tree was spelled: its cases, each with all of its literals. Records so spelled are read still, and never written.
use Rattle.std.specs.Prelude.{ℕ, ℤ, List, length}
use Rattle.pv_base.specs.BigEndian.{IsNumber, IsSigned}
use Rattle.pv_base.specs.declared.limits.TheConstants.{HELD_NAMES}
use Rattle.pv_base.specs.declared.literal.Literal.{Literal}
use Rattle.pv_base.specs.Polyvalue.{Case, IsPolyvalue}
use Rattle.pv_format.specs.Spelling.{◌followed_by◌, IsTruth, SpellsTxn, SpellsEach}

-- A literal is the outcome that it asks for, and the transaction.
abbrev pub SpellsLiteral : Literal → List ℕ → Type 0
SpellsLiteral literal = IsTruth literal.commits followed_by SpellsTxn literal.txn

-- A case is the count of its literals, the literals, and the value.
abbrev pub SpellsCase : Case ℤ → List ℕ → Type 0
SpellsCase case = IsNumber 1 (length case.when) followed_by SpellsEach SpellsLiteral case.when followed_by IsSigned case.value

-- Cases are their count and the cases, whether or not they are a polyvalue.
abbrev pub SpellsCases : List (Case ℤ) → List ℕ → Type 0
SpellsCases cases = IsNumber 2 (length cases) followed_by SpellsEach SpellsCase cases

-- The bytes are the cases, which are canonical and name no more outcomes than a polyvalue may.
pub record SpellsInCases (cases : List (Case ℤ)) (bytes : List ℕ) : Type 0 where
  pub polyvalue : IsPolyvalue HELD_NAMES cases
  pub spelled : SpellsCases cases bytes
