-- The forms in which a polyvalue stands in bytes.
use Rattle.std.specs.Prelude.{ℕ, ℤ, List}
use Rattle.pv_base.specs.Polyvalue.{Case}
use Rattle.pv_format.specs.OldSpelling.{SpellsInCases}
use Rattle.pv_format.specs.PolyvalueSpelling.{SpellsPolyvalue, SpellsSure}

pub data Form : Type 0 where
  -- its tree
  in_tree : Form
  -- its tree, which is a value alone
  in_sure_tree : Form
  -- its cases, as in old spellings
  in_cases : Form

-- The bytes spell the polyvalue in this form.
abbrev pub SpellsIn : Form → List (Case ℤ) → List ℕ → Type 0
SpellsIn in_tree = SpellsPolyvalue
SpellsIn in_sure_tree = SpellsSure
SpellsIn in_cases = SpellsInCases
