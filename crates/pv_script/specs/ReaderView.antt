-- What the lines so far said to a reader, as plain data.
use Rattle.std.specs.Prelude.{Option, Some, None, IfSome}
use Rattle.pv_model.specs.LineCauses.{Before, at_first}
use Rattle.pv_model.specs.LineForms.{scheduled}
use Rattle.pv_script.specs.Said.{before_of, IsLimited}
use Rattle.pv_script.specs.declared.reader.Reader.{Reader}
use Rattle.pv_script.specs.declared.said.Said.{Said}

-- what was said, if anything was
abbrev pub before_after : Option Said → Before
before_after None = at_first scheduled
before_after (Some said) = before_of said

abbrev pub before_by : Reader → Before
before_by reader = before_after reader.said

-- The catalog has the limit that was said.
abbrev pub IsLimitedReader : Reader → Type 0
IsLimitedReader reader = IfSome reader.said IsLimited
