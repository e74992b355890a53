-- What a source and a sink in memory hold, and what their calls change.
use Rattle.std.specs.Prelude.{ℕ, List, ◌++◌, drop}
use Rattle.pv_base.specs.Fault.{risen}

-- A source: the bytes that are left, the calls so far, the numbers of the calls that fail, and how many calls failed.
pub record SourceState : Type 0 where
  pub left : List ℕ
  pub calls : ℕ
  pub fails : List ℕ
  pub faults : ℕ

-- A sink: the bytes that it holds, and the rest as in a source.
pub record SinkState : Type 0 where
  pub held : List ℕ
  pub calls : ℕ
  pub fails : List ℕ
  pub faults : ℕ

-- The source after a call that failed.
abbrev pub failed_source : SourceState → SourceState
failed_source s = record s { calls = risen s.calls; faults = risen s.faults }

-- The source after a call that gave n bytes.
abbrev pub read_source : SourceState → ℕ → SourceState
read_source s n = record s { left = drop n s.left; calls = risen s.calls }

-- The sink after a call that failed.
abbrev pub failed_sink : SinkState → SinkState
failed_sink s = record s { calls = risen s.calls; faults = risen s.faults }

-- The sink after a call that took these bytes.
abbrev pub written_sink : SinkState → List ℕ → SinkState
written_sink s bytes = record s { held = s.held ++ bytes; calls = risen s.calls }
