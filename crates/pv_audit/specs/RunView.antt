-- What ends the serial run of a report.
use Rattle.std.specs.Prelude.{ℕ, Option, Some, None}
use Rattle.pv_audit.specs.declared.values.RunError.{RunError}
use Rattle.pv_audit.specs.declared.values.RunError.TheVariants.{Limit, NoMemory}

-- the count that the error reports, unless it is out of memory
abbrev pub limit_of : RunError → Option ℕ
limit_of (Limit count) = Some count
limit_of NoMemory = None
