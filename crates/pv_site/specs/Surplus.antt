-- By how many bytes a log is longer than its records make it.
use Rattle.std.specs.Prelude.{ℕ, ◌-◌, List}
use Rattle.pv_format.specs.Record.{Record}
use Rattle.pv_disk_model.specs.Size.{Contents, size_of}
use Rattle.pv_protocol.specs.Records.{journal_bytes}

-- by how many bytes a log with these contents is longer than these records, as which they are read, make it as they are written
abbrev pub surplus_of : Contents → List Record → ℕ
surplus_of contents records = size_of contents - journal_bytes records
