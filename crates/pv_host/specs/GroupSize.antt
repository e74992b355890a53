-- How large a group of records is.
use Rattle.std.specs.Prelude.{◌≡◌, length}
use Rattle.pv_disk_model.specs.Size.{Contents}
use Rattle.pv_format.specs.Journal.{records_of}
use Rattle.pv_host.specs.declared.waiting.GroupSize.{GroupSize}

-- The records of these contents take so many bytes, each with its gate, and are so many.
pub record IsSizeOf (contents : Contents) (size : GroupSize) : Type 0 where
  pub bytes : size.bytes ≡ length (records_of contents)
  pub count : size.count ≡ length contents
