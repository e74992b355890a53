-- What outlives a site's memory.
use Rattle.std.specs.Prelude.{ℕ, List}
use Rattle.pv_base.specs.Catalog.{Declared}
use Rattle.pv_format.specs.Record.{Record}

-- the site's number, its catalog, its records, and by how many bytes its log is longer than these make it
pub record Remains : Type 0 where
  pub me : ℕ
  pub catalog : Declared
  pub records : List Record
  pub surplus : ℕ
