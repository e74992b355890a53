-- What a look at an item of a site tells, by the site's history.
use Rattle.std.specs.Prelude.{ℕ, List, take}
use Rattle.pv_law_histories.specs.Course.{course}
use Rattle.pv_law_histories.specs.History.{Stamped}
use Rattle.pv_protocol.specs.Report.{Reading, reading_at}
use Rattle.pv_protocol.specs.Shown.{shown}
use Rattle.pv_protocol.specs.State.{Setup, Site}
use Rattle.pv_protocol.specs.World.{first_site}

-- how the site of this number reads its item of this number
abbrev pub reading_in : Setup → (me : ℕ) → Site → (item : ℕ) → Reading
reading_in setup me site item = reading_at me site.running item (shown setup.catalog site.records item)

-- the same after so many entries of its history
abbrev pub reading_after : Setup → (me : ℕ) → List Stamped → (steps item : ℕ) → Reading
reading_after setup me history steps item = reading_in setup me (course setup me first_site (take steps history)) item
