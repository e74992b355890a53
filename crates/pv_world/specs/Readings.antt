-- How an item is read at a site, as the definitions say it.
use Rattle.std.specs.Prelude.{ℕ, IsTrue, ⊤}
use Rattle.pv_protocol.specs.Lock.{is_home}
use Rattle.pv_protocol.specs.Report.{Reading, cases, locked, down}
use Rattle.pv_site.specs.declared.input.Shown.{Shown}
use Rattle.pv_site.specs.declared.input.Shown.TheVariants.{Down, Locked, Cases}
use Rattle.pv_world.specs.declared.cell.Cell.{Cell}
use Rattle.pv_world.specs.declared.cell.Cell.TheVariants.{Up}

-- what the site of this number shows, as a reading
abbrev pub reading_in : ℕ → Shown → Reading
reading_in n Down = down n
reading_in n (Locked txn) = locked txn
reading_in n (Cases value) = cases value.now

-- The site is asked of an item of its own, unless it is down.
abbrev pub OwnsItem : Cell → ℕ → Type 0
OwnsItem (Up up) item = IsTrue (is_home up.catalog up.me item)
OwnsItem other item = ⊤
