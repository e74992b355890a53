-- Histories of sites to which nothing comes but time.
use Rattle.std.specs.Prelude.{ℕ, []}
use Rattle.pv_base.specs.Catalog.{Declared}
use Rattle.pv_base.specs.declared.limits.TheConstants.{MAX_JOURNAL}
use Rattle.pv_law_histories.specs.History.{Stamped, tick, done}

-- two sites without items
abbrev pub two_sites : Declared
two_sites = record { sites = 2; journal = MAX_JOURNAL; items = [] }

-- At this stamp time passed, and nothing came of it.
abbrev pub ticked : ℕ → Stamped
ticked stamp = record { stamp = stamp; intake = tick; sends = 0; short = 0; came = done [] }
