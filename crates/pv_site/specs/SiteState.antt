-- A site as contracts see it.
use Rattle.std.specs.Prelude.{ℕ, Bool, List, Option}
use Rattle.pv_base.specs.Catalog.{Declared}
use Rattle.pv_base.specs.declared.limits.TheConstants.{READ_NAMES, HELD_NAMES}
use Rattle.pv_format.specs.Record.{Record}
use Rattle.pv_protocol.specs.Here.{Here}
use Rattle.pv_protocol.specs.State.{Setup, Running}

-- A site over a log: its number, its catalog, its records, what it has in memory unless it is down, in which epoch it was opened, whether
-- the opening read nothing, by how many bytes the log is longer than the records make it, and the log.
pub record SiteState (W : Type 0) : Type 0 where
  pub me : ℕ
  pub catalog : Declared
  pub records : List Record
  pub running : Option Running
  pub epoch : ℕ
  pub first : Bool
  pub surplus : ℕ
  pub log : W

-- What is fixed for all sites: the catalog, and the limits on the outcomes that values name.
abbrev pub setup_of : Declared → Setup
setup_of catalog = record { catalog = catalog; read_names = READ_NAMES; held_names = HELD_NAMES }

-- What a step of the site looks at, where it has this in memory.
abbrev pub here_with : {W : Type 0} → SiteState W → Running → Here
here_with site running = record { me = site.me; setup = setup_of site.catalog; records = site.records; surplus = site.surplus; running = running }
