-- Which world a world in memory stands for.
use Rattle.std.specs.Prelude.{◌≡◌, ℕ, ◌+◌, true, List, [], ◌∷◌, map, length, is_some, None, ⊤}
use Rattle.pv_base.specs.Catalog.{Declared}
use Rattle.pv_base.specs.declared.txn.TxnId.{TxnId}
use Rattle.pv_disk.specs.MemDisk.{MemState}
use Rattle.pv_disk.specs.MemLaws.{mem_model}
use Rattle.pv_ckpt.specs.CkptModel.{ckpt_model}
use Rattle.pv_ckpt.specs.declared.ckpt_log.CkptLog.{CkptLog}
use Rattle.pv_protocol.specs.Limit.{over_limit}
use Rattle.pv_protocol.specs.Sound.{IsSetupInRange}
use Rattle.pv_protocol.specs.State as state
use Rattle.pv_protocol.specs.World as model
use Rattle.pv_site.specs.Recovered.{Remains}
use Rattle.pv_site.specs.SiteState.{SiteState, setup_of}
use Rattle.pv_site.specs.Steps.{IsReady}
use Rattle.pv_world.specs.Carry.{Carry}
use Rattle.pv_world.specs.Disks.{Spells}
use Rattle.pv_world.specs.Reached.{IsReached}
use Rattle.pv_world.specs.declared.cell.Cell.{Cell}
use Rattle.pv_world.specs.declared.cell.Cell.TheVariants.{Up, Down, Vacant}
use Rattle.pv_world.specs.declared.order.Placed.{Placed}
use Rattle.pv_world.specs.declared.order.TakenGrant.{TakenGrant}
use Rattle.pv_world.specs.declared.world.World.{World}

-- The site that runs is this one, and its disk holds its records, as they are written.
pub record IsUp (declared : Declared) (n : ℕ) (up : SiteState (CkptLog MemState)) (site : state.Site) : Type 0 where
  pub me : up.me ≡ n
  pub catalog : up.catalog ≡ declared
  pub records : up.records ≡ site.records
  pub surplus : up.surplus ≡ 0
  pub runs : is_some up.running ≡ true
  pub running : up.running ≡ site.running
  pub ready : IsReady (ckpt_model mem_model) up
  pub disk : Spells site.records site.standing site.arm None up.log.disk

-- The site is down. Its disk holds its records, as they are written, and what outlived its memory is of these.
pub record IsDown (declared : Declared) (n : ℕ) (on : MemState) (left : Remains) (site : state.Site) : Type 0 where
  pub me : left.me ≡ n
  pub catalog : left.catalog ≡ declared
  pub records : left.records ≡ site.records
  pub surplus : left.surplus ≡ 0
  pub down : site.running ≡ None
  pub disk : Spells site.records site.standing site.arm None on

-- The cell is the site of this number.
abbrev pub StandsForSite : Declared → ℕ → Cell → state.Site → Type 0
StandsForSite catalog n (Up up) site = IsUp catalog n up site
StandsForSite catalog n (Down disk left) site = IsDown catalog n disk left site
StandsForSite catalog n Vacant site = ⊥

-- The cell is some site, up or down.
abbrev pub IsSomeSite : Cell → Type 0
IsSomeSite cell = (catalog : Declared) × (n : ℕ) × (is : state.Site) × StandsForSite catalog n cell is

-- The cells are the sites that are numbered from here on.
abbrev pub StandForSites : Declared → ℕ → List Cell → List state.Site → Type 0
StandForSites catalog n [] [] = ⊤
StandForSites catalog n (cell ∷ cells) (site ∷ sites) = StandsForSite catalog n cell site × StandForSites catalog (n + 1) cells sites
StandForSites catalog n _ _ = ⊥

-- The grant as plain data.
abbrev pub grant_of : TakenGrant → state.TakenGrant
grant_of taken = record { site = taken.site.0; grant = taken.grant }

-- A transaction at its lock point, without its program.
abbrev pub placed_of : Placed → TxnId × List state.TakenGrant
placed_of placed = (placed.txn, map grant_of placed.grants.items)

-- The parts of the world in memory are those of the world, whose messages are within the limit.
pub record Stands (world : World) (is : model.World) : Type 0 where
  pub count : length is.sites ≡ world.catalog.sites
  pub sites : StandForSites world.catalog 0 world.cells.items is.sites
  pub sent : Carry world.mail.posts is.sent
  pub fresh : map (λ post. post.fresh) world.mail.posts ≡ is.fresh
  pub order : map placed_of world.order.items ≡ map (λ (placed : state.Placed). (placed.txn, placed.grants)) is.order
  pub within : over_limit world.mail.limit is ≡ None

-- The world in memory stands for this one, which a run has reached.
pub record StandsFor (world : World) (is : model.World) : Type 0 where
  pub stands : Stands world is
  pub range : IsSetupInRange (setup_of world.catalog)
  pub reached : IsReached (setup_of world.catalog) is

-- The world in memory stands for some world that a run has reached.
abbrev pub StandsForSome : World → Type 0
StandsForSome world = (is : model.World) × StandsFor world is
