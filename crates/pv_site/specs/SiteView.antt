-- What the fields of a site say.
use Rattle.std.specs.Prelude.{◌≡◌, Bool, true, false, [], Option, Some, None}
use Rattle.pv_format.specs.Contents.{greatest_epoch}
use Rattle.pv_protocol.specs.State.{Running}
use Rattle.pv_site.specs.SiteParts.{here_of, AreSound}
use Rattle.pv_site.specs.SiteState.{SiteState}
use Rattle.pv_site.specs.declared.site.Site.TheInside.{Inside}

-- what is in memory, unless the site is down
abbrev pub running_unless : Bool → Running → Option Running
running_unless true running = None
running_unless false running = Some running

abbrev pub state_of : {W : Type 0} → Inside W → SiteState W
state_of inside = record {
  me = inside.parts.me.0;
  catalog = inside.parts.catalog;
  records = inside.parts.store.records;
  running = running_unless inside.down (here_of inside.parts).running;
  epoch = inside.epoch;
  first = inside.first;
  surplus = inside.parts.surplus;
  log = inside.log;
}

-- The parts are sound, and of the site's epoch, which is the greatest of its records. Where the site is down there is nothing in memory.
pub record IsSite {W : Type 0} (inside : Inside W) : Type 0 where
  pub sound : AreSound inside.parts
  pub epoch : inside.parts.locks.epoch ≡ inside.epoch
  pub recorded : greatest_epoch inside.parts.store.records ≡ inside.epoch
  pub grants : inside.down ≡ true → inside.parts.locks.grants ≡ []
  pub entries : inside.down ≡ true → inside.parts.coord.contents.entries ≡ []
