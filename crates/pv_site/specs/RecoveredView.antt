-- What the fields say of what outlives a site's memory.
use Rattle.std.specs.Prelude.{◌≡◌, All}
use Rattle.pv_base.specs.declared.limits.TheConstants.{HELD_NAMES}
use Rattle.pv_format.specs.Contents.{greatest_epoch}
use Rattle.pv_format.specs.Range.{IsRecordInRange}
use Rattle.pv_protocol.specs.Width.{IsNarrow}
use Rattle.pv_site.specs.Recovered.{Remains}
use Rattle.pv_site.specs.declared.recovered.Recovered.TheInside.{Inside}

abbrev pub remains_of : Inside → Remains
remains_of inside = record { me = inside.me.0; catalog = inside.catalog; records = inside.store.records; surplus = inside.surplus }

-- The store is the site's, of its catalog, and the epoch is the greatest of the records. These are in range, and no value names too many outcomes.
pub record IsRecovered (inside : Inside) : Type 0 where
  pub site : inside.store.site ≡ inside.me.0
  pub catalog : inside.store.catalog ≡ inside.catalog
  pub epoch : greatest_epoch inside.store.records ≡ inside.epoch
  pub range : All IsRecordInRange inside.store.records
  pub narrow : IsNarrow HELD_NAMES inside.catalog inside.me.0 inside.store.records
