-- The boxes of all sites when a live run is closed.
use Rattle.std.specs.Prelude.{◌≡◌, ℕ, List}
use Rattle.pv_base.specs.Catalog.{Declared}
use Rattle.pv_disk_model.specs.LogModel.{LogModel}
use Rattle.pv_history.specs.Entries.{stamps_of}
use Rattle.pv_law_histories.specs.Course.{course}
use Rattle.pv_law_histories.specs.History.{Stamped}
use Rattle.pv_protocol.specs.World.{first_site}
use Rattle.pv_site.specs.SiteState.{setup_of}
use Rattle.pv_cell.specs.Box.{IsBox, course_site}
use Rattle.pv_cell.specs.declared.site_box.SiteBox.{SiteBox}

module _ {W : Type 0} where
  -- what a box's site took in, as the laws on histories speak of it
  abbrev pub history_in : SiteBox W → List Stamped
  history_in box = stamps_of box.history.items

  -- The site stands where its history leaves it.
  abbrev pub Stands : SiteBox W → Type 0
  Stands box = course_site box.site ≡ course (setup_of box.site.catalog) box.site.me first_site (history_in box)

-- The box of the site of this number stands where its history leaves the site: with the same records, and with the same memory or down.
pub record IsClosedBox {W : Type 0} (M : LogModel W) (catalog : Declared) (n : ℕ) (box : SiteBox W) : Type 0 where
  pub is_box : IsBox M box
  pub number : box.site.me ≡ n
  pub catalog_is : box.site.catalog ≡ catalog
  pub stands : course_site box.site ≡ course (setup_of catalog) n first_site (history_in box)
