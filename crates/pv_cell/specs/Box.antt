-- A box, and what is always so of it.
use Rattle.std.specs.Prelude.{◌≡◌, ◌⊎◌, ℕ, ◌-◌, ◌<◌, ◌≤◌, ◌^◌, true, Some, None, List, All, is_some, not, length, ⊤}
use Rattle.pv_base.specs.declared.limits.TheConstants.{HELD_NAMES}
use Rattle.pv_disk_model.specs.LogModel.{LogModel}
use Rattle.pv_format.specs.Checkpoint.{first_standing}
use Rattle.pv_history.specs.declared.entry.Entry.{Entry}
use Rattle.pv_history.specs.declared.entry.TheConstants.{MAX_ENTRIES}
use Rattle.pv_mail.specs.Given.{IsTakenFor}
use Rattle.pv_mail.specs.declared.arrival.Arrival.{Arrival}
use Rattle.pv_mail.specs.declared.arrival.Arrival.TheVariants as arrival
use Rattle.pv_protocol.specs.Sound.{IsSetupInRange}
use Rattle.pv_protocol.specs.State as state
use Rattle.pv_protocol.specs.State.{Running}
use Rattle.pv_protocol.specs.Width.{IsNarrow}
use Rattle.pv_site.specs.Asked.{IsIdle}
use Rattle.pv_site.specs.SiteState.{SiteState, setup_of}
use Rattle.pv_site.specs.Steps.{IsReady}
use Rattle.pv_cell.specs.declared.site_box.SiteBox.{SiteBox}
use Rattle.pv_cell.specs.declared.site_box.TheConstants.{IDLE_VISITS}

-- the site as the definitions have it: its log stands as it was formatted, since no box has checkpoints
abbrev pub course_site : {W : Type 0} → SiteState W → state.Site
course_site site = record { records = site.records; standing = first_standing; arm = None; running = site.running }

-- The site can go on in a box that has taken in so many inputs: it is one of its catalog's, its shown values are narrow, its log has its records as they are written,
-- since the box began with an empty one, and its coordinator works on no
-- more than was taken in, by which the messages of a tick are counted.
pub record Stands {W : Type 0} (count : ℕ) (site : SiteState W) : Type 0 where
  pub within : site.me < site.catalog.sites
  pub setup : IsSetupInRange (setup_of site.catalog)
  pub narrow : IsNarrow HELD_NAMES site.catalog site.me site.records
  pub surplus : site.surplus ≡ 0
  pub entered : (running : Running) → site.running ≡ Some running → length running.entries ≤ count

-- The site could make a step of whatever was taken in: a request can run and has its plan, and a message comes from a site and is spelled.
abbrev pub ArePlanned : {W : Type 0} → SiteState W → List Entry → Type 0
ArePlanned site entries = All (λ entry. IsTakenFor site.me site.catalog entry.input) entries

-- Where it is a message, it comes from one of the sites.
abbrev pub IsFromSite : ℕ → Arrival → Type 0
IsFromSite sites (arrival.Parcel from parcel) = from.0 < sites
IsFromSite sites (arrival.Request client request) = ⊤

module _ {W : Type 0} where
  abbrev pub me_of : SiteBox W → ℕ
  me_of box = box.site.me

  -- No entry may come any more, or none could be stamped.
  abbrev pub IsWorn : SiteBox W → Type 0
  IsWorn box = (length box.history.items ≡ MAX_ENTRIES) ⊎ (box.stamp ≡ 2 ^ 64 - 1)

  -- A tick is due: so many visits in a row found nothing, and the site is up and waits for something.
  abbrev pub IsTickDue : SiteBox W → Type 0
  IsTickDue box = (IDLE_VISITS ≤ box.idle) × (is_some box.site.running ≡ true) × (IsIdle box.site → ⊥)

  -- Its rings are those of a box of such a site.
  abbrev pub HasRings : SiteBox W → Type 0
  HasRings box =
      (length box.ends.sites_in.items ≡ box.site.catalog.sites)
      × (length box.ends.sites_out.items ≡ box.site.catalog.sites)
      × (length box.ends.clients_in.items ≡ length box.ends.clients_out.items)
      × (length box.ends.clients_in.items < 2 ^ 32)

-- The box can be called: its site's log is as the site left it, and its rings are there. It holds after each call, if it held before; and what
-- `ends` lends has to be given back so.
pub record IsBox {W : Type 0} (M : LogModel W) (box : SiteBox W) : Type 0 where
  pub ready : IsReady M box.site
  pub stands : Stands (length box.history.items) box.site
  pub me : box.me.0 ≡ box.site.me
  pub down : box.down ≡ not (is_some box.site.running)
  pub rings : HasRings box
  pub entries : length box.history.items ≤ MAX_ENTRIES
  pub planned : ArePlanned box.site box.history.items
  pub again : (arrival : Arrival) → box.again ≡ Some arrival → IsFromSite box.site.catalog.sites arrival
  pub idle : box.idle ≤ IDLE_VISITS
