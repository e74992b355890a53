-- The boxes of all sites, with the rings between them.
use Rattle.std.specs.Prelude.{◌≡◌, ℕ, ◌<◌, List, length, map, get_or}
use Rattle.std.specs.List.{AllZip}
use mathlib.Core.List.{IsPrefix, Sublist}
use Rattle.pv_base.specs.Catalog.{Declared}
use Rattle.pv_history.specs.Entries.{stamps_of}
use Rattle.pv_law_histories.specs.History.{Stamped}
use Rattle.pv_law_histories.specs.Posting as law
use Rattle.pv_law_histories.specs.Posting.{posted_to}
use Rattle.pv_law_passing.specs.Coming.{SealsAlike, counted, parcels_from}
use Rattle.pv_law_passing.specs.Traffic.{Traffic, taken_at}
use Rattle.pv_mail.specs.declared.ends.Parcel.{Parcel}
use Rattle.pv_post.specs.Ends.{plan_of, posted, taken}
use Rattle.pv_post.specs.declared.inlet.In.{In}
use Rattle.pv_post.specs.declared.outlet.Out.{Out}
use Rattle.pv_protocol.specs.State.{Setup}
use Rattle.pv_protocol.specs.World.{first_site}
use Rattle.pv_rings.specs.Rings.{Keeps}
use Rattle.pv_cell.specs.Box.{HasRings}
use Rattle.pv_cell.specs.Course.{HasCourse}
use Rattle.pv_cell.specs.Traffic.{traffic_of}
use Rattle.pv_cell.specs.declared.site_box.SiteBox.{SiteBox}

module _ {W : Type 0} where
  -- what each site took in, as the laws on histories speak of it
  abbrev pub histories_of : List (SiteBox W) → List (List Stamped)
  histories_of boxes = map (λ box. stamps_of box.history.items) boxes

  -- what went through the rings of each
  abbrev pub traffics_of : List (SiteBox W) → List Traffic
  traffics_of boxes = map (λ box. traffic_of box.ends) boxes

  -- It is the box of the site of this number, with its whole course. Of a box that can be called (`IsBox`) too, the records of the crates above say it.
  pub record IsSitesBox (catalog : Declared) (n : ℕ) (box : SiteBox W) : Type 0 where
    pub number : box.site.me ≡ n
    pub catalog_is : box.site.catalog ≡ catalog
    pub rings : HasRings box
    pub course : HasCourse box

  -- The ring from the box of the one site to that of the other gave a beginning of what it took.
  abbrev pub Brought : (from to : ℕ) → (one other : SiteBox W) → Type 0
  Brought from to one other =
      (out : Out Parcel) (inlet : In Parcel) → IsPrefix (taken (get_or other.ends.sites_in.items from inlet)) (posted (get_or one.ends.sites_out.items to out))

  -- They are the boxes of all sites, in order, with a ring from each to each.
  pub record AreAllBoxes (catalog : Declared) (boxes : List (SiteBox W)) : Type 0 where
    pub count : length boxes ≡ catalog.sites
    pub boxes_are : (n : ℕ) (any : SiteBox W) → n < length boxes → IsSitesBox catalog n (get_or boxes n any)
    pub brought : (from to : ℕ) (any : SiteBox W) → from < length boxes → to < length boxes → Brought from to (get_or boxes from any) (get_or boxes to any)

  -- What came of the messages from the one site to the other. The ring between their boxes took in some of what the one's history posts there, nothing that its plan
  -- loses, in order, each as often as the plan says; it gave a beginning of that; and of what it gave the other's history has what wasn't lost or passed
  -- over, in order, each at most as often as it counts.
  pub record PassesInOrder (setup : Setup) (from to : ℕ) (one other : SiteBox W) : Type 0 where
    pub held : List (law.Parcel × ℕ)
    pub given : List (law.Parcel × ℕ)
    pub plan : (out : Out Parcel) → Keeps (plan_of (get_or one.ends.sites_out.items to out)) 1 (posted_to setup from to first_site (stamps_of one.history.items)) held
    pub gave : IsPrefix given held
    pub seals : AllZip (SealsAlike from to) (taken_at (traffic_of other.ends) from) given
    pub came : Sublist (parcels_from from (stamps_of other.history.items)) (counted given)
