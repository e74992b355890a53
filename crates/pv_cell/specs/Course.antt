-- The whole course of a box: how its history, its site and its rings stand to each other at any time.
use Rattle.std.specs.Prelude.{◌≡◌, ℕ, ◌==◌, ◌<◌, ◌≤◌, true, false, Option, Some, None, List, [], ◌∷◌, ◌++◌, Contains, All, get_or, is_some, if◌then◌else◌, ⊤}
use mathlib.Core.List.{IsPrefix, Sublist}
use Rattle.pv_base.specs.Fault.{Rose}
use Rattle.pv_disk_model.specs.LogModel.{LogModel}
use Rattle.pv_history.specs.Entries.{stamps_of}
use Rattle.pv_law_histories.specs.Course.{course}
use Rattle.pv_law_histories.specs.History.{Stamped}
use Rattle.pv_law_histories.specs.Posting.{last_stamp}
use Rattle.pv_law_passing.specs.Asking.{asked_by}
use Rattle.pv_law_passing.specs.Coming.{ComesInOrder}
use Rattle.pv_law_passing.specs.Rings.{Sealed}
use Rattle.pv_law_passing.specs.Traffic.{GoesByItsRings, Traffic, taken_at}
use Rattle.pv_mail.specs.declared.arrival.Arrival.{Arrival}
use Rattle.pv_mail.specs.declared.arrival.Arrival.TheVariants as arrival
use Rattle.pv_mail.specs.declared.ends.Ends.{Ends}
use Rattle.pv_model.specs.LiveScript.{Request}
use Rattle.pv_post.specs.Ends.{SameIn, SameOut}
use Rattle.pv_protocol.specs.State as state
use Rattle.pv_protocol.specs.State.{Setup}
use Rattle.pv_protocol.specs.World.{first_site}
use Rattle.pv_rings.specs.Rings.{Each}
use Rattle.pv_script.specs.LiveView.{request_of}
use Rattle.pv_site.specs.SiteState.{setup_of}
use Rattle.pv_cell.specs.Box.{course_site}
use Rattle.pv_cell.specs.Opens.{AreFresh}
use Rattle.pv_cell.specs.Traffic.{KeepsItsPlan, requests_of, sealed_of, traffic_of}
use Rattle.pv_cell.specs.declared.site_box.SiteBox.{SiteBox}

-- What is left to count again is a message that was taken from a site's ring, where it counts twice, or a client's request, or nothing.
abbrev pub IsToCountAgain : (sites : ℕ) → Traffic → Option Arrival → Type 0
IsToCountAgain sites traffic (Some (arrival.Parcel from parcel)) = (from.0 < sites) × Contains (taken_at traffic from.0) (sealed_of parcel, 2)
IsToCountAgain sites traffic other = ⊤

-- what was taken and counts once more, where this client asks for it
abbrev pub asked_again : ℕ → Option Arrival → List Request
asked_again client (Some (arrival.Request asker request)) = if asker == client then request_of request ∷ [] else []
asked_again client other = []

-- what was taken from this site's ring and counts once more
abbrev pub sealed_again : ℕ → Option Arrival → List Sealed
sealed_again from (Some (arrival.Parcel sender parcel)) = if sender.0 == from then sealed_of parcel ∷ [] else []
sealed_again from other = []

-- The course of a site of this setup and number, with its history, its last stamp, what counts once more, and its ends of rings.
pub record IsCourse (setup : Setup) (me : ℕ) (now : state.Site) (history : List Stamped) (stamp : ℕ) (left : Option Arrival) (ends : Ends) : Type 0 where
  -- The history is the site's own steps from the start on, stamped; what it posts was offered to the rings, and its messages were taken from them.
  pub goes : GoesByItsRings setup me history (traffic_of ends)
  -- The site stands where the history leaves it.
  pub site : now ≡ course setup me first_site history
  pub last : stamp ≡ last_stamp 0 history
  -- What the history has of a client was taken from that client's ring, in order, and so was what counts once more.
  pub asked : (client : ℕ) → Sublist (asked_by client history ++ asked_again client left) (get_or (requests_of ends) client [])
  pub again : IsToCountAgain setup.catalog.sites (traffic_of ends) left
  -- What the history has of a site was taken from that site's ring, in order, each message at most as often as it counts.
  pub came : (from : ℕ) → ComesInOrder from me history (sealed_again from left) (taken_at (traffic_of ends) from)
  -- Of what was offered to a ring to a site it took in some, in order and each as often as its plan says, and nothing that the plan loses.
  pub plans : All KeepsItsPlan ends.sites_out.items

-- They are the ends of the same rings.
abbrev pub AreSameEnds : Ends → Ends → Type 0
AreSameEnds old new =
    Each (λ k one other. SameIn one other) old.sites_in.items new.sites_in.items
    × Each (λ k one other. SameOut one other) old.sites_out.items new.sites_out.items
    × Each (λ k one other. SameIn one other) old.clients_in.items new.clients_in.items
    × Each (λ k one other. SameOut one other) old.clients_out.items new.clients_out.items

module _ {W : Type 0} where
  -- The box has such a course.
  abbrev pub HasCourse : SiteBox W → Type 0
  HasCourse box =
      IsCourse (setup_of box.site.catalog) box.site.me (course_site box.site) (stamps_of box.history.items) box.stamp box.again box.ends

  -- Nothing was taken in yet, nothing went through the rings, and the site was just opened on a log in which nothing was found.
  pub record IsNew (box : SiteBox W) : Type 0 where
    pub site : course_site box.site ≡ first_site
    pub history : (box.history.items ≡ []) × (box.stamp ≡ 0) × (box.again ≡ None) × (box.begun.items ≡ [])
    pub fresh : AreFresh box.ends

  -- The one box became the other: the same site, with the same rings, whose history only grew. A log that told what it holds still does, and one that didn't
  -- still doesn't. Its count of faults didn't fall, and it rose where the site was up and is down.
  pub record Became (M : LogModel W) (old new : SiteBox W) : Type 0 where
    pub site : (new.site.me ≡ old.site.me) × (new.site.catalog ≡ old.site.catalog)
    pub known : is_some (M.contents new.site.log) ≡ is_some (M.contents old.site.log)
    pub faults : M.faults old.site.log ≤ M.faults new.site.log
    pub down : is_some old.site.running ≡ true → is_some new.site.running ≡ false → Rose (M.faults old.site.log) (M.faults new.site.log)
    pub ends : AreSameEnds old.ends new.ends
    pub history : IsPrefix old.history.items new.history.items
