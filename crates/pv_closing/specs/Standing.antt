-- The boxes and the clients of a live run, with the rings between them, when all threads have ended.
use Rattle.std.specs.Prelude.{◌≡◌, ◌⊎◌, ℕ, ◌<◌, [], List, length, map, take, get_or, All}
use Rattle.pv_base.specs.Catalog.{Declared}
use Rattle.pv_disk_model.specs.LogModel.{LogModel}
use Rattle.pv_rings.specs.Rings.{Each}
use Rattle.pv_script.specs.LiveView.{request_of, requests_by}
use Rattle.pv_script.specs.declared.live.Client.{Client}
use Rattle.pv_script.specs.declared.live.LiveScript.{LiveScript}
use Rattle.pv_cell.specs.Box.{IsBox, IsWorn}
use Rattle.pv_cell.specs.Course.{HasCourse}
use Rattle.pv_cell.specs.declared.site_box.SiteBox.{SiteBox}
use Rattle.pv_opening.specs.Counts.{count_at}
use Rattle.pv_opening.specs.Opened.{AnswersSurely, AsksBox, FailsBy, HasPlaces, HasRing, plan_in}
use Rattle.pv_closing.specs.declared.ended.Ended.{Ended}

-- It is the box of the site of this number, with its whole history. So it is at any time of a run: when it begins the box is new, too (`IsNewBox`), and in the end what
-- is left of it is that the site stands where its history leaves it (`IsClosedBox`).
pub record IsBoxOf {W : Type 0} (M : LogModel W) (catalog : Declared) (n : ℕ) (box : SiteBox W) : Type 0 where
  pub is_box : IsBox M box
  pub number : box.site.me ≡ n
  pub catalog_is : box.site.catalog ≡ catalog
  pub course : HasCourse box

module _ {W : Type 0} where
  -- It is what is left of the client at this place among its site's own: it asks for the client's requests, by a ring to its site's box.
  abbrev pub IsEndedOf : List (SiteBox W) → ℕ → Client → Ended → Type 0
  IsEndedOf boxes place client ended =
      (map request_of ended.script.items ≡ requests_by client) × ((any : SiteBox W) → AsksBox place ended.asks (get_or boxes client.site.0 any))

  -- All sites have their boxes, in order, with a ring from each to each, on which messages fail as the script says; and all clients of the script, and no others, are
  -- there, in order, with rings on which none fails.
  pub record StandTogether (M : LogModel W) (script : LiveScript) (boxes : List (SiteBox W)) (clients : List Ended) : Type 0 where
    pub count : length boxes ≡ script.catalog.sites
    pub boxes_are : (n : ℕ) (any : SiteBox W) → n < length boxes → IsBoxOf M script.catalog n (get_or boxes n any)
    pub rings : (from to : ℕ) (any : SiteBox W) → from < length boxes → to < length boxes → HasRing from to (get_or boxes from any) (get_or boxes to any)
    pub places : (n : ℕ) (any : SiteBox W) → n < length boxes → HasPlaces script.clients.items n (get_or boxes n any)
    pub plans : All (FailsBy (plan_in script)) boxes
    pub answers : All AnswersSurely boxes
    pub clients_are : Each (λ k client ended. IsEndedOf boxes (count_at client.site.0 (take k script.clients.items)) client ended) script.clients.items clients

  -- The client has asked for all that it was to ask for, or the box of its site is worn.
  abbrev pub HasAsked : List (SiteBox W) → Client → Ended → Type 0
  HasAsked boxes client ended = (ended.left.items ≡ []) ⊎ ((any : SiteBox W) → IsWorn (get_or boxes client.site.0 any))

  -- So it is of all clients.
  abbrev pub HaveAsked : List (SiteBox W) → List Client → List Ended → Type 0
  HaveAsked boxes clients ended = Each (λ k client one. HasAsked boxes client one) clients ended
