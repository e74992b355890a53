-- What a live run begins with.
use Rattle.std.specs.Prelude.{◌≡◌, ℕ, ◌<◌, true, List, length, get_or, All}
use Rattle.pv_base.specs.Catalog.{Declared, Item}
use Rattle.pv_disk_model.specs.LogModel.{LogModel}
use Rattle.pv_law_schedules.specs.Wishes.{IsLookHome}
use Rattle.pv_model.specs.Schedule.{IsLiveScript}
use Rattle.pv_script.specs.LiveView.{HasPlans, live_script_of, wish_of}
use Rattle.pv_script.specs.declared.live.LiveScript.{LiveScript}
use Rattle.pv_script.specs.declared.live.Wish.{Wish}
use Rattle.pv_site.specs.Opens.{HasOpened}
use Rattle.pv_site.specs.SiteState.{SiteState}
use Rattle.pv_site.specs.Steps.{IsReady}

-- The script is what some text says, and each request has the plan of its program.
abbrev pub IsRead : LiveScript → Type 0
IsRead script = ((text : List ℕ) × IsLiveScript text (live_script_of script)) × All (HasPlans script.catalog) script.clients.items

-- An item that is looked at is of this site.
abbrev pub IsHere : List Item → (site : ℕ) → Wish → Type 0
IsHere items site wish = IsLookHome items site (wish_of wish)

module _ {W : Type 0} (M : LogModel W) (catalog : Declared) where
  -- The site is the one of this number, as it is opened on a log in which nothing was found.
  abbrev pub IsNew : ℕ → SiteState W → Type 0
  IsNew n site = ((log : W) × HasOpened M log n catalog site) × (site.first ≡ true) × IsReady M site

  -- All sites of the catalog are there, in order.
  abbrev pub AreNew : List (SiteState W) → Type 0
  AreNew sites = (length sites ≡ catalog.sites) × ((n : ℕ) (any : SiteState W) → n < length sites → IsNew n (get_or sites n any))
