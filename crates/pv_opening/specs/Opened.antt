-- The boxes and the clients of a live run, with the rings between them, when it begins.
use Rattle.std.specs.Prelude.{◌≡◌, ℕ, ◌<◌, [], List, length, map, take, get_or, All}
use Rattle.pv_base.specs.Catalog.{Declared}
use Rattle.pv_cell.specs.Box.{IsBox}
use Rattle.pv_cell.specs.Course.{IsNew}
use Rattle.pv_cell.specs.declared.site_box.SiteBox.{SiteBox}
use Rattle.pv_crew.specs.Messages.{no_faults}
use Rattle.pv_crew.specs.declared.client.Client.{Client}
use Rattle.pv_disk_model.specs.LogModel.{LogModel}
use Rattle.pv_mail.specs.declared.answer.Answer.{Answer}
use Rattle.pv_mail.specs.declared.ends.Parcel.{Parcel}
use Rattle.pv_opening.specs.Counts.{count_at}
use Rattle.pv_post.specs.Ends.{IsPair, plan_of, posted}
use Rattle.pv_post.specs.declared.fault_plan.FaultPlan.{FaultPlan}
use Rattle.pv_post.specs.declared.inlet.In.{In}
use Rattle.pv_post.specs.declared.outlet.Out.{Out}
use Rattle.pv_rings.specs.Rings.{Each}
use Rattle.pv_script.specs.LiveView.{request_of, requests_by}
use Rattle.pv_script.specs.declared.live.Client as script
use Rattle.pv_script.specs.declared.live.LiveScript.{LiveScript}
use Rattle.pv_script.specs.declared.live.Request.{Request}
use Rattle.pv_site.specs.SiteState.{SiteState}

-- the plan by which messages fail on rings between sites, as the script says
abbrev pub plan_in : LiveScript → FaultPlan
plan_in script = record { drop_each = script.drop_each; double_each = script.double_each }

module _ {W : Type 0} where
  -- A ring goes from the box of the one site to that of the other.
  abbrev pub HasRing : (from to : ℕ) → (one other : SiteBox W) → Type 0
  HasRing from to one other =
      (out : Out Parcel) (inlet : In Parcel) → IsPair (get_or one.ends.sites_out.items to out) (get_or other.ends.sites_in.items from inlet)

  -- By this end the client at this place among its site's own asks the site's box.
  abbrev pub AsksBox : ℕ → Out Request → SiteBox W → Type 0
  AsksBox place asks box =
      (place < length box.ends.clients_in.items) × ((inlet : In Request) → IsPair asks (get_or box.ends.clients_in.items place inlet))

  -- By this end the client at this place among its site's own hears what the site's box tells it.
  abbrev pub HearsBox : ℕ → In Answer → SiteBox W → Type 0
  HearsBox place hears box =
      (place < length box.ends.clients_out.items) × ((out : Out Answer) → IsPair (get_or box.ends.clients_out.items place out) hears)

  -- It has asked for nothing yet, and is to ask for what this client of the script says, by a ring to its site's box, and to hear by one back.
  abbrev pub IsToAskOf : List (SiteBox W) → ℕ → script.Client → Client Request Answer → Type 0
  IsToAskOf boxes place client met =
      (map request_of met.script.items ≡ requests_by client) × (posted met.asks ≡ [])
      × ((any : SiteBox W) → AsksBox place met.asks (get_or boxes client.site.0 any))
      × ((any : SiteBox W) → HearsBox place met.hears (get_or boxes client.site.0 any))

  -- The box of the site of this number has a ring from each of these clients that is of the site, and from no other.
  abbrev pub HasPlaces : List script.Client → ℕ → SiteBox W → Type 0
  HasPlaces clients n box = length box.ends.clients_in.items ≡ count_at n clients

  -- On its rings to sites messages fail by this plan.
  abbrev pub FailsBy : FaultPlan → SiteBox W → Type 0
  FailsBy plan box = All (λ out. plan_of out ≡ plan) box.ends.sites_out.items

  -- On its rings to clients no message fails.
  abbrev pub AnswersSurely : SiteBox W → Type 0
  AnswersSurely box = All (λ out. plan_of out ≡ no_faults) box.ends.clients_out.items

  -- It is a new box of this site, which has this number in the catalog.
  pub record IsNewBox (M : LogModel W) (catalog : Declared) (n : ℕ) (site : SiteState W) (box : SiteBox W) : Type 0 where
    pub is_box : IsBox M box
    pub is_new : IsNew box
    pub site_is : box.site ≡ site
    pub number : box.site.me ≡ n
    pub catalog_is : box.site.catalog ≡ catalog

  -- Each site has its box, in order, with a ring from each to each, on which messages fail as the script says; and all clients of the script, and no others, are
  -- there, in order, each with a ring to its site's box and one back, on which none fails.
  pub record AreOpened (M : LogModel W) (script : LiveScript) (sites : List (SiteState W)) (boxes : List (SiteBox W)) (clients : List (Client Request Answer)) : Type 0 where
    pub boxes_are : Each (IsNewBox M script.catalog) sites boxes
    pub rings : (from to : ℕ) (any : SiteBox W) → from < length boxes → to < length boxes → HasRing from to (get_or boxes from any) (get_or boxes to any)
    pub places : (n : ℕ) (any : SiteBox W) → n < length boxes → HasPlaces script.clients.items n (get_or boxes n any)
    pub plans : All (FailsBy (plan_in script)) boxes
    pub answers : All AnswersSurely boxes
    pub clients_are : Each (λ k client met. IsToAskOf boxes (count_at client.site.0 (take k script.clients.items)) client met) script.clients.items clients
