-- How a live run ends.
use Rattle.std.specs.Prelude.{◌≡◌, ◌⊎◌, ℕ, ◌<◌, ◌≤◌, None, [], List, All, is_some, length, map, take, get_or}
use Rattle.pv_base.specs.Catalog.{Declared}
use Rattle.pv_base.specs.Fault.{Rose}
use Rattle.pv_disk_model.specs.LogModel.{LogModel}
use Rattle.pv_law_histories.specs.Fitting.{CanAllBeDone, FitTogether}
use Rattle.pv_law_passing.specs.Asking.{asked_by}
use Rattle.pv_model.specs.LiveScript as model
use Rattle.pv_script.specs.LiveView.{request_of, requests_by}
use Rattle.pv_script.specs.declared.live.Client.{Client}
use Rattle.pv_script.specs.declared.live.LiveScript.{LiveScript}
use Rattle.pv_script.specs.declared.live.Request.{Request}
use Rattle.pv_site.specs.SiteState.{SiteState, setup_of}
use Rattle.pv_crew.specs.Messages.{messages_of}
use Rattle.pv_post.specs.Ends.{taken}
use Rattle.pv_post.specs.declared.inlet.In.{In}
use Rattle.pv_cell.specs.Box.{IsWorn}
use Rattle.pv_cell.specs.Together.{PassesInOrder, histories_of}
use Rattle.pv_cell.specs.declared.site_box.SiteBox.{SiteBox}
use Rattle.pv_opening.specs.Counts.{count_at}
use Rattle.pv_opening.specs.Opened.{FailsBy, plan_in}
use Rattle.pv_closing.specs.Boxes.{IsClosedBox, history_in}
use Rattle.pv_closing.specs.Clients.{AreServed}
use Rattle.pv_cluster.specs.declared.closed.Closed.{Closed}

-- The site later: whether its log tells what it holds stays, and it is down only where its log's count of faults rose.
abbrev pub KeptItsLog : {W : Type 0} → LogModel W → SiteState W → SiteState W → Type 0
KeptItsLog M old new =
    (is_some (M.contents new.log) ≡ is_some (M.contents old.log))
    × (M.faults old.log ≤ M.faults new.log) × (new.running ≡ None → Rose (M.faults old.log) (M.faults new.log))

module _ {W : Type 0} where
  -- what was taken from the ring of this place among those of the box's clients
  abbrev pub asked_along : SiteBox W → ℕ → In Request → List model.Request
  asked_along box place inlet = map request_of (messages_of (taken (get_or box.ends.clients_in.items place inlet)))

  -- Messages passed from each site to each in order.
  abbrev pub AllPassInOrder : Declared → List (SiteBox W) → Type 0
  AllPassInOrder catalog boxes =
      (from to : ℕ) (any : SiteBox W) → from < length boxes → to < length boxes
      → PassesInOrder (setup_of catalog) from to (get_or boxes from any) (get_or boxes to any)

  -- All that a client is to ask for was asked, in order: its site's box took all of it from the client's ring, or is worn.
  abbrev pub AskedForAll : List Client → List (SiteBox W) → Type 0
  AskedForAll clients boxes =
      (k : ℕ) (client : Client) (any : SiteBox W) (inlet : In Request) → k < length clients
      → IsWorn (get_or boxes (get_or clients k client).site.0 any)
      ⊎ (asked_along (get_or boxes (get_or clients k client).site.0 any) (count_at (get_or clients k client).site.0 (take k clients)) inlet
      ≡ requests_by (get_or clients k client))

  -- At no site did anybody ask but these clients.
  abbrev pub NobodyElseAsked : List Client → List (SiteBox W) → Type 0
  NobodyElseAsked clients boxes =
      (n place : ℕ) (any : SiteBox W) → n < length boxes → count_at n clients ≤ place → asked_by place (history_in (get_or boxes n any)) ≡ []

  -- What is left of a live run of this script.
  pub record IsClosedRun (M : LogModel W) (script : LiveScript) (closed : Closed W) : Type 0 where
    pub fit : FitTogether (setup_of script.catalog) (histories_of closed.boxes.items)
    pub done : CanAllBeDone script.catalog (histories_of closed.boxes.items)
    pub passed : AllPassInOrder script.catalog closed.boxes.items
    pub plans : All (FailsBy (plan_in script)) closed.boxes.items
    pub count : length closed.boxes.items ≡ script.catalog.sites
    pub boxes : (n : ℕ) (any : SiteBox W) → n < length closed.boxes.items → IsClosedBox M script.catalog n (get_or closed.boxes.items n any)
    pub asked : AskedForAll script.clients.items closed.boxes.items
    pub nobody : NobodyElseAsked script.clients.items closed.boxes.items
    pub clients : AreServed closed.boxes.items script.clients.items closed.clients.items
