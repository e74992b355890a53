-- Boxes whose rings were looked at with both ends.
use Rattle.std.specs.Prelude.{◌≡◌, ◌⊎◌, ℕ, ◌<◌, List, All, length, take, get_or}
use mathlib.Core.List.{Sublist}
use Rattle.pv_cell.specs.Box.{IsWorn}
use Rattle.pv_cell.specs.Lending.{AreStill, with_ends}
use Rattle.pv_cell.specs.Together.{Brought}
use Rattle.pv_cell.specs.declared.site_box.SiteBox.{SiteBox}
use Rattle.pv_closing.specs.Boxes.{IsClosedBox, history_in}
use Rattle.pv_closing.specs.Closing.{IsQuiet}
use Rattle.pv_closing.specs.Ended.{AsksOn}
use Rattle.pv_closing.specs.Standing.{HaveAsked, StandTogether}
use Rattle.pv_closing.specs.declared.ended.Ended.{Ended}
use Rattle.pv_disk_model.specs.LogModel.{LogModel}
use Rattle.pv_law_passing.specs.Asking.{asked_by}
use Rattle.pv_opening.specs.Counts.{count_at}
use Rattle.pv_opening.specs.Opened.{HasRing}
use Rattle.pv_post.specs.Ends.{posted, taken}
use Rattle.pv_post.specs.declared.inlet.In.{In}
use Rattle.pv_rings.specs.Rings.{Each}
use Rattle.pv_script.specs.LiveView.{requests_by}
use Rattle.pv_script.specs.declared.live.Client.{Client}
use Rattle.pv_script.specs.declared.live.LiveScript.{LiveScript}
use Rattle.pv_script.specs.declared.live.Request.{Request}

-- The client is as it was, but for what its end knows of its ring.
abbrev pub IsLooked : Ended → Ended → Type 0
IsLooked old new = AsksOn old new × (new.left ≡ old.left) × (posted new.asks ≡ posted old.asks)

abbrev pub AllLooked : List Ended → List Ended → Type 0
AllLooked old new = Each (λ k one other. IsLooked one other) old new

module _ {W : Type 0} where
  -- The box is as it was, but for what its ends know of their rings.
  abbrev pub IsStill : SiteBox W → SiteBox W → Type 0
  IsStill old new = (new ≡ with_ends old new.ends) × AreStill old.ends new.ends

  abbrev pub AllStill : List (SiteBox W) → List (SiteBox W) → Type 0
  AllStill old new = Each (λ k one other. IsStill one other) old new

  -- Each box has a ring to each of these boxes and one from each, and no more to sites.
  pub record AreLinked (boxes : List (SiteBox W)) : Type 0 where
    pub ins : (n : ℕ) (any : SiteBox W) → n < length boxes → length (get_or boxes n any).ends.sites_in.items ≡ length boxes
    pub outs : (n : ℕ) (any : SiteBox W) → n < length boxes → length (get_or boxes n any).ends.sites_out.items ≡ length boxes
    pub rings : (from to : ℕ) (any : SiteBox W) → from < length boxes → to < length boxes → HasRing from to (get_or boxes from any) (get_or boxes to any)

  -- Of the first so many boxes each ring gave a beginning of what it took.
  abbrev pub AreBroughtTo : ℕ → List (SiteBox W) → Type 0
  AreBroughtTo count boxes = (from to : ℕ) (any : SiteBox W) → from < count → to < count → Brought from to (get_or boxes from any) (get_or boxes to any)

  -- Of this client's requests those that stand in the history of its site's box stand there each once and in order.
  abbrev pub StandsOnce : List (SiteBox W) → List Client → ℕ → Client → Type 0
  StandsOnce boxes clients k client =
      (any : SiteBox W)
      → Sublist (asked_by (count_at client.site.0 (take k clients)) (history_in (get_or boxes client.site.0 any))) (requests_by client)

  -- So it is of the first so many clients.
  abbrev pub StandOnceTo : ℕ → List (SiteBox W) → List Client → Type 0
  StandOnceTo count boxes clients = (k : ℕ) (client : Client) → k < count → StandsOnce boxes clients k (get_or clients k client)

  -- All that the client posted was taken from its ring, which has this place among those to the box, or the box is worn.
  abbrev pub WasTaken : SiteBox W → ℕ → Ended → Type 0
  WasTaken box place ended = IsWorn box ⊎ ((inlet : In Request) → taken (get_or box.ends.clients_in.items place inlet) ≡ posted ended.asks)

  -- So it is of the first so many clients.
  abbrev pub WereTakenTo : ℕ → List (SiteBox W) → List Client → List Ended → Type 0
  WereTakenTo count boxes clients asking =
      (k : ℕ) (client : Client) (ended : Ended) (any : SiteBox W) → k < count
      → WasTaken (get_or boxes (get_or clients k client).site.0 any) (count_at (get_or clients k client).site.0 (take k clients)) (get_or asking k ended)

  -- The boxes are those that the closing round left, but for looks at their rings, which showed that all was taken that clients had posted.
  pub record AreClosed (M : LogModel W) (script : LiveScript) (boxes : List (SiteBox W)) : Type 0 where
    pub round : List (SiteBox W)
    pub asking : List Ended
    pub standing : StandTogether M script round asking
    pub closed : (n : ℕ) (any : SiteBox W) → n < length round → IsClosedBox M script.catalog n (get_or round n any)
    pub quiet : All (IsQuiet M) round
    pub asked : HaveAsked round script.clients.items asking
    pub still : AllStill round boxes
    pub once : StandOnceTo (length script.clients.items) round script.clients.items
    pub taken : WereTakenTo (length script.clients.items) round script.clients.items asking
