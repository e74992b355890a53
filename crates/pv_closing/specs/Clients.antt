-- What clients hear when a live run is closed.
use Rattle.std.specs.Prelude.{◌≡◌, ℕ, ◌<◌, ◌≤◌, Some, Vec, List, [], Contains, length, take, get_or}
use Rattle.std.specs.declared.alloc.Global.{Global}
use mathlib.Core.List.{Sublist}
use Rattle.pv_law_passing.specs.Asking.{asked_by}
use Rattle.pv_model.specs.LiveScript as model
use Rattle.pv_rings.specs.Rings.{Each}
use Rattle.pv_script.specs.LiveView.{request_of, requests_by}
use Rattle.pv_script.specs.declared.line.Line as script
use Rattle.pv_script.specs.declared.live.Client.{Client}
use Rattle.pv_script.specs.declared.live.Request.{Request}
use Rattle.pv_script.specs.declared.live.Wish.{Wish}
use Rattle.pv_script.specs.declared.live.Wish.TheVariants.{Do, Peek}
use Rattle.pv_shelf.specs.declared.peek.Peek as look
use Rattle.pv_mail.specs.declared.asked.Asker.{Asker}
use Rattle.pv_protocol.specs.Lines.{Line}
use Rattle.pv_told.specs.Along.{line_among, told_along}
use Rattle.pv_told.specs.declared.line.ClientLine.{ClientLine}
use Rattle.pv_told.specs.declared.line.ClientWhat.TheVariants as what
use Rattle.pv_cell.specs.declared.site_box.SiteBox.{SiteBox}
use Rattle.pv_opening.specs.Counts.{count_at}
use Rattle.pv_closing.specs.Boxes.{history_in}
use Rattle.pv_closing.specs.Lines.{IsHeard, IsPeeked, IsUntold}

module _ {W : Type 0} (box : SiteBox W) (place : ℕ) where
  -- What the client at this place among its site's own hears of what it wants, of this number, where this is the site's box. Of a request of which the history has none it
  -- hears no line of the history; of an item that it looks at it hears how the site read that.
  abbrev pub IsTold : ℕ → Wish → ClientLine → Type 0
  IsTold n (Do request) line =
      (line.request ≡ n) × IsHeard box (record { client = place; number = n }) line.what
      × (((asked : model.Request) → Contains (asked_by place (history_in box)) asked → asked.number ≡ n → ⊥) → IsUntold line.what)
  IsTold n (Peek number item) line = (line.request ≡ n) × IsPeeked box item.0 line.what

  -- The line of a request of that client. A request that doesn't stand in the history has no line of the history.
  pub record IsLineOfRequest (n : ℕ) (request : Request) (line : ClientLine) : Type 0 where
    pub number : line.request ≡ n
    pub heard : IsHeard box (record { client = place; number = n }) line.what
    pub lost : (Contains (asked_by place (history_in box)) (request_of request) → ⊥) → IsUntold line.what

  -- the line of what that client wants
  abbrev pub IsLineOf : ℕ → Wish → ClientLine → Type 0
  IsLineOf n (Do request) line = IsLineOfRequest n request line
  IsLineOf n (Peek number item) line = (line.request ≡ n) × IsPeeked box item.0 line.what

  -- The line of the history for this client's request of this number stands among its first so many entries.
  abbrev pub StandsWithin : (steps n : ℕ) → Type 0
  StandsWithin steps n =
      let asker : Asker = record { client = place; number = n } in
      (line : Line) → line_among asker (told_along box.site.me [] (history_in box)) ≡ Some line
      → line_among asker (told_along box.site.me [] (take steps (history_in box))) ≡ Some line

  -- Each look of the client was after no fewer entries than each look before it, and after each line of the history for a request before it.
  pub record AreInOrder (lines : List ClientLine) : Type 0 where
    pub rising : (j k : ℕ) (any : ClientLine) (one other : look.Peek) → j < k → k < length lines
        → (get_or lines j any).what ≡ what.Peek one → (get_or lines k any).what ≡ what.Peek other → one.steps ≤ other.steps
    pub behind : (j k : ℕ) (any : ClientLine) (said : script.Line) (peek : look.Peek) → j < k → k < length lines
        → (get_or lines j any).what ≡ what.Line said → (get_or lines k any).what ≡ what.Peek peek → StandsWithin peek.steps j

  -- What that client hears of all that it wants, in order.
  abbrev pub HearsAll : Client → List ClientLine → Type 0
  HearsAll client lines = Each IsTold client.requests.items lines × AreInOrder lines

  -- The lines of that client: one for each thing that it wants, in order. Those of its requests that stand in the history stand there each once and in order.
  pub record IsServed (client : Client) (lines : List ClientLine) : Type 0 where
    pub lines_are : Each IsLineOf client.requests.items lines
    pub looks : AreInOrder lines
    pub once : Sublist (asked_by place (history_in box)) (requests_by client)

-- The lines of all clients, in order: each by the box of its site, where it has the place after those before it that are of the same site.
abbrev pub AreServed : {W : Type 0} → List (SiteBox W) → List Client → List (Vec ClientLine Global) → Type 0
AreServed {W} boxes clients lines =
    Each (λ k client heard. (any : SiteBox W) → IsServed (get_or boxes client.site.0 any) (count_at client.site.0 (take k clients)) client heard.items) clients lines

-- The same of the lines alone: each is what its client hears of what it wants, by the box of its site, and looks are in order.
abbrev pub AreTold : {W : Type 0} → List (SiteBox W) → List Client → List (Vec ClientLine Global) → Type 0
AreTold {W} boxes clients lines =
    Each (λ k client heard. (any : SiteBox W) → HearsAll (get_or boxes client.site.0 any) (count_at client.site.0 (take k clients)) client heard.items) clients lines
