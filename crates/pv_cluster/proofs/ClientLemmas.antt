-- The ring of one client after another is looked at.
use Rattle.std.proofs.Common.{◌≡◌, ℕ, ◌+◌, ◌<◌, List, length, get_or, map, take, sym, ap, ◌∙◌, subst, inl, inr, ⊎_elim, arith, Vec, Global}
use mathlib.Core.List.{IsPrefix, Sublist}
use mathlib.Core.Logic.{dite}
use native.Mathlib.Decide.{ℕ_discrete}
use Rattle.pv_cell.specs.Box.{IsWorn}
use Rattle.pv_cell.specs.Course.{HasCourse}
use Rattle.pv_cell.specs.declared.site_box.SiteBox.{SiteBox}
use Rattle.pv_closing.specs.Standing.{StandTogether}
use Rattle.pv_closing.specs.declared.ended.Ended.{Ended}
use Rattle.pv_disk_model.specs.LogModel.{LogModel}
use Rattle.pv_history.specs.Entries.{stamps_of}
use Rattle.pv_history.specs.declared.entry.Entry.{Entry}
use Rattle.pv_law_passing.specs.Asking.{asked_by}
use Rattle.pv_opening.specs.Counts.{count_at}
use Rattle.pv_opening.specs.Opened.{AsksBox}
use Rattle.pv_post.specs.Ends.{posted, taken}
use Rattle.pv_post.specs.declared.inlet.In.{In}
use Rattle.pv_rings.proofs.EachLemmas.{get_or-any}
use Rattle.pv_script.specs.LiveView.{request_of, requests_by}
use Rattle.pv_script.specs.declared.live.Client.{Client}
use Rattle.pv_script.specs.declared.live.LiveScript.{LiveScript}
use Rattle.pv_script.specs.declared.live.Request.{Request}
use Rattle.pv_cluster.proofs.OnceLemmas.{stands-once}
use Rattle.pv_cluster.specs.Looks.{AllLooked, AllStill, StandOnceTo, StandsOnce, WasTaken, WereTakenTo}

-- One more client's ring was emptied.
pub taken-more : {W : Type 0} (boxes : List (SiteBox W)) (clients : List Client) (asking : List Ended) (at : ℕ) → WereTakenTo at boxes clients asking
    → ((client : Client) (ended : Ended) (any : SiteBox W)
    → WasTaken (get_or boxes (get_or clients at client).site.0 any) (count_at (get_or clients at client).site.0 (take at clients)) (get_or asking at ended))
    → WereTakenTo (at + 1) boxes clients asking
taken-more boxes clients asking at before here k client ended any less =
    dite (ℕ_discrete k at)
    (λ is. subst
    (λ (j : ℕ). WasTaken (get_or boxes (get_or clients j client).site.0 any) (count_at (get_or clients j client).site.0 (take j clients)) (get_or asking j ended))
    (sym is) (here client ended any))
    (λ isnt. before k client ended any (omega (arith, less, isnt)))

-- One more client.
pub once-more : {W : Type 0} (boxes : List (SiteBox W)) (clients : List Client) (at : ℕ) → StandOnceTo at boxes clients
    → ((any : Client) → StandsOnce boxes clients at (get_or clients at any)) → StandOnceTo (at + 1) boxes clients
once-more boxes clients at before one k client less =
    dite (ℕ_discrete k at) (λ is. subst (λ (j : ℕ). StandsOnce boxes clients j (get_or clients j client)) (sym is) (one client))
    (λ isnt. before k client (omega (arith, less, isnt)))

-- A client of the script is of a site of its catalog.
pub fits-at : (script : LiveScript)
    → ((k : ℕ) (any : Client) → k < length script.clients.items → (get_or script.clients.items k any).site.0 < script.catalog.sites)
    → (at : ℕ) (client : Client) → at < length script.clients.items → client ≡ get_or script.clients.items at client → client.site.0 < script.catalog.sites
fits-at script fit at client within is = subst (λ (c : Client). c.site.0 < script.catalog.sites) (sym is) (fit at client within)

module _ {W : Type 0} (M : LogModel W) (script : LiveScript) (boxes : List (SiteBox W)) (clients : List Ended) (stand : StandTogether M script boxes clients)
    (fit : (k : ℕ) (any : Client) → k < length script.clients.items → (get_or script.clients.items k any).site.0 < script.catalog.sites)
    (at : ℕ) (client : Client) (ended : Ended) (box : SiteBox W)
    (place : ℕ) (within : at < length script.clients.items) (is : client ≡ get_or script.clients.items at client) (ends : ended ≡ get_or clients at ended)
    (has : box ≡ get_or boxes client.site.0 box)
    (places : (any : Client) → place ≡ count_at (get_or script.clients.items at any).site.0 (take at script.clients.items)) where
  asks-both : (map request_of ended.script.items ≡ requests_by client) × AsksBox place ended.asks box
  asks-both =
      let there = stand.clients_are.1 at client ended within in (
        subst (λ (c : Client). map request_of ended.script.items ≡ requests_by c) (sym is)
            (subst (λ (e : Ended). map request_of e.script.items ≡ requests_by (get_or script.clients.items at client)) (sym ends) there.0),
        subst (λ (b : SiteBox W). AsksBox place ended.asks b) (sym has)
            (subst (λ (c : Client). AsksBox place ended.asks (get_or boxes c.site.0 box)) (sym is)
            (subst (λ (e : Ended). AsksBox place e.asks (get_or boxes (get_or script.clients.items at client).site.0 box)) (sym ends)
            (subst (λ (p : ℕ). AsksBox p (get_or clients at ended).asks (get_or boxes (get_or script.clients.items at client).site.0 box)) (sym (places client)) (there.1 box)))),
      )

  -- The client asks by a ring to the box.
  pub asks-at : AsksBox place ended.asks box
  asks-at = asks-both.1

  there-is : client.site.0 < length boxes
  there-is = subst (λ (n : ℕ). client.site.0 < n) (sym stand.count) (fits-at script fit at client within is)

  -- What it asked for stands once in the box's history, which is the one that it was.
  pub once-at : (first : List (SiteBox W)) → AllStill first boxes
      → ((inlet : In Request) → IsPrefix (taken (get_or box.ends.clients_in.items place inlet)) (posted ended.asks)) → (any : Client)
      → StandsOnce first script.clients.items at (get_or script.clients.items at any)
  once-at first still began any =
      let in_first : client.site.0 < length first = subst (λ (n : ℕ). client.site.0 < n) (sym still.0) there-is in
      let whole = stand.boxes_are client.site.0 box there-is in
      let once = stands-once box place ended client (subst (λ (b : SiteBox W). HasCourse b) (sym has) whole.course) asks-both.1 began asks-both.0 in
      subst (λ (c : Client). StandsOnce first script.clients.items at c) (is ∙ get_or-any script.clients.items at any client within)
      (λ other.
      subst (λ (p : ℕ). Sublist (asked_by p (stamps_of (get_or first client.site.0 other).history.items)) (requests_by client))
      (places client ∙ ap (λ (c : Client). count_at c.site.0 (take at script.clients.items)) (sym is))
      (subst (λ (history : Vec Entry Global). Sublist (asked_by place (stamps_of history.items)) (requests_by client))
      (ap (λ (b : SiteBox W). b.history) has ∙ ap (λ (b : SiteBox W). b.history) (still.1 client.site.0 other box in_first).0) once))

  -- What it posted was taken from the ring, or its box is worn, as the boxes and clients were at first.
  pub taken-at : (first : List (SiteBox W)) (asking : List Ended) → AllStill first boxes → AllLooked asking clients → WasTaken box place ended → (any : Client)
      (one : Ended) (other : SiteBox W)
      → WasTaken (get_or first (get_or script.clients.items at any).site.0 other)
      (count_at (get_or script.clients.items at any).site.0 (take at script.clients.items)) (get_or asking at one)
  taken-at first asking still looked taken_all any one other =
      let site = client.site.0 in
      let in_first : site < length first = subst (λ (n : ℕ). site < n) (sym still.0) there-is in
      let then = still.1 site other box in_first in
      let here : place < length (get_or boxes site box).ends.clients_in.items =
      subst (λ (b : SiteBox W). place < length b.ends.clients_in.items) has asks-both.1.0 in
      let there : place < length (get_or first site other).ends.clients_in.items = subst (λ (n : ℕ). place < n) (sym then.1.2.0) here in
      let asked : at < length asking =
      subst (λ (n : ℕ). at < n) (sym looked.0) (subst (λ (n : ℕ). at < n) stand.clients_are.0 within) in
      subst (λ (c : Client). WasTaken (get_or first c.site.0 other) (count_at c.site.0 (take at script.clients.items)) (get_or asking at one))
      (is ∙ get_or-any script.clients.items at any client within)
      (subst (λ (p : ℕ). WasTaken (get_or first site other) p (get_or asking at one))
      (places client ∙ ap (λ (c : Client). count_at c.site.0 (take at script.clients.items)) (sym is))
      (⊎_elim (λ (worn : IsWorn box). inl (subst (λ (b : SiteBox W). IsWorn b) (has ∙ then.0) worn))
      (λ all. inr (λ inlet.
      sym (then.1.2.1 place inlet inlet there).1
      ∙ ap (λ (b : SiteBox W). taken (get_or b.ends.clients_in.items place inlet)) (sym has)
      ∙ all inlet
      ∙ ap (λ (e : Ended). posted e.asks) ends
      ∙ (looked.1 at one ended asked).2)) taken_all))
