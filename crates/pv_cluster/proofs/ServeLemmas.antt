-- From the opening to the end of workers and clients.
use Rattle.std.proofs.Common.{◌≡◌, ℕ, ◌<◌, [], ◌∷◌, List, All, length, get_or, map, take, sym, ap, ◌∙◌, subst, inl, inr, arith}
use Rattle.std.specs.Prelude.{Option, is_some}
use mathlib.Core.List.{IsPrefix}
use Rattle.pv_cell.specs.Box.{IsWorn}
use Rattle.pv_cell.specs.Course.{Became, HasCourse, IsNew}
use Rattle.pv_cell.specs.declared.site_box.SiteBox.{SiteBox}
use Rattle.pv_closing.specs.Closing.{GoOn, IsWhole}
use Rattle.pv_closing.specs.Standing.{IsBoxOf, IsEndedOf, StandTogether}
use Rattle.pv_closing.specs.declared.ended.Ended.{Ended}
use Rattle.pv_crew.specs.Asking.{HasPlayed}
use Rattle.pv_crew.specs.declared.client.Client as crew
use Rattle.pv_disk_model.specs.LogModel.{LogModel}
use Rattle.pv_history.specs.declared.entry.Entry.{Entry}
use Rattle.pv_mail.specs.declared.answer.Answer.{Answer}
use Rattle.pv_opening.specs.Counts.{count_at}
use Rattle.pv_opening.specs.Opened.{AreOpened, AsksBox}
use Rattle.pv_opening.specs.Opening.{AreNew}
use Rattle.pv_post.specs.Ends.{SameOut, posted}
use Rattle.pv_post.specs.declared.outlet.Out.{Out}
use Rattle.pv_rings.proofs.EachLemmas.{each-trans}
use Rattle.pv_rings.proofs.RingLemmas.{rests-self}
use Rattle.pv_rings.specs.Rings.{Each}
use Rattle.pv_script.specs.LiveView.{request_of, requests_by}
use Rattle.pv_script.specs.declared.live.Client.{Client}
use Rattle.pv_script.specs.declared.live.LiveScript.{LiveScript}
use Rattle.pv_script.specs.declared.live.Request.{Request}
use Rattle.pv_shown.specs.Sights.{sights_of}
use Rattle.pv_shown.specs.declared.shown.Sight.{Sight}
use Rattle.pv_shown.specs.declared.shown.Sight.TheVariants.{Opened, Took}
use Rattle.pv_protocol.specs.State as state
use Rattle.pv_protocol.specs.State.{Running}
use Rattle.pv_site.specs.SiteState.{SiteState}
use Rattle.pv_cluster.proofs.ListLemmas.{at-place}
use Rattle.pv_cluster.proofs.LookedLemmas.{out-further}
use Rattle.pv_cluster.proofs.StillLemmas.{pair-on}
use Rattle.pv_cluster.specs.Endings.{KeptItsLog}
use Rattle.pv_cluster.specs.Serving.{AllBecame, IsLeftOf, WentOn}

-- A ring by which a client asks stays the one that it was.
asks-still : {W : Type 0} (place : ℕ) (asks asks' : Out Request) (box : SiteBox W) → SameOut asks asks' → AsksBox place asks box → AsksBox place asks' box
asks-still place asks asks' box same is = (
  is.0,
  λ inlet. let ring = get_or box.ends.clients_in.items place inlet in pair-on asks asks' ring ring (is.1 inlet) same (rests-self ring).0,
)

module _ {W : Type 0} where
  -- what the first of these shows was at first, if it shows that
  abbrev first_in : SiteBox W → List (Sight W) → SiteBox W
  first_in none [] = none
  first_in none (Opened box ∷ more) = box
  first_in none (Took entry ∷ more) = none

  -- What a turn shows later tells that it is the same box.
  same-first : (old new : SiteBox W × SiteBox W) → IsPrefix (sights_of old) (sights_of new) → new.1 ≡ old.1
  same-first old new grown = sym (ap (λ (sights : List (Sight W)). first_in old.1 sights) grown.1)

-- Boxes that were in their turns are later ones of those that came to them.
module _ {W : Type 0} (M : LogModel W) where
  pub went-on : (boxes : List (SiteBox W)) (turns served : List (SiteBox W × SiteBox W)) (back : List (SiteBox W))
      → Each (λ k one turn. turn ≡ (one, one)) boxes turns → Each (λ k old new. IsPrefix (sights_of old) (sights_of new)) turns served
      → Each (λ k turn one. WentOn M turn.1 one) served back → Each (λ k one other. WentOn M one other) boxes back
  went-on boxes turns served back came showed went =
      each-trans (λ (k : ℕ) (one : SiteBox W) (turn : SiteBox W × SiteBox W). turn.1 ≡ one)
      (λ (k : ℕ) (turn : SiteBox W × SiteBox W) (one : SiteBox W). WentOn M turn.1 one) (λ (k : ℕ) (one other : SiteBox W). WentOn M one other) boxes served back
      (λ k one turn other less is goes. (goes.0, subst (λ (box : SiteBox W). Became M box other) is goes.1))
      (each-trans (λ (k : ℕ) (one : SiteBox W) (turn : SiteBox W × SiteBox W). turn ≡ (one, one))
      (λ (k : ℕ) (old new : SiteBox W × SiteBox W). IsPrefix (sights_of old) (sights_of new))
      (λ (k : ℕ) (one : SiteBox W) (turn : SiteBox W × SiteBox W). turn.1 ≡ one) boxes turns served
      (λ k one old new less is grown. same-first old new grown ∙ ap (λ (turn : SiteBox W × SiteBox W). turn.1) is) came showed)
      went

-- A new box isn't worn.
new-unworn : {W : Type 0} (box : SiteBox W) → IsNew box → IsWorn box → ⊥
new-unworn box new (inl full) = let none = ap (λ (all : List Entry). length all) new.history.0 in omega (arith, full, none)
new-unworn box new (inr last) = let none = new.history.1 in omega (arith, last, none)

-- A site that was opened keeps its log, as its box goes on.
kept-log : {W : Type 0} (M : LogModel W) (site : SiteState W) (old new : SiteBox W) → old.site ≡ site → IsNew old → Became M old new → KeptItsLog M site new.site
kept-log {W} M site old new is first goes =
    subst (λ (s : SiteState W). KeptItsLog M s new.site) is (
      goes.known,
      goes.faults,
      λ none. goes.down (ap (λ (s : state.Site). is_some s.running) first.site) (ap (λ (r : Option Running). is_some r) none),
    )

-- What is left of clients when they have played.
pub left-over : (clients played : List (crew.Client Request Answer)) (left : List Ended) → Each (λ k old new. HasPlayed old new) clients played
    → Each (λ k client ended. IsLeftOf client ended) played left → Each (λ k client ended. IsLeftOf client ended) clients left
left-over clients played left one other =
    each-trans (λ (k : ℕ) (old new : crew.Client Request Answer). HasPlayed old new) (λ (k : ℕ) (client : crew.Client Request Answer) (ended : Ended). IsLeftOf client ended)
    (λ (k : ℕ) (client : crew.Client Request Answer) (ended : Ended). IsLeftOf client ended) clients played left
    (λ k old new ended less played is. (is.0 ∙ played.0.0, out-further old.asks new.asks ended.asks played.0.1 is.1)) one other

module _ {W : Type 0} (M : LogModel W) (script : LiveScript) (sites : List (SiteState W)) (boxes : List (SiteBox W)) (clients : List (crew.Client Request Answer))
    (opened : AreOpened M script sites boxes clients) where
  pub opened-whole : ((box : SiteBox W) → IsNew box → HasCourse box) → All (IsWhole M) boxes
  opened-whole law k any less =
      at-place sites k (subst (λ (n : ℕ). k < n) (sym opened.boxes_are.0) less)
      (λ site. let is = opened.boxes_are.1 k site any (subst (λ (n : ℕ). k < n) (sym opened.boxes_are.0) less) in (is.is_box, law (get_or boxes k any) is.is_new))

  opened-new : (k : ℕ) (any : SiteBox W) → k < length boxes → IsNew (get_or boxes k any)
  opened-new k any less =
      let within : k < length sites = subst (λ (n : ℕ). k < n) (sym opened.boxes_are.0) less in
      at-place sites k within (λ site. (opened.boxes_are.1 k site any within).is_new)

  pub unasked : All (λ client. posted client.asks ≡ []) clients
  unasked k any less =
      let within : k < length script.clients.items = subst (λ (n : ℕ). k < n) (sym opened.clients_are.0) less in
      at-place script.clients.items k within (λ client. (opened.clients_are.1 k client any within).1)

  module _ (new : AreNew M script.catalog sites) (law : (box : SiteBox W) → IsNew box → HasCourse box) where
    pub opened-count : length boxes ≡ script.catalog.sites
    opened-count = sym opened.boxes_are.0 ∙ new.0

    new-box : (n : ℕ) (any : SiteBox W) → n < length boxes → (site : SiteState W) → n < length sites → IsBoxOf M script.catalog n (get_or boxes n any)
    new-box n any less site within =
        let is = opened.boxes_are.1 n site any within in
        record { is_box = is.is_box; number = is.number; catalog_is = is.catalog_is; course = law (get_or boxes n any) is.is_new }

    left-client : (ended : List Ended) → Each (λ k client left. IsLeftOf client left) clients ended → (k : ℕ) (client : Client) (one : Ended)
        → k < length script.clients.items → k < length clients → (met : crew.Client Request Answer)
        → IsEndedOf boxes (count_at (get_or script.clients.items k client).site.0 (take k script.clients.items)) (get_or script.clients.items k client) (get_or ended k one)
    left-client ended left k client one less within met =
        let is = opened.clients_are.1 k client met less in
        let goes = left.1 k met one within in (
          subst (λ s. map request_of s.items ≡ requests_by (get_or script.clients.items k client)) (sym goes.0) is.0,
          λ any. asks-still _ (get_or clients k met).asks (get_or ended k one).asks (get_or boxes (get_or script.clients.items k client).site.0 any) goes.1 (is.2 any),
        )

    -- What is left of the clients stands together with the boxes as they were opened.
    pub stand-first : (ended : List Ended) → Each (λ k client left. IsLeftOf client left) clients ended → StandTogether M script boxes ended
    stand-first ended left = record {
      count = opened-count;
      boxes_are = λ n any less. at-place sites n (subst (λ (m : ℕ). n < m) (sym opened.boxes_are.0) less)
          (λ site. new-box n any less site (subst (λ (m : ℕ). n < m) (sym opened.boxes_are.0) less));
      rings = opened.rings;
      places = opened.places;
      plans = opened.plans;
      answers = opened.answers;
      clients_are = (
        opened.clients_are.0 ∙ left.0,
        λ k client one less. at-place clients k (subst (λ (m : ℕ). k < m) opened.clients_are.0 less)
            (λ met. left-client ended left k client one less (subst (λ (m : ℕ). k < m) opened.clients_are.0 less) met),
      );
    }

    -- The boxes go on.
    pub opened-go : (later : List (SiteBox W)) → Each (λ k one other. WentOn M one other) boxes later → GoOn M boxes later
    opened-go later went = (
      went.0,
      λ k one other less.
          let goes = went.1 k one other less in
          (goes.0, goes.1, λ worn. absurd (new-unworn (get_or boxes k one) (opened-new k one less) worn)),
    )

    -- The logs of the sites are kept, as their boxes go on from the opening to the end.
    pub logs-kept : ((old mid new : SiteBox W) → Became M old mid → Became M mid new → Became M old new) → (served closed left : List (SiteBox W))
        → Each (λ k one other. WentOn M one other) boxes served → AllBecame M served closed → AllBecame M closed left → (n : ℕ) (site : SiteState W)
        (any : SiteBox W) → n < length sites → KeptItsLog M (get_or sites n site) (get_or left n any).site
    logs-kept both served closed left went on last_on n site any less =
        let is = opened.boxes_are.1 n site any less in
        let here : n < length boxes = subst (λ (m : ℕ). n < m) opened.boxes_are.0 less in
        let there : n < length served = subst (λ (m : ℕ). n < m) went.0 here in
        let last : n < length closed = subst (λ (m : ℕ). n < m) on.0 there in
        kept-log M (get_or sites n site) (get_or boxes n any) (get_or left n any) is.site_is is.is_new
        (both (get_or boxes n any) (get_or closed n any) (get_or left n any)
        (both (get_or boxes n any) (get_or served n any) (get_or closed n any) (went.1 n any any here).1 (on.1 n any any there)) (last_on.1 n any any last))
