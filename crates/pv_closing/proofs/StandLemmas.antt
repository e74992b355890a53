-- Boxes and clients stand together, with the rings between them, while they go on.
use Rattle.std.proofs.Common.{◌≡◌, ℕ, ◌<◌, ◌+◌, List, All, length, get_or, map, set, refl, sym, ap, subst, ◌∙◌, ⊎_elim, inl, inr, arith, get_or-set_same, get_or-set_other}
use mathlib.Core.Logic.{dite}
use native.Mathlib.Decide.{ℕ_discrete}
use Rattle.std.proofs.Math.Decide.{dec_lt}
use Rattle.std.proofs.lemmas.List.{get_or_past}
use Rattle.pv_base.specs.Catalog.{Declared}
use Rattle.pv_disk_model.specs.LogModel.{LogModel}
use Rattle.pv_law_histories.specs.Course.{course}
use Rattle.pv_protocol.specs.World.{first_site}
use Rattle.pv_site.specs.SiteState.{setup_of}
use Rattle.pv_crew.specs.Messages.{no_faults}
use Rattle.pv_post.specs.Ends.{IsPair, SameIn, SameOut, plan_of}
use Rattle.pv_post.specs.declared.fault_plan.FaultPlan.{FaultPlan}
use Rattle.pv_post.specs.declared.inlet.In.{In}
use Rattle.pv_post.specs.declared.outlet.Out.{Out}
use Rattle.pv_rings.specs.Rings.{Each}
use Rattle.pv_rings.proofs.EachLemmas.{get_or-any, each-self, each-set}
use Rattle.pv_rings.proofs.RingLemmas.{rests-self}
use Rattle.pv_script.specs.LiveView.{request_of, requests_by}
use Rattle.pv_script.specs.declared.live.Client.{Client}
use Rattle.pv_script.specs.declared.live.LiveScript.{LiveScript}
use Rattle.pv_cell.specs.declared.site_box.SiteBox.{SiteBox}
use Rattle.pv_closing.specs.Boxes.{IsClosedBox, history_in}
use Rattle.pv_closing.specs.Closing.{GoOn, IsWhole}
use Rattle.pv_closing.specs.Ended.{AskOn, AsksOn}
use Rattle.pv_opening.specs.Opened.{AnswersSurely, AsksBox, FailsBy, HasPlaces, plan_in}
use Rattle.pv_closing.specs.Standing.{HasAsked, IsBoxOf, StandTogether}
use Rattle.pv_closing.specs.declared.ended.Ended.{Ended}

-- The ends of one ring stay so.
pub pair-on : {M : Type 0} (out out' : Out M) (inlet inlet' : In M) → IsPair out inlet → SameOut out out' → SameIn inlet inlet' → IsPair out' inlet'
pair-on out out' inlet inlet' pair outs ins = (
  ins.0.0 ∙ (pair.0 ∙ sym outs.0.0.0),
  ins.0.1 ∙ (pair.1 ∙ sym outs.0.0.1),
  ins.0.2 ∙ (pair.2 ∙ sym outs.0.0.2),
  ins.0.3 ∙ (pair.3 ∙ sym outs.0.0.3),
)

-- Rings keep their plans.
plan-stays : {M : Type 0} (plan : FaultPlan) (old new : List (Out M)) → Each (λ k one other. SameOut one other) old new → All (λ out. plan_of out ≡ plan) old
    → All (λ out. plan_of out ≡ plan) new
plan-stays plan old new same all k any within =
    let less = subst (λ (n : ℕ). k < n) (sym same.0) within in
    (same.1 k any any less).1 ∙ all k any less

-- ## Clients
pub asks-self : (client : Ended) → AsksOn client client
asks-self client = (refl, (((refl, refl, refl, refl), refl), refl))

pub asks-further : (a b c : Ended) → AsksOn a b → AsksOn b c → AsksOn a c
asks-further a b c one other = (
  other.0 ∙ one.0,
  (
    ((other.1.0.0.0 ∙ one.1.0.0.0, other.1.0.0.1 ∙ one.1.0.0.1, other.1.0.0.2 ∙ one.1.0.0.2, other.1.0.0.3 ∙ one.1.0.0.3), other.1.0.1 ∙ one.1.0.1),
    other.1.1 ∙ one.1.1,
  ),
)

pub ask-nothing : (clients : List Ended) → AskOn clients clients
ask-nothing clients = each-self (λ k one other. AsksOn one other) clients (λ k one within. asks-self one)

-- One of them asks.
pub one-asks : (old mid : List Ended) (at : ℕ) (x y : Ended) → AskOn old mid → at < length mid → x ≡ get_or mid at x → AsksOn x y → AskOn old (set mid at y)
one-asks old mid at x y on within is asks =
    each-set (λ k one other. AsksOn one other) (λ k one other. AsksOn one other) old mid at y on (subst (λ (n : ℕ). at < n) (sym on.0) within)
    (λ d e before. asks-further (get_or old at d) x y (subst (λ (v : Ended). AsksOn (get_or old at d) v) (get_or-any mid at x e within ∙ sym is) before) asks)
    (λ k one other isnt before. before)

-- ## What was asked for
-- So many clients have asked.
abbrev pub HaveAskedTo : {W : Type 0} → ℕ → List (SiteBox W) → List Client → List Ended → Type 0
HaveAskedTo {W} count boxes clients ended =
    (k : ℕ) (client : Client) (one : Ended) → k < count → HasAsked boxes (get_or clients k client) (get_or ended k one)

module _ {W : Type 0} (M : LogModel W) (boxes later : List (SiteBox W)) (on : GoOn M boxes later) where
  asked-later : (client : Client) (one : Ended) → client.site.0 < length boxes → HasAsked boxes client one → HasAsked later client one
  asked-later client one within asked = ⊎_elim (λ none. inl none) (λ worn. inr (λ any. (on.1 client.site.0 any any within).2 (worn any))) asked

  -- One client more has asked.
  pub asked-more : (clients : List Client) (mid : List Ended) (at : ℕ) (client : Client) (y : Ended)
      → ((k : ℕ) (any : Client) → k < length clients → (get_or clients k any).site.0 < length boxes) → length mid ≡ length clients → at < length clients
      → client ≡ get_or clients at client → HaveAskedTo at boxes clients mid → HasAsked later client y → HaveAskedTo (at + 1) later clients (set mid at y)
  asked-more clients mid at client y sites count there is before here k c one less =
      dite (ℕ_discrete k at)
      (λ same. subst (λ (j : ℕ). HasAsked later (get_or clients j c) (get_or (set mid at y) j one)) (sym same)
      (subst (λ (v : Ended). HasAsked later (get_or clients at c) v) (sym (get_or-set_same mid at y one (subst (λ (n : ℕ). at < n) (sym count) there)))
      (subst (λ (v : Client). HasAsked later v y) (is ∙ get_or-any clients at c client there) here)))
      (λ isnt. subst (λ (v : Ended). HasAsked later (get_or clients k c) v) (sym (get_or-set_other mid at k y one isnt))
      (asked-later (get_or clients k c) (get_or mid k one) (sites k c (omega (arith, less, isnt, there))) (before k c one (omega (arith, less, isnt)))))

-- ## Boxes
-- Each box stands where its history leaves its site.
pub closed-box : {W : Type 0} (M : LogModel W) (catalog : Declared) (n : ℕ) (box : SiteBox W) → IsBoxOf M catalog n box → IsClosedBox M catalog n box
closed-box M catalog n box is = record {
  is_box = is.is_box;
  number = is.number;
  catalog_is = is.catalog_is;
  stands =
      is.course.site ∙ ap (λ (c : Declared). course (setup_of c) box.site.me first_site (history_in box)) is.catalog_is
      ∙ ap (λ (me : ℕ). course (setup_of catalog) me first_site (history_in box)) is.number;
}

-- Their rings are as many, and keep their plans.
module _ {W : Type 0} (M : LogModel W) where
  pub places-on : (clients : List Client) (boxes later : List (SiteBox W)) → GoOn M boxes later
      → ((n : ℕ) (any : SiteBox W) → n < length boxes → HasPlaces clients n (get_or boxes n any))
      → (n : ℕ) (any : SiteBox W) → n < length later → HasPlaces clients n (get_or later n any)
  places-on clients boxes later on places n any less =
      let was = subst (λ (m : ℕ). n < m) (sym on.0) less in
      sym (on.1 n any any was).1.ends.2.0 ∙ places n any was

  pub plans-on : (plan : FaultPlan) (boxes later : List (SiteBox W)) → GoOn M boxes later → All (FailsBy plan) boxes → All (FailsBy plan) later
  plans-on plan boxes later on plans n any less =
      let was = subst (λ (m : ℕ). n < m) (sym on.0) less in
      plan-stays plan (get_or boxes n any).ends.sites_out.items (get_or later n any).ends.sites_out.items (on.1 n any any was).1.ends.1 (plans n any was)

  pub answers-on : (boxes later : List (SiteBox W)) → GoOn M boxes later → All AnswersSurely boxes → All AnswersSurely later
  answers-on boxes later on answers n any less =
      let was = subst (λ (m : ℕ). n < m) (sym on.0) less in
      plan-stays no_faults (get_or boxes n any).ends.clients_out.items (get_or later n any).ends.clients_out.items (on.1 n any any was).1.ends.3 (answers n any was)

-- ## Both
module _ {W : Type 0} (M : LogModel W) (script : LiveScript) where
  pub all-whole : (boxes : List (SiteBox W)) (clients : List Ended) → StandTogether M script boxes clients → All (IsWhole M) boxes
  all-whole boxes clients stand k any within = let is = stand.boxes_are k any within in (is.is_box, is.course)

  -- They stand together later.
  module _ (boxes later : List (SiteBox W)) (clients ended : List Ended) (stand : StandTogether M script boxes clients) (on : GoOn M boxes later)
      (asks : AskOn clients ended) where
    was : (k : ℕ) → k < length later → k < length boxes
    was k less = subst (λ (n : ℕ). k < n) (sym on.0) less

    rings-out : (k : ℕ) (any : SiteBox W) → k < length boxes → length (get_or boxes k any).ends.sites_out.items ≡ length boxes
    rings-out k any less = let is = stand.boxes_are k any less in
        is.is_box.rings.1 ∙ (subst (λ c. (get_or boxes k any).site.catalog.sites ≡ c.sites) is.catalog_is refl ∙ sym stand.count)

    rings-in : (k : ℕ) (any : SiteBox W) → k < length boxes → length (get_or boxes k any).ends.sites_in.items ≡ length boxes
    rings-in k any less = let is = stand.boxes_are k any less in
        is.is_box.rings.0 ∙ (subst (λ c. (get_or boxes k any).site.catalog.sites ≡ c.sites) is.catalog_is refl ∙ sym stand.count)

    box-later : (n : ℕ) (any : SiteBox W) → n < length later → IsBoxOf M script.catalog n (get_or later n any)
    box-later n any less =
        let is = stand.boxes_are n any (was n less) in
        let goes = on.1 n any any (was n less) in
        record { is_box = goes.0.0; number = goes.1.site.0 ∙ is.number; catalog_is = goes.1.site.1 ∙ is.catalog_is; course = goes.0.1 }

    asks-box : (place : ℕ) (one other : Ended) (k : ℕ) (any : SiteBox W) → k < length boxes → AsksOn one other
        → AsksBox place one.asks (get_or boxes k any) → AsksBox place other.asks (get_or later k any)
    asks-box place one other k any less ask is =
        let ends = (on.1 k any any less).1.ends.2 in (
          subst (λ (n : ℕ). place < n) ends.0 is.0,
          λ inlet. pair-on one.asks other.asks (get_or (get_or boxes k any).ends.clients_in.items place inlet)
              (get_or (get_or later k any).ends.clients_in.items place inlet) (is.1 inlet) ask.1 (ends.1 place inlet inlet is.0),
        )

    -- Where there is no such box nothing is said of any.
    asks-any : (place : ℕ) (one other : Ended) (k : ℕ) (any : SiteBox W) → AsksOn one other → AsksBox place one.asks (get_or boxes k any)
        → AsksBox place other.asks (get_or later k any)
    asks-any place one other k any ask is =
        dite (dec_lt k (length boxes)) (λ less. asks-box place one other k any less ask is)
        (λ beyond.
        let here : AsksBox place one.asks any = subst (AsksBox place one.asks) (get_or_past boxes k any (omega (arith, beyond))) is in
        subst (AsksBox place other.asks) (sym (get_or_past later k any (omega (arith, beyond, on.0)))) (
          here.0,
          λ inlet. pair-on one.asks other.asks (get_or any.ends.clients_in.items place inlet) (get_or any.ends.clients_in.items place inlet) (here.1 inlet) ask.1
              (rests-self (get_or any.ends.clients_in.items place inlet)).0,
        ))

    pub stand-on : StandTogether M script later ended
    stand-on = record {
      count = sym on.0 ∙ stand.count;
      boxes_are = box-later;
      rings = λ from to any first second out inlet.
          let f = was from first in
          let s = was to second in
          let outs = (on.1 from any any f).1.ends.1 in
          let ins = (on.1 to any any s).1.ends.0 in
          pair-on (get_or (get_or boxes from any).ends.sites_out.items to out) (get_or (get_or later from any).ends.sites_out.items to out)
          (get_or (get_or boxes to any).ends.sites_in.items from inlet) (get_or (get_or later to any).ends.sites_in.items from inlet)
          (stand.rings from to any f s out inlet)
          (outs.1 to out out (subst (λ (n : ℕ). to < n) (sym (rings-out from any f)) s))
          (ins.1 from inlet inlet (subst (λ (n : ℕ). from < n) (sym (rings-in to any s)) f));
      places = places-on M script.clients.items boxes later on stand.places;
      plans = plans-on M (plan_in script) boxes later on stand.plans;
      answers = answers-on M boxes later on stand.answers;
      clients_are = (
        stand.clients_are.0 ∙ asks.0,
        λ k client one less.
            let c = get_or clients k one in
            let is = stand.clients_are.1 k client one less in
            let ask = asks.1 k one one (subst (λ (n : ℕ). k < n) stand.clients_are.0 less) in (
              subst (λ s. map request_of s.items ≡ requests_by (get_or script.clients.items k client)) (sym ask.0) is.0,
              λ any. asks-any _ c (get_or ended k one) _ any ask (is.1 any),
            ),
      );
    }
