-- What the parts of an opening come to.
use Rattle.std.proofs.Common.{◌≡◌, ℕ, ◌+◌, ◌<◌, ◌≤◌, ◌==◌, Bool, true, false, if◌then◌else◌, Some, List, [], ◌∷◌, All, length, get_or, sym, ◌∙◌, subst, arith}
use Rattle.std.specs.Prelude.{Vec, slice_get, take}
use Rattle.std.specs.declared.alloc.Global.{Global}
use Rattle.std.proofs.lemmas.List.Elements.{All-weaker}
use Rattle.std.proofs.lemmas.Option.{get_or_from_slice_get, same_Some, slice_get-get_or, slice_get_within}
use Rattle.pv_base.specs.Catalog.{Declared}
use Rattle.pv_base.specs.declared.limits.TheConstants.{MAX_CLIENTS}
use Rattle.pv_cell.specs.Opens.{IsFreshOut}
use Rattle.pv_cell.specs.declared.site_box.SiteBox.{SiteBox}
use Rattle.pv_crew.specs.Messages.{no_faults}
use Rattle.pv_crew.specs.declared.client.Client.{Client}
use Rattle.pv_disk_model.specs.LogModel.{LogModel}
use Rattle.pv_links.specs.Links.{AreEnds, IsUnusedIn, IsUnusedOut}
use Rattle.pv_links.specs.Rows.{StandsAt}
use Rattle.pv_mail.specs.declared.answer.Answer.{Answer}
use Rattle.pv_mail.specs.declared.ends.Ends.{Ends}
use Rattle.pv_opening.specs.Boxing.{AreBoxed, AreEndsAt, AreNewEnds, AreRows, HaveEach}
use Rattle.pv_opening.specs.Counts.{count_at}
use Rattle.pv_opening.specs.Meeting.{AreMet, IsMet}
use Rattle.pv_opening.specs.Opened.{AnswersSurely, AreOpened, FailsBy, HasPlaces, HasRing, IsNewBox, IsToAskOf, plan_in}
use Rattle.pv_opening.specs.declared.boxing.EndRows.{EndRows}
use Rattle.pv_post.specs.Ends.{IsPair, plan_of}
use Rattle.pv_post.specs.declared.fault_plan.FaultPlan.{FaultPlan}
use Rattle.pv_post.specs.declared.inlet.In.{In}
use Rattle.pv_post.specs.declared.outlet.Out.{Out}
use Rattle.pv_rings.specs.Rings.{Each}
use Rattle.pv_script.specs.declared.live.Client as script
use Rattle.pv_script.specs.declared.live.LiveScript.{LiveScript}
use Rattle.pv_script.specs.declared.live.Request.{Request}
use Rattle.pv_site.specs.SiteState.{SiteState}

-- ## Few clients
more-if : (test : Bool) (m k : ℕ) → m ≤ k → (if test then m + 1 else m) ≤ k + 1
more-if true m k few = omega (arith, few)
more-if false m k few = omega (arith, few)

pub count-few : (n : ℕ) (clients : List script.Client) → count_at n clients ≤ length clients
count-few n [] = omega arith
count-few n (client ∷ clients) =
    let few = more-if (client.site.0 == n) (count_at n clients) (length clients) (count-few n clients) in omega (arith, few)

-- ## Rows
stands-so : {A : Type 0} (P : A → Type 0) (xs : List A) (n : ℕ) (x : A) → All P xs → slice_get xs n ≡ Some x → P x
stands-so P xs n x all there = subst P (get_or_from_slice_get xs n x x there) (all n x (slice_get_within xs n x there))

-- What stands at a place of a row of this number is at that place of the row that has the number.
at-place : {A : Type 0} (rows : List (Vec A Global)) (n place : ℕ) (x : A) → StandsAt rows n place x → (row : Vec A Global) → slice_get rows n ≡ Some row
    → (P : A → Type 0) → P x → (place < length row.items) × ((any : A) → P (get_or row.items place any))
at-place {A} rows n place x stands row there P holds =
    let same : stands.0 ≡ row = same_Some stands.0 row (sym stands.1 ∙ there) in
    let at : slice_get row.items place ≡ Some x = subst (λ (v : Vec A Global). slice_get v.items place ≡ Some x) same stands.2 in
    (slice_get_within row.items place x at, λ any. subst P (sym (get_or_from_slice_get row.items place x any at)) holds)

module _ (plan : FaultPlan) (count : ℕ) (clients : List script.Client) (met : List (Client Request Answer)) (rows : EndRows) (have : HaveEach count rows)
    (ends : AreEnds plan count rows.sites_out.items rows.sites_in.items) (are : AreMet clients met rows.clients_in.items rows.clients_out.items)
    (few : length clients ≤ MAX_CLIENTS) where
  ends-new : (n : ℕ) (its : Ends) → AreEndsAt rows n its → AreNewEnds count its
  ends-new n its stand =
      let from = stands-so (λ row. (length row.items ≡ length rows.sites_out.items) × All IsUnusedIn row.items) rows.sites_in.items n its.sites_in ends.ins_are
      stand.0 in
      let to = stands-so (λ row. (length row.items ≡ count) × All (IsUnusedOut plan) row.items) rows.sites_out.items n its.sites_out ends.outs_are
      stand.1 in
      let asked = are.asked_are n its.clients_in stand.2 in
      let told = are.told_are n its.clients_out stand.3 in
      let mine = count-few n clients in
      let long = asked.0 in
      record {
        sites_are = (from.0 ∙ have.1, to.0);
        clients_are = (asked.0 ∙ sym told.0, omega (arith, mine, long, few));
        fresh = (
          from.1,
          All-weaker (IsUnusedOut plan) IsFreshOut (λ out unused. (unused.1, unused.2)) its.sites_out.items to.1,
          asked.1,
          All-weaker (IsUnusedOut no_faults) IsFreshOut (λ out unused. (unused.1, unused.2)) its.clients_out.items told.1,
        );
      }

  pub rows-new : AreRows count rows
  rows-new = record { count = have; new = ends-new }

  -- ## The opening
  module _ {W : Type 0} (M : LogModel W) (catalog : Declared) (sites : List (SiteState W)) (boxes : List (SiteBox W)) (long : length sites ≡ count)
      (boxed : AreBoxed M catalog sites rows boxes) where
    boxes-new : (n : ℕ) (d : SiteState W) (e : SiteBox W) → n < length sites → IsNewBox M catalog n (get_or sites n d) (get_or boxes n e)
    boxes-new n d e less =
        let at = boxed.1 n e (subst (λ m. n < m) (sym boxed.0) less) in
        subst (λ (s : SiteState W). IsNewBox M catalog n s (get_or boxes n e)) (sym (get_or_from_slice_get sites n (get_or boxes n e).site d at.site)) at.new

    has-ring : (from to : ℕ) (any : SiteBox W) → from < length boxes → to < length boxes → HasRing from to (get_or boxes from any) (get_or boxes to any)
    has-ring from to any less within out inlet =
        let one = get_or boxes from any in
        let other = get_or boxes to any in
        let its = boxed.1 from any less in
        let theirs = boxed.1 to any within in
        let posts : to < length one.ends.sites_out.items =
        subst (λ m. to < m) (boxed.0 ∙ long ∙ sym (ends-new from one.ends its.ends).sites_are.1) within in
        let takes : from < length other.ends.sites_in.items =
        subst (λ m. from < m) (boxed.0 ∙ long ∙ sym (ends-new to other.ends theirs.ends).sites_are.0) less in
        ends.pairs from to (get_or one.ends.sites_out.items to out) (get_or other.ends.sites_in.items from inlet)
        (one.ends.sites_out, its.ends.1, slice_get-get_or one.ends.sites_out.items to out posts)
        (other.ends.sites_in, theirs.ends.0, slice_get-get_or other.ends.sites_in.items from inlet takes)

    is-to-ask : (place : ℕ) (client : script.Client) (one : Client Request Answer) → IsMet place client one rows.clients_in.items rows.clients_out.items
        → IsToAskOf boxes place client one
    is-to-ask place client one is =
        let n = client.site.0 in
        let some = slice_get_within rows.clients_in.items n is.1.1.0 is.1.1.1 in
        let within : n < length boxes = subst (λ m. n < m) (have.2 ∙ sym long ∙ sym boxed.0) some in (
          is.0.0,
          is.0.1,
          λ any. at-place rows.clients_in.items n place is.1.0 is.1.1 (get_or boxes n any).ends.clients_in (boxed.1 n any within).ends.2
              (λ (inlet : In Request). IsPair one.asks inlet) is.1.2,
          λ any. at-place rows.clients_out.items n place is.2.0 is.2.1 (get_or boxes n any).ends.clients_out (boxed.1 n any within).ends.3
              (λ (out : Out Answer). IsPair out one.hears) is.2.2,
        )

    has-places : (n : ℕ) (any : SiteBox W) → n < length boxes → HasPlaces clients n (get_or boxes n any)
    has-places n any less = (are.asked_are n (get_or boxes n any).ends.clients_in (boxed.1 n any less).ends.2).0

    fail-by : All (FailsBy plan) boxes
    fail-by n any less =
        let row = (get_or boxes n any).ends.sites_out in
        let are = stands-so (λ row. (length row.items ≡ count) × All (IsUnusedOut plan) row.items) rows.sites_out.items n row ends.outs_are
        (boxed.1 n any less).ends.1 in
        All-weaker (IsUnusedOut plan) (λ out. plan_of out ≡ plan) (λ out unused. unused.0) row.items are.1

    answer-surely : All AnswersSurely boxes
    answer-surely n any less =
        let row = (get_or boxes n any).ends.clients_out in
        All-weaker (IsUnusedOut no_faults) (λ out. plan_of out ≡ no_faults) (λ out unused. unused.0) row.items
        (are.told_are n row (boxed.1 n any less).ends.3).1

    pub all-opened : (script : LiveScript) → script.catalog ≡ catalog → script.clients.items ≡ clients → plan ≡ plan_in script → AreOpened M script sites boxes met
    all-opened script its whole planned = record {
      boxes_are = (sym boxed.0, λ n d e less. subst (λ (c : Declared). IsNewBox M c n (get_or sites n d) (get_or boxes n e)) (sym its) (boxes-new n d e less));
      rings = has-ring;
      places = λ n any less. subst (λ l. HasPlaces l n (get_or boxes n any)) (sym whole) (has-places n any less);
      plans = subst (λ p. All (FailsBy p) boxes) planned fail-by;
      answers = answer-surely;
      clients_are = subst (λ l. Each (λ k client one. IsToAskOf boxes (count_at client.site.0 (take k l)) client one) l met) (sym whole)
          (are.each.0, λ k d e less. is-to-ask (count_at (get_or clients k d).site.0 (take k clients)) (get_or clients k d) (get_or met k e) (are.each.1 k d e less));
    }
