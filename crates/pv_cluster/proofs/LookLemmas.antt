-- One pair of boxes after another is looked at.
use Rattle.std.proofs.Common.{◌≡◌, ℕ, ◌+◌, ◌<◌, List, ◌++◌, length, get_or, sym, ap, ◌∙◌, subst, append-nil, arith}
use Rattle.std.proofs.lemmas.List.{nil_from_length}
use mathlib.Core.List.{IsPrefix}
use mathlib.Core.Logic.{dite}
use native.Mathlib.Decide.{ℕ_discrete}
use Rattle.pv_base.specs.Catalog.{Declared}
use Rattle.pv_cell.specs.Together.{Brought}
use Rattle.pv_cell.specs.declared.site_box.SiteBox.{SiteBox}
use Rattle.pv_closing.specs.Standing.{StandTogether}
use Rattle.pv_closing.specs.declared.ended.Ended.{Ended}
use Rattle.pv_disk_model.specs.LogModel.{LogModel}
use Rattle.pv_mail.specs.declared.ends.Parcel.{Parcel}
use Rattle.pv_opening.specs.Opened.{HasRing}
use Rattle.pv_post.specs.Ends.{IsPair, known, posted, taken}
use Rattle.pv_post.specs.declared.inlet.In.{In}
use Rattle.pv_post.specs.declared.outlet.Out.{Out}
use Rattle.pv_script.specs.declared.live.LiveScript.{LiveScript}
use Rattle.pv_cluster.proofs.StillLemmas.{was-brought}
use Rattle.pv_cluster.specs.Looks.{AllStill, AreBroughtTo, AreLinked}

-- What a look with both ends shows.
pub begins : {M : Type 0} (out out' : Out M) (inlet inlet' : In M) → taken inlet' ≡ taken inlet → posted out' ≡ posted out
    → taken inlet' ++ known inlet' ≡ posted out' → IsPrefix (taken inlet) (posted out)
begins {M} out out' inlet inlet' same_taken same_posted all =
    (known inlet', ap (λ (front : List (M × ℕ)). front ++ known inlet') (sym same_taken) ∙ all ∙ same_posted)

-- Where nothing is known to be left, all was taken.
pub emptied : {M : Type 0} (out out' : Out M) (inlet inlet' : In M) (held : ℕ) → taken inlet' ≡ taken inlet → posted out' ≡ posted out
    → taken inlet' ++ known inlet' ≡ posted out' → held ≡ length (known inlet') → held ≡ 0 → taken inlet ≡ posted out
emptied {M} out out' inlet inlet' held same_taken same_posted all long none =
    sym same_taken ∙ sym (append-nil (taken inlet'))
    ∙ ap (λ (rest : List (M × ℕ)). taken inlet' ++ rest) (sym (nil_from_length (known inlet') (sym long ∙ none))) ∙ all ∙ same_posted

-- What the look at a ring shows of two boxes that have its ends.
pub brought-by : {W : Type 0} (from to : ℕ) (one other : SiteBox W) (out : Out Parcel) (inlet : In Parcel) → ((any : Out Parcel) → out ≡ get_or one.ends.sites_out.items to any)
    → ((any : In Parcel) → inlet ≡ get_or other.ends.sites_in.items from any) → IsPrefix (taken inlet) (posted out) → Brought from to one other
brought-by from to one other out inlet outs ins began some ring =
    subst (λ (r : In Parcel). IsPrefix (taken r) (posted (get_or one.ends.sites_out.items to some))) (ins ring)
    (subst (λ (r : Out Parcel). IsPrefix (taken inlet) (posted r)) (outs some) began)

-- The ends that stand at these places are of one ring.
pub pair-by : {W : Type 0} (from to : ℕ) (one other : SiteBox W) (out : Out Parcel) (inlet : In Parcel) → ((any : Out Parcel) → out ≡ get_or one.ends.sites_out.items to any)
    → ((any : In Parcel) → inlet ≡ get_or other.ends.sites_in.items from any) → HasRing from to one other → IsPair out inlet
pair-by from to one other out inlet outs ins has =
    subst (λ (r : In Parcel). IsPair out r) (sym (ins inlet)) (subst (λ (r : Out Parcel). IsPair r (get_or other.ends.sites_in.items from inlet)) (sym (outs out)) (has out inlet))

module _ {W : Type 0} where
  -- Of the box of this number and the first so many the rings gave beginnings of what they took.
  pub record AreBroughtWith (at count : ℕ) (boxes : List (SiteBox W)) : Type 0 where
    pub own : (any : SiteBox W) → Brought at at (get_or boxes at any) (get_or boxes at any)
    pub on : (k : ℕ) (any : SiteBox W) → k < count → Brought k at (get_or boxes k any) (get_or boxes at any)
    pub back : (k : ℕ) (any : SiteBox W) → k < count → Brought at k (get_or boxes at any) (get_or boxes k any)

  pub own-first : (at : ℕ) (boxes : List (SiteBox W)) → ((any : SiteBox W) → Brought at at (get_or boxes at any) (get_or boxes at any)) → AreBroughtWith at 0 boxes
  own-first at boxes own = record { own = own; on = λ k any less. absurd (omega (arith, less)); back = λ k any less. absurd (omega (arith, less)) }

  module _ (old mid : List (SiteBox W)) (all : AllStill old mid) (linked : AreLinked old) (at : ℕ) (within : at < length old) where
    -- One more.
    pub with-more : (k : ℕ) → k < at → AreBroughtWith at k old → ((any : SiteBox W) → Brought k at (get_or mid k any) (get_or mid at any))
        → ((any : SiteBox W) → Brought at k (get_or mid at any) (get_or mid k any)) → AreBroughtWith at (k + 1) old
    with-more k below before on back =
        let there : k < length old = omega (arith, below, within) in
        record {
          own = before.own;
          on = λ j any less. dite (ℕ_discrete j k)
              (λ is. subst (λ (i : ℕ). Brought i at (get_or old i any) (get_or old at any)) (sym is) (was-brought old mid all linked k at any there within (on any)))
              (λ isnt. before.on j any (omega (arith, less, isnt)));
          back = λ j any less. dite (ℕ_discrete j k)
              (λ is. subst (λ (i : ℕ). Brought at i (get_or old at any) (get_or old i any)) (sym is) (was-brought old mid all linked at k any within there (back any)))
              (λ isnt. before.back j any (omega (arith, less, isnt)));
        }

    -- The box of the next number, with all before it.
    pub brought-more : AreBroughtTo at old → AreBroughtWith at at mid → AreBroughtTo (at + 1) old
    brought-more before with from to any first second =
        dite (ℕ_discrete from at)
        (λ is. dite (ℕ_discrete to at)
        (λ same. both from to any is same)
        (λ isnt. let below : to < at = omega (arith, second, isnt) in
        subst (λ (i : ℕ). Brought i to (get_or old i any) (get_or old to any)) (sym is)
        (was-brought old mid all linked at to any within (omega (arith, below, within)) (with.back to any below))))
        (λ isnt. let below : from < at = omega (arith, first, isnt) in
        dite (ℕ_discrete to at)
        (λ same. subst (λ (i : ℕ). Brought from i (get_or old from any) (get_or old i any)) (sym same)
        (was-brought old mid all linked from at any (omega (arith, below, within)) within (with.on from any below)))
        (λ other. before from to any below (omega (arith, second, other))))
      where
        both : (from to : ℕ) (any : SiteBox W) → from ≡ at → to ≡ at → Brought from to (get_or old from any) (get_or old to any)
        both from to any is same =
            subst (λ (i : ℕ). Brought i to (get_or old i any) (get_or old to any)) (sym is)
            (subst (λ (i : ℕ). Brought at i (get_or old at any) (get_or old i any)) (sym same) (was-brought old mid all linked at at any within within (with.own any)))

-- ## Two boxes of linked ones
module _ {W : Type 0} (boxes : List (SiteBox W)) where
  pub linked-places : (k j : ℕ) (box : SiteBox W) → AreLinked boxes → k < length boxes → j < length boxes → box ≡ get_or boxes k box
      → (j < length box.ends.sites_in.items) × (j < length box.ends.sites_out.items)
  linked-places k j box linked within other is =
      subst (λ (b : SiteBox W). (j < length b.ends.sites_in.items) × (j < length b.ends.sites_out.items)) (sym is)
      (subst (λ (n : ℕ). j < n) (sym (linked.ins k box within)) other, subst (λ (n : ℕ). j < n) (sym (linked.outs k box within)) other)

  pub linked-ring : (from to : ℕ) (one other : SiteBox W) → AreLinked boxes → from < length boxes → to < length boxes → one ≡ get_or boxes from one
      → other ≡ get_or boxes to one → HasRing from to one other
  linked-ring from to one other linked first second is are =
      subst (λ (b : SiteBox W). HasRing from to one b) (sym are)
      (subst (λ (b : SiteBox W). HasRing from to b (get_or boxes to one)) (sym is) (linked.rings from to one first second))

  pub brought-at : (from to : ℕ) (one other any : SiteBox W) → one ≡ get_or boxes from any → other ≡ get_or boxes to any → Brought from to one other
      → Brought from to (get_or boxes from any) (get_or boxes to any)
  brought-at from to one other any is are brought =
      subst (λ (b : SiteBox W). Brought from to (get_or boxes from any) b) are (subst (λ (b : SiteBox W). Brought from to b other) is brought)

-- ## Boxes that stand together are linked
module _ {W : Type 0} (M : LogModel W) (script : LiveScript) (boxes : List (SiteBox W)) (clients : List Ended) (stand : StandTogether M script boxes clients) where
  pub are-linked : AreLinked boxes
  are-linked = record {
    ins = λ n any less. let is = stand.boxes_are n any less in is.is_box.rings.0 ∙ (ap (λ (c : Declared). c.sites) is.catalog_is ∙ sym stand.count);
    outs = λ n any less. let is = stand.boxes_are n any less in is.is_box.rings.1 ∙ (ap (λ (c : Declared). c.sites) is.catalog_is ∙ sym stand.count);
    rings = stand.rings;
  }
