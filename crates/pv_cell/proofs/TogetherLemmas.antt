-- The boxes of all sites go together by the rings between them.
use Rattle.std.proofs.Common.{◌≡◌, ℕ, ◌<◌, List, [], length, get_or, map, sym, ap, ◌∙◌, subst, ⊎_elim, arith}
use Rattle.std.proofs.lemmas.List.{get_or-map, length-map, map-append}
use Rattle.std.proofs.lemmas.Option.{slice_get_cases}
use mathlib.Core.List.{IsPrefix}
use Rattle.pv_base.specs.Catalog.{Declared}
use Rattle.pv_history.specs.Entries.{stamps_of}
use Rattle.pv_law_histories.specs.Fitting.{history_of}
use Rattle.pv_law_histories.specs.History.{Stamped}
use Rattle.pv_law_passing.specs.Rings.{Sealed}
use Rattle.pv_law_passing.specs.Traffic as law
use Rattle.pv_law_passing.specs.Traffic.{GoTogether, GoesByItsRings, Traffic, posted_at, taken_at}
use Rattle.pv_mail.specs.declared.ends.Parcel.{Parcel}
use Rattle.pv_post.specs.declared.inlet.In.{In}
use Rattle.pv_post.specs.declared.outlet.Out.{Out}
use Rattle.pv_site.specs.SiteState.{setup_of}
use Rattle.pv_cell.specs.Together.{AreAllBoxes, histories_of, traffics_of}
use Rattle.pv_cell.specs.Traffic.{sealed_count, sealed_posted, sealed_taken, traffic_of}
use Rattle.pv_cell.specs.declared.site_box.SiteBox.{SiteBox}

-- A list that has a place has an element, which stands for none.
pub at-place : {A : Type 0} {P : Type 0} (xs : List A) (k : ℕ) → k < length xs → ((any : A) → P) → P
at-place xs k within thus = ⊎_elim (λ found. thus found.0) (λ out. let past = out.0 in absurd (omega arith)) ((slice_get_cases xs k).1)

mapped-prefix : {A B : Type 0} (show : A → B) (xs ys : List A) → IsPrefix xs ys → IsPrefix (map show xs) (map show ys)
mapped-prefix {A} show xs ys is = (map show is.0, sym (map-append show xs is.0) ∙ ap (λ (all : List A). map show all) is.1)

module _ {W : Type 0} (catalog : Declared) (boxes : List (SiteBox W)) (are : AreAllBoxes catalog boxes) where
  history-at : (n : ℕ) (any : SiteBox W) → n < length boxes → history_of (histories_of boxes) n ≡ stamps_of (get_or boxes n any).history.items
  history-at n any within = get_or-map (λ (box : SiteBox W). stamps_of box.history.items) boxes n any [] within

  traffic-at : (n : ℕ) (any : SiteBox W) → n < length boxes → law.traffic_of (traffics_of boxes) n ≡ traffic_of (get_or boxes n any).ends
  traffic-at n any within =
      get_or-map (λ (box : SiteBox W). traffic_of box.ends) boxes n any (record { offered = []; posted = []; taken = [] }) within

  goes : (n : ℕ) (any : SiteBox W) → n < length boxes
      → GoesByItsRings (setup_of catalog) n (history_of (histories_of boxes) n) (law.traffic_of (traffics_of boxes) n)
  goes n any within =
      let is = are.boxes_are n any within in
      subst (λ (history : List Stamped). GoesByItsRings (setup_of catalog) n history (law.traffic_of (traffics_of boxes) n)) (sym (history-at n any within))
      (subst (λ (traffic : Traffic). GoesByItsRings (setup_of catalog) n (stamps_of (get_or boxes n any).history.items) traffic) (sym (traffic-at n any within))
      (subst (λ (me : ℕ). GoesByItsRings (setup_of catalog) me (stamps_of (get_or boxes n any).history.items) (traffic_of (get_or boxes n any).ends)) is.number
      (subst (λ (declared : Declared).
      GoesByItsRings (setup_of declared) (get_or boxes n any).site.me (stamps_of (get_or boxes n any).history.items) (traffic_of (get_or boxes n any).ends)) is.catalog_is
      is.course.goes)))

  pub within-sites : (n of : ℕ) (any : SiteBox W) → n < length boxes → of < length boxes → n < (get_or boxes of any).site.catalog.sites
  within-sites n of any within there =
      subst (λ (sites : ℕ). n < sites) (are.count ∙ ap (λ (declared : Declared). declared.sites) (sym (are.boxes_are of any there).catalog_is)) within

  brings : (from to : ℕ) (any : SiteBox W) → from < length boxes → to < length boxes
      → IsPrefix (taken_at (law.traffic_of (traffics_of boxes) to) from) (posted_at (law.traffic_of (traffics_of boxes) from) to)
  brings from to any of_from of_to =
      let one = get_or boxes from any in
      let other = get_or boxes to any in
      let out_there : to < length one.ends.sites_out.items =
      subst (λ (n : ℕ). to < n) (sym (are.boxes_are from any of_from).rings.1) (within-sites to from any of_to of_from) in
      let in_there : from < length other.ends.sites_in.items =
      subst (λ (n : ℕ). from < n) (sym (are.boxes_are to any of_to).rings.0) (within-sites from to any of_from of_to) in
      at-place one.ends.sites_out.items to out_there (λ (out : Out Parcel).
      at-place other.ends.sites_in.items from in_there (λ (inlet : In Parcel).
      subst (λ (all : List (Sealed × ℕ)). IsPrefix all (posted_at (law.traffic_of (traffics_of boxes) from) to))
      (sym (ap (λ (traffic : Traffic). taken_at traffic from) (traffic-at to any of_to) ∙ get_or-map sealed_taken other.ends.sites_in.items from inlet [] in_there))
      (subst (λ (all : List (Sealed × ℕ)). IsPrefix (sealed_taken (get_or other.ends.sites_in.items from inlet)) all)
      (sym (ap (λ (traffic : Traffic). posted_at traffic to) (traffic-at from any of_from) ∙ get_or-map sealed_posted one.ends.sites_out.items to out [] out_there))
      (mapped-prefix sealed_count _ _ (are.brought from to any of_from of_to out inlet)))))

  within-boxes : (n : ℕ) → n < length (histories_of boxes) → n < length boxes
  within-boxes n within = subst (λ (count : ℕ). n < count) (length-map boxes (λ (box : SiteBox W). stamps_of box.history.items)) within

  pub go-together : GoTogether (setup_of catalog) (histories_of boxes) (traffics_of boxes)
  go-together = record {
    count = length-map boxes (λ (box : SiteBox W). stamps_of box.history.items) ∙ are.count;
    sites = λ n within. at-place boxes n (within-boxes n within) (λ any. goes n any (within-boxes n within));
    brings = λ from to of_from of_to.
        at-place boxes from (within-boxes from of_from) (λ any. brings from to any (within-boxes from of_from) (within-boxes to of_to));
  }
