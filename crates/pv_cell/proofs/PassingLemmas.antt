-- What a site's box has of another's messages came from that one's box, in order.
use Rattle.std.proofs.Common.{◌≡◌, ℕ, ◌+◌, ◌<◌, List, [], ◌∷◌, ◌++◌, length, get_or, map, refl, sym, ap, subst, inl, inr}
use Rattle.std.proofs.lemmas.List.{get_or-map}
use Rattle.std.proofs.lemmas.List.Elements.{All-get_or}
use Rattle.std.specs.List.{AllZip}
use mathlib.Core.List.{IsPrefix}
use Rattle.pv_base.specs.Catalog.{Declared}
use Rattle.pv_history.specs.Entries.{stamps_of}
use Rattle.pv_law_histories.specs.Posting as law
use Rattle.pv_law_histories.specs.Posting.{posted_to}
use Rattle.pv_law_passing.proofs.ComingLemmas.{come-in-order}
use Rattle.pv_law_passing.specs.Coming.{ComesInOrder, SealsAlike}
use Rattle.pv_law_passing.specs.Rings.{Sealed, Seals}
use Rattle.pv_law_passing.specs.Traffic.{offered_at, taken_at}
use Rattle.pv_mail.specs.declared.ends.Parcel.{Parcel}
use Rattle.pv_post.specs.Ends.{offered, plan_of, posted, taken}
use Rattle.pv_post.specs.declared.fault_plan.FaultPlan.{FaultPlan}
use Rattle.pv_post.specs.declared.inlet.In.{In}
use Rattle.pv_post.specs.declared.outlet.Out.{Out}
use Rattle.pv_protocol.specs.World.{first_site}
use Rattle.pv_rings.proofs.EachLemmas.{get_or-any}
use Rattle.pv_rings.specs.Rings.{Keeps, count_of}
use Rattle.pv_site.specs.SiteState.{setup_of}
use Rattle.pv_cell.proofs.TogetherLemmas.{at-place, within-sites}
use Rattle.pv_cell.specs.Course.{sealed_again}
use Rattle.pv_cell.specs.Together.{AreAllBoxes, PassesInOrder}
use Rattle.pv_cell.specs.Traffic.{KeepsItsPlan, sealed_count, sealed_of, sealed_offered, sealed_taken, traffic_of}
use Rattle.pv_cell.specs.declared.site_box.SiteBox.{SiteBox}

-- ## Partners
module _ {A B C : Type 0} (show : A → B) (R : B → C → Type 0) where
  -- The partners of what is shown are those of what shows it.
  of-shown : (xs : List A) (ys : List C) → AllZip R (map show xs) ys → AllZip (λ x y. R (show x) y) xs ys
  of-shown [] [] zip = tt
  of-shown [] (y ∷ ys) zip = absurd zip
  of-shown (x ∷ xs) [] zip = absurd zip
  of-shown (x ∷ xs) (y ∷ ys) zip = (zip.0, of-shown xs ys zip.1)

  to-shown : (xs : List A) (ys : List C) → AllZip (λ x y. R (show x) y) xs ys → AllZip R (map show xs) ys
  to-shown [] [] zip = tt
  to-shown [] (y ∷ ys) zip = absurd zip
  to-shown (x ∷ xs) [] zip = absurd zip
  to-shown (x ∷ xs) (y ∷ ys) zip = (zip.0, to-shown xs ys zip.1)

module _ {A B : Type 0} (R : A → B → Type 0) where
  -- A beginning of the one list has a beginning of the other for its partners.
  front-partners : (front rest : List A) (ys : List B) → AllZip R (front ++ rest) ys → (given : List B) × IsPrefix given ys × AllZip R front given
  front-partners [] rest ys zip = ([], (ys, refl), tt)
  front-partners (x ∷ front) rest [] zip = absurd zip
  front-partners (x ∷ front) rest (y ∷ ys) zip =
      let more = front-partners front rest ys zip.1 in (y ∷ more.0, (more.1.0, ap (λ (all : List B). y ∷ all) more.1.1), (zip.0, more.2))

  -- What a ring keeps of messages it would keep of their partners.
  abbrev Alike : A × ℕ → B × ℕ → Type 0
  Alike one other = R one.0 other.0 × (one.1 ≡ other.1)

  keeps-partners : (plan : FaultPlan) (number : ℕ) (xs : List A) (kept : List (A × ℕ)) (ys : List B) → Keeps plan number xs kept → AllZip R xs ys
      → (held : List (B × ℕ)) × Keeps plan number ys held × AllZip Alike kept held
  keeps-partners plan number [] kept [] none zip = ([], refl, subst (λ (all : List (A × ℕ)). AllZip Alike all []) (sym none) tt)
  keeps-partners plan number [] kept (y ∷ ys) none zip = absurd zip
  keeps-partners plan number (x ∷ xs) kept [] keeps zip = absurd zip
  keeps-partners plan number (x ∷ xs) kept (y ∷ ys) (inl lost) zip =
      let more = keeps-partners plan (number + 1) xs kept ys lost zip.1 in (more.0, inl more.1, more.2)
  keeps-partners plan number (x ∷ xs) kept (y ∷ ys) (inr taken) zip =
      let more = keeps-partners plan (number + 1) xs taken.0 ys taken.3 zip.1 in (
        (y, count_of plan number) ∷ more.0,
        inr (more.0, refl, taken.2, more.1),
        subst (λ (all : List (A × ℕ)). AllZip Alike all ((y, count_of plan number) ∷ more.0)) (sym taken.1) ((zip.0, refl), more.2),
      )

-- ## Boxes
module _ {W : Type 0} (catalog : Declared) (boxes : List (SiteBox W)) (are : AreAllBoxes catalog boxes) (from to : ℕ) (any : SiteBox W)
    (of_from : from < length boxes) (of_to : to < length boxes) where
  abbrev One : SiteBox W
  One = get_or boxes from any

  abbrev Other : SiteBox W
  Other = get_or boxes to any

  abbrev Posts : List law.Parcel
  Posts = posted_to (setup_of catalog) from to first_site (stamps_of One.history.items)

  out-there : to < length One.ends.sites_out.items
  out-there = subst (λ (n : ℕ). to < n) (sym (are.boxes_are from any of_from).rings.1) (within-sites catalog boxes are to from any of_to of_from)

  in-there : from < length Other.ends.sites_in.items
  in-there = subst (λ (n : ℕ). from < n) (sym (are.boxes_are to any of_to).rings.0) (within-sites catalog boxes are from to any of_from of_to)

  -- What was offered to the ring is what the history posts there.
  offered-posts : (out : Out Parcel) → AllZip (λ parcel post. Seals from to (sealed_of parcel) post) (offered (get_or One.ends.sites_out.items to out)) Posts
  offered-posts out =
      let is = are.boxes_are from any of_from in
      let ring = get_or One.ends.sites_out.items to out in
      let goes : AllZip (Seals One.site.me to) (offered_at (traffic_of One.ends) to) (posted_to (setup_of One.site.catalog) One.site.me to first_site (stamps_of One.history.items)) =
      is.course.goes.offered to (within-sites catalog boxes are to from any of_to of_from) in
      of-shown sealed_of (Seals from to) (offered ring) Posts
      (subst (λ (all : List Sealed). AllZip (Seals from to) all Posts) (get_or-map sealed_offered One.ends.sites_out.items to out [] out-there)
      (subst (λ (declared : Declared).
      AllZip (Seals from to) (offered_at (traffic_of One.ends) to) (posted_to (setup_of declared) from to first_site (stamps_of One.history.items))) is.catalog_is
      (subst (λ (n : ℕ). AllZip (Seals n to) (offered_at (traffic_of One.ends) to) (posted_to (setup_of One.site.catalog) n to first_site (stamps_of One.history.items))) is.number
      goes)))

  pub pass-in-order : PassesInOrder (setup_of catalog) from to One Other
  pass-in-order =
      at-place One.ends.sites_out.items to out-there (λ (out : Out Parcel).
      at-place Other.ends.sites_in.items from in-there (λ (inlet : In Parcel).
      let is = are.boxes_are from any of_from in
      let is' = are.boxes_are to any of_to in
      let R : Parcel → law.Parcel → Type 0 = λ parcel post. Seals from to (sealed_of parcel) post in
      let outs = One.ends.sites_out.items in
      let ring = get_or outs to out in
      let inlet_ring = get_or Other.ends.sites_in.items from inlet in
      let keeps : KeepsItsPlan ring = All-get_or (λ (it : Out Parcel). KeepsItsPlan it) outs to out out-there is.course.plans in
      let kept = keeps-partners R (plan_of ring) 1 (offered ring) (posted ring) Posts keeps (offered-posts out) in
      let brought = are.brought from to any of_from of_to out inlet in
      let given = front-partners (Alike R) (taken inlet_ring) brought.0 kept.0
      (subst (λ (all : List (Parcel × ℕ)). AllZip (Alike R) all kept.0) (sym brought.1) kept.2) in
      let alike : AllZip (SealsAlike from to) (taken_at (traffic_of Other.ends) from) given.0 =
      subst (λ (all : List (Sealed × ℕ)). AllZip (SealsAlike from to) all given.0) (sym (get_or-map sealed_taken Other.ends.sites_in.items from inlet [] in-there))
      (to-shown sealed_count (SealsAlike from to) (taken inlet_ring) given.0 given.2) in
      record {
        held = kept.0;
        given = given.0;
        plan = λ any_out. subst (λ (it : Out Parcel). Keeps (plan_of it) 1 Posts kept.0) (get_or-any outs to any_out out out-there) kept.1;
        gave = given.1;
        seals = alike;
        came = come-in-order from to (stamps_of Other.history.items) (sealed_again from Other.again) (taken_at (traffic_of Other.ends) from) given.0
            (subst (λ (n : ℕ). ComesInOrder from n (stamps_of Other.history.items) (sealed_again from Other.again) (taken_at (traffic_of Other.ends) from)) is'.number
            (is'.course.came from)) alike;
      }))
