-- Rings that are made one by one.
use Rattle.std.proofs.Common.{◌≡◌, ◌≢◌, ℕ, ◌+◌, ◌<◌, Option, Some, None, List, [], ◌∷◌, ◌++◌, All, length, get_or, refl, sym, ◌∙◌, ap, subst, ⊎_elim, arith}
use Rattle.std.specs.Prelude.{Vec, slice_get}
use Rattle.std.specs.declared.alloc.Global.{Global}
use Rattle.std.proofs.lemmas.List.{length_push}
use Rattle.std.proofs.lemmas.List.Elements.{All-nil, All-push}
use Rattle.std.proofs.lemmas.Option.{get_or_from_slice_get, none-some, slice_get-get_or, slice_get_cases, slice_get_past, slice_get_within}
use mathlib.Core.Logic.{dite}
use native.Mathlib.Decide.{ℕ_discrete}
use Rattle.pv_post.specs.Ends.{IsPair}
use Rattle.pv_post.specs.declared.fault_plan.FaultPlan.{FaultPlan}
use Rattle.pv_post.specs.declared.inlet.In.{In}
use Rattle.pv_post.specs.declared.outlet.Out.{Out}
use Rattle.pv_rings.proofs.EachLemmas.{each-self, each-trans}
use Rattle.pv_links.specs.Links.{AreEnds, AreLinked, IsLinked, IsUnusedIn, IsUnusedOut}
use Rattle.pv_links.specs.Rows.{AddsTo, StandsAt}
use Rattle.pv_links.proofs.RowLemmas.{element_at, get-append-left, get-push}

abbrev option_or : {A : Type 0} → A → Option A → A
option_or d None = d
option_or d (Some v) = v

some-same : {A : Type 0} (x y : A) → Some x ≡ Some y → x ≡ y
some-same x y same = ap (option_or x) same

-- One more at the end leaves the other places.
place-kept : {A : Type 0} (xs : List A) (x : A) (k : ℕ) → k ≢ length xs → slice_get (xs ++ x ∷ []) k ≡ slice_get xs k
place-kept xs x k isnt = ⊎_elim
    (λ found. get-append-left xs (x ∷ []) k found.1)
    (λ past. let long = length_push xs x in let over = past.0 in slice_get_past (xs ++ x ∷ []) k (omega (arith, isnt)) ∙ sym (slice_get_past xs k over))
    ((slice_get_cases xs k).1)

module _ {M : Type 0} where
  -- ## From one site
  none-linked : (k : ℕ) (row : Vec (In M) Global) → IsLinked (slice_get [] k) row row
  none-linked k row = subst (λ (o : Option (Out M)). IsLinked o row row) (sym (slice_get_past [] k (omega arith))) refl

  pub linked-first : (plan : FaultPlan) (outs : List (Out M)) (rows : List (Vec (In M) Global)) → outs ≡ [] → AreLinked plan outs rows rows
  linked-first plan outs rows none =
      subst (λ l. AreLinked plan l rows rows) (sym none)
      (All-nil (IsUnusedOut plan), each-self (λ to. IsLinked (slice_get [] to)) rows (λ k row less. none-linked k row))

  kept : (o : Option (Out M)) (x y z : Vec (In M) Global) → z.items ≡ y.items → IsLinked o x y → IsLinked o x z
  kept None x y z same one = same ∙ one
  kept (Some v) x y z same one = (one.0, same ∙ one.1, one.2, one.3)

  module _ (plan : FaultPlan) (outs : List (Out M)) (out : Out M) (inlet : In M) (is : IsPair out inlet) (fresh : IsUnusedIn inlet) where
    one-linked : (k : ℕ) (x y z : Vec (In M) Global) → IsLinked (slice_get outs k) x y
        → (k ≡ length outs → z.items ≡ y.items ++ inlet ∷ []) × (k ≢ length outs → z.items ≡ y.items) → IsLinked (slice_get (outs ++ out ∷ []) k) x z
    one-linked k x y z one other = dite (ℕ_discrete k (length outs))
        (λ here.
        let was : y.items ≡ x.items = subst (λ (o : Option (Out M)). IsLinked o x y) (slice_get_past outs k (omega (arith, here))) one in
        subst (λ (o : Option (Out M)). IsLinked o x z) (sym (get-push outs out k here))
        (inlet, other.0 here ∙ ap (λ l. l ++ inlet ∷ []) was, is, fresh))
        (λ isnt.
        subst (λ (o : Option (Out M)). IsLinked o x z) (sym (place-kept outs out k isnt)) (kept (slice_get outs k) x y z (other.1 isnt) one))

    pub linked-more : (old mid new : List (Vec (In M) Global)) → AreLinked plan outs old mid → IsUnusedOut plan out → AddsTo (length outs) inlet mid new
        → AreLinked plan (outs ++ out ∷ []) old new
    linked-more old mid new linked unused adds = (
      All-push (IsUnusedOut plan) outs out linked.0 unused,
      each-trans (λ to. IsLinked (slice_get outs to))
          (λ k before after. (k ≡ length outs → after.items ≡ before.items ++ inlet ∷ []) × (k ≢ length outs → after.items ≡ before.items))
          (λ to. IsLinked (slice_get (outs ++ out ∷ []) to)) old mid new (λ k x y z less one other. one-linked k x y z one other) linked.1 adds,
    )

  -- ## From all sites
  pub ends-first : (plan : FaultPlan) (sites : ℕ) (outs : List (Vec (Out M) Global)) (ins : List (Vec (In M) Global)) → outs ≡ [] → length ins ≡ sites
      → All (λ row. row.items ≡ []) ins → AreEnds plan sites outs ins
  ends-first plan sites outs ins none count empty = subst (λ l. AreEnds plan sites l ins) (sym none) record {
    count = count;
    outs_are = All-nil (λ row. (length row.items ≡ sites) × All (IsUnusedOut plan) row.items);
    ins_are = λ k d less. let is = empty k d less in
        (ap (λ l. length l) is, subst (λ l. All IsUnusedIn l) (sym is) (All-nil IsUnusedIn));
    pairs = λ from to out inlet stands other. absurd (none-some stands.0 (sym (slice_get_past [] from (omega arith)) ∙ stands.1));
  }

  module _ (plan : FaultPlan) (sites : ℕ) (outs : List (Vec (Out M) Global)) (old new : List (Vec (In M) Global)) (row : Vec (Out M) Global)
      (ends : AreEnds plan sites outs old) (count : length row.items ≡ length old) (linked : AreLinked plan row.items old new) where
    -- What each row of the ends that take is now: it has one more.
    more-at : (to : ℕ) (d : Vec (In M) Global) (less : to < length old) → (out : Out M) → slice_get row.items to ≡ Some out
        → IsLinked (Some out) (get_or old to d) (get_or new to d)
    more-at to d less out there = subst (λ o. IsLinked o (get_or old to d) (get_or new to d)) there (linked.1.1 to d d less)

    row-grown : (to : ℕ) (d : Vec (In M) Global) → to < length new
        → (length (get_or new to d).items ≡ length (outs ++ row ∷ [])) × All IsUnusedIn (get_or new to d).items
    row-grown to d less =
        let within : to < length old = subst (λ n. to < n) (sym linked.1.0) less in
        let here : to < length row.items = subst (λ n. to < n) (sym count) within in
        let out = element_at row.items to here in
        let one = more-at to d within (get_or row.items to out) (slice_get-get_or row.items to out here) in
        let was = ends.ins_are to d within in (
          ap (λ l. length l) one.1 ∙ length_push (get_or old to d).items one.0 ∙ ap (λ (n : ℕ). n + 1) was.0 ∙ sym (length_push outs row),
          subst (λ l. All IsUnusedIn l) (sym one.1) (All-push IsUnusedIn (get_or old to d).items one.0 was.1 one.3),
        )

    -- Where the ends of the new rings stand.
    new-pair : (from to : ℕ) (out : Out M) (inlet : In M) → from ≡ length outs → StandsAt (outs ++ row ∷ []) from to out → StandsAt new to from inlet
        → IsPair out inlet
    new-pair from to out inlet is stands other =
        let mine : row ≡ stands.0 = some-same row stands.0 (sym (get-push outs row from is) ∙ stands.1) in
        let there : slice_get row.items to ≡ Some out = subst (λ (v : Vec (Out M) Global). slice_get v.items to ≡ Some out) (sym mine) stands.2 in
        let within : to < length old = subst (λ n. to < n) (sym linked.1.0) (slice_get_within new to other.0 other.1) in
        let d = other.0 in
        let one = more-at to d within out there in
        let last : other.0.items ≡ (get_or old to d).items ++ one.0 ∷ [] =
        ap (λ (v : Vec (In M) Global). v.items) (sym (get_or_from_slice_get new to other.0 d other.1)) ∙ one.1 in
        let place : from ≡ length (get_or old to d).items = is ∙ sym (ends.ins_are to d within).0 in
        let same : one.0 ≡ inlet = some-same one.0 inlet
        (sym (get-push (get_or old to d).items one.0 from place) ∙ sym (ap (λ l. slice_get l from) last) ∙ other.2) in
        subst (λ (i : In M). IsPair out i) same one.2

    old-pair : (from to : ℕ) (out : Out M) (inlet : In M) → from ≢ length outs → StandsAt (outs ++ row ∷ []) from to out → StandsAt new to from inlet
        → IsPair out inlet
    old-pair from to out inlet isnt stands other =
        let at : slice_get outs from ≡ Some stands.0 = sym (place-kept outs row from isnt) ∙ stands.1 in
        let within : to < length old = subst (λ n. to < n) (sym linked.1.0) (slice_get_within new to other.0 other.1) in
        let here : to < length row.items = subst (λ n. to < n) (sym count) within in
        let d = other.0 in
        let x = element_at row.items to here in
        let one = more-at to d within (get_or row.items to x) (slice_get-get_or row.items to x here) in
        let last : other.0.items ≡ (get_or old to d).items ++ one.0 ∷ [] =
        ap (λ (v : Vec (In M) Global). v.items) (sym (get_or_from_slice_get new to other.0 d other.1)) ∙ one.1 in
        let elsewhere : from ≢ length (get_or old to d).items = λ same. isnt (same ∙ (ends.ins_are to d within).0) in
        let was : slice_get (get_or old to d).items from ≡ Some inlet =
        sym (place-kept (get_or old to d).items one.0 from elsewhere) ∙ sym (ap (λ l. slice_get l from) last) ∙ other.2 in
        ends.pairs from to out inlet (stands.0, at, stands.2) (get_or old to d, slice_get-get_or old to d within, was)

    pub ends-more : AreEnds plan sites (outs ++ row ∷ []) new
    ends-more = record {
      count = sym linked.1.0 ∙ ends.count;
      outs_are = All-push (λ one. (length one.items ≡ sites) × All (IsUnusedOut plan) one.items) outs row ends.outs_are (count ∙ ends.count, linked.0);
      ins_are = row-grown;
      pairs = λ from to out inlet stands other. dite (ℕ_discrete from (length outs))
          (λ is. new-pair from to out inlet is stands other) (λ isnt. old-pair from to out inlet isnt stands other);
    }
