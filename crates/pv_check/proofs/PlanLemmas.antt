-- The wants of a program, split by their sites, are its plan.
use Rattle.std.proofs.Common.{◌≡◌, ⊎_elim, ℕ, zero, suc, ◌<◌, true, List, [], ◌∷◌, ◌++◌, map, length, slice_get, get_or, Option, Some, None, refl, ap, subst, ◌∙◌, arith}
use Rattle.std.specs.Prelude.{IsTrue}
use Rattle.std.specs.List.{All, AllPairs, Any, Contains}
use Rattle.std.proofs.lemmas.Bool.{false≢true, eqb-true, eq-eqb, cases_lt}
use Rattle.std.proofs.lemmas.List.{length-map}
use Rattle.std.proofs.lemmas.List.Elements.{All-contains, All-nil, All-push, All-map, All-filter, filter_passes, Contains-append_left}
use Rattle.std.proofs.lemmas.List.Kept.{AllPairs-filter}
use Rattle.std.proofs.lemmas.List.Quantifiers.{all_pairs_push, Any-push}
use Rattle.std.proofs.lemmas.Option.{slice_get-get_or}
use Rattle.pv_base.specs.Want.{Want}
use Rattle.pv_base.specs.Catalog.{Item}
use Rattle.pv_model.specs.Syntax.{Program}
use Rattle.pv_model.specs.ProgramLaws.{assigns}
use Rattle.pv_model.specs.Check.{Part, names_item, IsWant, IsPart, IsPlan}
use Rattle.pv_base.proofs.ContainsLemmas.{Contains-filter}
use Rattle.pv_check.specs.Wants.{AreWants, is_home_site, is_at, wants_at, with_part, parts_among}

is_home_site-true : (home : Option ℕ) (site : ℕ) → is_home_site home site ≡ true → home ≡ Some site
is_home_site-true None site h = absurd (false≢true h)
is_home_site-true (Some home) site h = ap Some (eqb-true home site h)

is_home_site-same : (home : Option ℕ) (site : ℕ) → home ≡ Some site → is_home_site home site ≡ true
is_home_site-same home site h = ap (λ (o : Option ℕ). is_home_site o site) h ∙ eq-eqb site site refl

Any-from_Contains : {X : Type 0} (P : X → Type 0) (xs : List X) (x : X) → Contains xs x → P x → Any P xs
Any-from_Contains P xs x (k, l, at) p = (k, x, l, at, p)

Any-kept : {X : Type 0} (P : X → Type 0) (xs : List X) (y : X) → Any P xs → Any P (xs ++ y ∷ [])
Any-kept P xs y (k, x, l, at, p) =
    Any-from_Contains P (xs ++ y ∷ []) x (Contains-append_left xs (y ∷ []) x (k, l, at)) p

-- The wants of a site.

wants-each : (program : Program) (items : List Item) (wants : List Want) (site : ℕ) → AreWants program wants
    → All (IsWant program items site) (wants_at items site wants)
wants-each program items wants site are = λ k d within. record {
  named = All-filter (is_at items site) (λ (want : Want). IsTrue (names_item program want.item)) wants are.named k d within;
  home = is_home_site-true _ site (filter_passes (is_at items site) wants k d within);
  exclusive = All-filter (is_at items site) (λ (want : Want). want.exclusive ≡ assigns program want.item) wants are.exclusive k d within;
}

-- The parts.

All-with_part : (P : Part → Type 0) (parts : List Part) (site : ℕ) (wants : List Want) → All P parts
    → (0 < length wants → P (record { site = site; wants = wants }))
    → All P (with_part parts site wants)
All-with_part P parts site [] h at = h
All-with_part P parts site (want ∷ wants) h at =
    All-push P parts (record { site = site; wants = want ∷ wants }) h (at (omega arith))

pairs-with_part : (parts : List Part) (site : ℕ) (wants : List Want) → AllPairs (λ (part later : Part). part.site < later.site) parts
    → All (λ (part : Part). part.site < site) parts
    → AllPairs (λ (part later : Part). part.site < later.site) (with_part parts site wants)
pairs-with_part parts site [] h below = h
pairs-with_part parts site (want ∷ wants) h below =
    all_pairs_push (λ (part later : Part). part.site < later.site) parts (record { site = site; wants = want ∷ wants }) h below

Any-with_part : (P : Part → Type 0) (parts : List Part) (site : ℕ) (wants : List Want) → Any P parts
    → Any P (with_part parts site wants)
Any-with_part P parts site [] h = h
Any-with_part P parts site (want ∷ wants) h = Any-kept P parts (record { site = site; wants = want ∷ wants }) h

Any-last_part : (parts : List Part) (site : ℕ) (wants : List Want) (x : Want) → Contains wants x
    → Any (λ (part : Part). Contains part.wants x) (with_part parts site wants)
Any-last_part parts site [] x (k, l, at) = absurd (omega (arith, l))
Any-last_part parts site (want ∷ wants) x h =
    Any-push (λ (part : Part). Contains part.wants x) parts (record { site = site; wants = want ∷ wants }) h

parts-below : (items : List Item) (wants : List Want) (n : ℕ) → All (λ (part : Part). part.site < n) (parts_among items wants n)
parts-below items wants zero = All-nil _
parts-below items wants (suc n) =
    All-with_part (λ (part : Part). part.site < suc n) (parts_among items wants n) n (wants_at items n wants)
    (λ k d l. omega (arith, parts-below items wants n k d l))
    (λ h. omega arith)

parts-ascending : (items : List Item) (wants : List Want) (n : ℕ)
    → AllPairs (λ (part later : Part). part.site < later.site) (parts_among items wants n)
parts-ascending items wants zero = λ i j d l within. absurd (omega (arith, within))
parts-ascending items wants (suc n) =
    pairs-with_part (parts_among items wants n) n (wants_at items n wants) (parts-ascending items wants n) (parts-below items wants n)

parts-each : (program : Program) (items : List Item) (wants : List Want) (n : ℕ) → AreWants program wants
    → All (IsPart program items) (parts_among items wants n)
parts-each program items wants zero are = All-nil _
parts-each program items wants (suc n) are =
    All-with_part (IsPart program items) (parts_among items wants n) n (wants_at items n wants)
    (parts-each program items wants n are)
    (λ h. record {
      some = h;
      ascending = AllPairs-filter (λ (want later : Want). want.item < later.item) (is_at items n) wants are.ascending;
      each = wants-each program items wants n are;
    })

parts-last : (items : List Item) (wants : List Want) (want : Want) (site n : ℕ) → site ≡ n → Contains wants want → is_at items site want ≡ true
    → Any (λ (part : Part). Contains part.wants want) (parts_among items wants (suc n))
parts-last items wants want site n same h at =
    subst (λ (n : ℕ). Any (λ (part : Part). Contains part.wants want) (parts_among items wants (suc n))) same
    (Any-last_part (parts_among items wants site) site (wants_at items site wants) want
    (Contains-filter (is_at items site) wants want at h))

parts-whole : (items : List Item) (wants : List Want) (want : Want) (site n : ℕ) → site < n → Contains wants want → is_at items site want ≡ true
    → Any (λ (part : Part). Contains part.wants want) (parts_among items wants n)
parts-whole items wants want site zero here h at = absurd (omega (arith, here))
parts-whole items wants want site (suc n) here h at =
    ⊎_elim
    (λ before. Any-with_part (λ (part : Part). Contains part.wants want) (parts_among items wants n) n (wants_at items n wants)
    (parts-whole items wants want site n before h at))
    (λ behind. parts-last items wants want site n (omega (arith, here, behind)) h at)
    (cases_lt site n)

-- The parts of all sites are a plan, where each want is of one of the items, and each item is at one of the sites.
pub parts_among-plan : (program : Program) (items : List Item) (wants : List Want) (sites : ℕ)
    → All (λ (want : Want). want.item < length items) wants
    → All (λ (item : Item). item.site < sites) items
    → AreWants program wants → IsPlan program items (parts_among items wants sites)
parts_among-plan program items wants sites known homes are = record {
  ascending = parts-ascending items wants sites;
  each = parts-each program items wants sites are;
  whole = λ n named.
      let want : Want = record { item = n; exclusive = assigns program n } in
      let found : Contains wants want = are.whole n named in
      let within : n < length items = All-contains (λ (want : Want). want.item < length items) wants want known found in
      let site_of = map (λ (declared : Item). declared.site) items in
      let place : n < length site_of = omega (arith, within, length-map items (λ (declared : Item). declared.site)) in
      let bound : get_or site_of n 0 < sites = All-map (λ (site : ℕ). site < sites) (λ (declared : Item). declared.site) items homes n 0 place in
      parts-whole items wants want (get_or site_of n 0) sites bound found
      (is_home_site-same (slice_get site_of n) (get_or site_of n 0) (slice_get-get_or site_of n 0 place));
}
