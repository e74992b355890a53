-- Which item is read by a name.
use Rattle.std.proofs.Common.{◌≡◌, ℕ, Bool, true, false, not, List, Option, Some, None, map, refl, sym, ◌∙◌, ap, eq-eqb, option_map, slice_get}
use Rattle.std.proofs.lemmas.Option.{slice_get-map}
use Rattle.pv_base.specs.Catalog.{Declared, Item, place_of}
use Rattle.pv_protocol.specs.Lock.{is_of_site}
use Rattle.pv_embed.specs.Hosted.{HostedState}
use Rattle.pv_embed.specs.HostedView.{IsHosted, hosted_of}
use Rattle.pv_embed.specs.declared.hosted.HostedSite.TheInside.{Inside}

-- The item at a place, by its site.
declared_at : (item : Option Item) (site : ℕ) → option_map (λ (declared : Item). declared.site) item ≡ Some site → (declared : Item) × (item ≡ Some declared) × (declared.site ≡ site)
declared_at None site is = absurd (let wrong : ⊥ = cc in wrong)
declared_at (Some declared) site is = let same : declared.site ≡ site = cc in (declared, refl, same)

pub item_at : (items : List Item) (n site : ℕ) → slice_get (map (λ (declared : Item). declared.site) items) n ≡ Some site
    → (declared : Item) × (slice_get items n ≡ Some declared) × (declared.site ≡ site)
item_at items n site is = declared_at (slice_get items n) site (sym (slice_get-map (λ (declared : Item). declared.site) items n) ∙ is)

pub at_home : (items : List Item) (n site : ℕ) → slice_get (map (λ (declared : Item). declared.site) items) n ≡ Some site → is_of_site site (slice_get items n) ≡ true
at_home items n site is =
    let found = item_at items n site is in
    ap (is_of_site site) found.1 ∙ eq-eqb found.0.site site found.2

pub not-equal : (b : Bool) → true ≡ not b → b ≡ false
not-equal true h = h
not-equal false h = refl

pub not-unequal : (b : Bool) → false ≡ not b → b ≡ true
not-unequal true h = refl
not-unequal false h = h

module _ (inside : Inside) (hosted : HostedState) (view_is : hosted_of inside ≡ hosted) (invariant : IsHosted inside) where
  catalog_is : inside.catalog ≡ hosted.site.catalog
  catalog_is = sym invariant.catalog ∙ ap (λ (state : HostedState). state.site.catalog) view_is

  pub me_is : inside.me.0 ≡ hosted.site.me
  me_is = sym invariant.me ∙ ap (λ (state : HostedState). state.site.me) view_is

  -- The item at the place of a name, which is declared at this site.
  pub named : (name : List ℕ) (n site : ℕ) → Some n ≡ place_of name inside.catalog.items
      → slice_get (map (λ (declared : Item). declared.site) inside.catalog.items) n ≡ Some site
      → (item : Item) × (place_of name hosted.site.catalog.items ≡ Some n) × (slice_get hosted.site.catalog.items n ≡ Some item) × (item.site ≡ site)
  named name n site place is =
      let found = item_at inside.catalog.items n site is in (
        found.0,
        ap (λ (declared : Declared). place_of name declared.items) (sym catalog_is) ∙ sym place,
        ap (λ (declared : Declared). slice_get declared.items n) (sym catalog_is) ∙ found.1,
        found.2,
      )
