-- The cell of a site, and the site that it stands for.
use Rattle.std.proofs.Common.{◌≡◌, ℕ, zero, suc, ◌+◌, true, Option, Some, None, List, [], ◌∷◌, map, refl, sym, ap, subst, ◌∙◌, eq-eqb, arith}
use Rattle.std.specs.Prelude.{slice_get, get_or}
use Rattle.std.specs.Option.{option_map}
use Rattle.std.proofs.lemmas.Option.{slice_get-map}
use Rattle.pv_base.specs.Catalog.{Declared, Item}
use Rattle.pv_protocol.specs.Lock.{is_home, is_of_site}
use Rattle.pv_protocol.specs.State.{Site}
use Rattle.pv_protocol.specs.World.{World, no_site, site_at}
use Rattle.pv_world.specs.Readings.{OwnsItem}
use Rattle.pv_world.specs.Stands.{Stands, StandForSites, StandsForSite}
use Rattle.pv_world.specs.declared.cell.Cell.{Cell}
use Rattle.pv_world.specs.declared.cell.Cell.TheVariants.{Up, Down, Vacant}
use Rattle.pv_world.specs.declared.world.World as own

module _ (catalog : Declared) where
  cell-from : (k : ℕ) (cells : List Cell) (sites : List Site) → StandForSites catalog k cells sites
      → (n : ℕ) (cell : Cell) → slice_get cells n ≡ Some cell → StandsForSite catalog (k + n) cell (get_or sites n no_site)
  cell-from k [] [] stand n cell is = absurd (let wrong : ⊥ = cc in wrong)
  cell-from k [] (site ∷ sites) stand n cell is = absurd stand
  cell-from k (first ∷ cells) [] stand n cell is = absurd stand
  cell-from k (first ∷ cells) (site ∷ sites) stand zero cell is =
      let here : first ≡ cell = cc in
      let own : k ≡ k + 0 = omega arith in
      subst (λ m. StandsForSite catalog m cell site) own (subst (λ c. StandsForSite catalog k c site) here stand.0)
  cell-from k (first ∷ cells) (site ∷ sites) stand (suc n) cell is =
      let own : (k + 1) + n ≡ k + suc n = omega arith in
      subst (λ m. StandsForSite catalog m cell (get_or sites n no_site)) own (cell-from (k + 1) cells sites stand.1 n cell is)

  none-from : (k : ℕ) (cells : List Cell) (sites : List Site) → StandForSites catalog k cells sites → (n : ℕ) → slice_get cells n ≡ None → get_or sites n no_site ≡ no_site
  none-from k [] [] stand n is = refl
  none-from k [] (site ∷ sites) stand n is = absurd stand
  none-from k (first ∷ cells) [] stand n is = absurd stand
  none-from k (first ∷ cells) (site ∷ sites) stand zero is = absurd (let wrong : ⊥ = cc in wrong)
  none-from k (first ∷ cells) (site ∷ sites) stand (suc n) is = none-from (k + 1) cells sites stand.1 n is

module _ (world : own.World) (is : World) (stands : Stands world is) (n : ℕ) where
  -- The cell of this number stands for the site of this number.
  pub cell-stands : (cell : Cell) → slice_get world.cells.items n ≡ Some cell → StandsForSite world.catalog n cell (site_at is n)
  cell-stands cell found =
      let own : 0 + n ≡ n = omega arith in
      subst (λ m. StandsForSite world.catalog m cell (site_at is n)) own (cell-from world.catalog 0 world.cells.items is.sites stands.sites n cell found)

  -- Where there is no such cell there is no such site.
  pub no-cell : slice_get world.cells.items n ≡ None → site_at is n ≡ no_site
  no-cell found = none-from world.catalog 0 world.cells.items is.sites stands.sites n found

-- The site of an item owns it.

at-home : (item : Option Item) (n : ℕ) → option_map (λ (declared : Item). declared.site) item ≡ Some n → is_of_site n item ≡ true
at-home None n is = absurd (let wrong : ⊥ = cc in wrong)
at-home (Some declared) n is = let same : declared.site ≡ n = cc in eq-eqb declared.site n same

pub owns-item : (catalog : Declared) (n : ℕ) (cell : Cell) (site : Site) (item : ℕ) → StandsForSite catalog n cell site
    → slice_get (map (λ (declared : Item). declared.site) catalog.items) item ≡ Some n → OwnsItem cell item
owns-item catalog n (Up up) site item stands is =
    let own : is_home catalog n item ≡ true = at-home (slice_get catalog.items item) n (sym (slice_get-map (λ (declared : Item). declared.site) catalog.items item) ∙ is) in
    rw (stands.catalog, stands.me) own
owns-item catalog n (Down log store) site item stands is = tt
owns-item catalog n Vacant site item stands is = tt

-- The site of a declared item.
pub same-site : (items : List Item) (item n : ℕ) (declared : Item) → slice_get (map (λ (declared : Item). declared.site) items) item ≡ Some n → slice_get items item ≡ Some declared
    → n ≡ declared.site
same-site items item n declared is found =
    let both : Some n ≡ Some declared.site = sym is ∙ slice_get-map (λ (declared : Item). declared.site) items item ∙ ap (option_map (λ (declared : Item). declared.site)) found in
    let same : n ≡ declared.site = cc in same
